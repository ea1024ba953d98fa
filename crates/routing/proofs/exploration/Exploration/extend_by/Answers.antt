use Rattle.std.proofs.Common.{◌≤◌, length, refl, subst, arith}
use Rattle.std.proofs.lemmas.Result.{MatchResult-weaker}
use Rattle.labels.specs.Labels.{slot, table}
use Rattle.labels.proofs.Outgoing.{listed_same}
use Rattle.labels.proofs.Chains.{done_held}
use Rattle.labels.proofs.Turns.{held_inside, turn_none, turn_beaten, turn_dominated, turn_fit, turn_full, turn_adds}
use Rattle.routing.proofs.exploration.Exploration.extend_by.Goals as goal

pub returns-in_default-clause-opens : goal.returns-in_default-clause-opens
returns-in_default-clause-opens g c =
    let self = c.args.self.now in
    (turn_none g.met.M.Measure.lawful self.tournament.admitted (g.met.N.Links.sound self.network.now) c.requires.opens c.in_default.ensures, λ p. refl, c.requires.indexed)

pub returns-then-is_beaten-clause-opens : goal.returns-then-is_beaten-clause-opens
returns-then-is_beaten-clause-opens g c =
    let self = c.args.self.now in
    let beaten = c.is_beaten.ensures c.if-is_beaten.true in
    (turn_beaten g.met.M.Measure.lawful self.tournament.admitted (g.met.N.Links.sound self.network.now) c.requires.opens c.in-Some.ensures beaten, λ p. refl, c.requires.indexed)

pub is_covered-requires-clause-here : goal.is_covered-requires-clause-here
is_covered-requires-clause-here g c =
    let self = c.args.self.now in
    let offer = c.in-Some.ensures in
    let inside = ((g.met.N.Links.sound self.network.now).each c.args.i c.args.site c.in-Some.offer.site offer.value offer.leads).end_in in
    omega (arith, inside, self.spans)

pub returns-then-is_covered-clause-opens : goal.returns-then-is_covered-clause-opens
returns-then-is_covered-clause-opens g c =
    let self = c.args.self.now in
    let (p, at, held, over) = c.is_covered.ensures.yes c.if-is_covered.true in
    (turn_dominated g.met.M.Measure.lawful self.tournament.admitted (g.met.N.Links.sound self.network.now) c.requires.opens c.in-Some.ensures p at held over, λ p. refl, c.requires.indexed)

pub put-requires-clause-here : goal.put-requires-clause-here
put-requires-clause-here g c =
    let self = c.args.self.now in
    let offer = c.in-Some.ensures in
    let inside = ((g.met.N.Links.sound self.network.now).each c.args.i c.args.site c.in-Some.offer.site offer.value offer.leads).end_in in
    omega (arith, inside, self.spans)

pub put-requires-clause-fit : goal.put-requires-clause-fit
put-requires-clause-fit g c =
    let self = c.args.self.now in
    turn_fit g.met.M.Measure.lawful self.tournament.admitted (g.met.N.Links.sound self.network.now) c.requires.opens c.in-Some.ensures

pub returns-clause-opens : goal.returns-clause-opens
returns-clause-opens g c =
    let K = g.M.Measure.kind in
    let laws = g.met.M.Measure.lawful in
    let self = c.args.self.now in
    let cat = g.N.Links.links self.network.now in
    let offer = c.in-Some.ensures in
    let fresh = c.is_covered.ensures.no c.if-is_covered.false in
    let old = c.args.slots.now in
    let new = c.put.new.slots in
    MatchResult-weaker c.put.result c.put.ensures.put
    (λ done put. let (x, adds, noted) = put in
    let (opens, steady) = turn_adds laws self.tournament.admitted (g.met.N.Links.sound self.network.now) c.requires.opens offer fresh (table K new) x adds in
    (opens, steady, record { noted = noted; listed = λ few. listed_same cat (slot K old) (slot K new) self.tournament.sites 0 c.put.ensures.links (c.requires.indexed.listed (subst (λ n. length cat ≤ n) c.put.auto.slots few)) }))
    (λ why full. (c.in-Some.offer.site, full.0, turn_full laws self.tournament.admitted (g.met.N.Links.sound self.network.now) c.requires.opens offer fresh full.1))

pub offered-requires : goal.offered-requires
offered-requires g c = held_inside g.M.Measure.kind c.args.slots.now c.args.h (done_held _ c.requires.opens.done)

pub overflow_cast-newcomer : goal.overflow_cast-newcomer
overflow_cast-newcomer g c =
    let few = c.args.self.now.tournament.few in
    let low = held_inside g.M.Measure.kind c.args.slots.now c.args.h (done_held _ c.requires.opens.done) in
    record { fits = omega (arith, c.requires.size, few, low) }

pub overflow_cast-newcomer-2 : goal.overflow_cast-newcomer-2
overflow_cast-newcomer-2 g c =
    let self = c.args.self.now in
    let few = (g.met.N.Links.sound self.network.now).places_few (omega (arith, self.source_in)) in
    record { fits = omega (arith, few, c.requires.inside) }
