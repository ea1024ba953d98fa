use Rattle.std.proofs.Common.{ℕ, ◌≤◌, length, subst, arith}
use Rattle.labels.specs.Labels.{In, slot}
use Rattle.labels.proofs.Nodes.{site_low, site_of}
use Rattle.labels.proofs.Outgoing.{listed_same}
use Rattle.labels.proofs.Turns.{turn_settle, turn_wins, turn_apart, leads_all, none_waits, turn_less, starts_rests}
use Rattle.routing.proofs.exploration.Exploration.explore.Goals as goal

pub loop-h-init : goal.loop-h-init
loop-h-init g c =
    let self = c.args.self.now in
    let t = self.tournament in
    let K = g.M.Measure.kind in
    let cat = g.N.Links.links self.network.now in
    let start = c.start.ensures in
    let some = t.some in (
      starts_rests g.met.M.Measure.lawful t.limit t.admitted cat t.k self.source self.destination (omega arith, omega arith) start.starts,
      record { noted = start.noted; listed = λ few. listed_same cat (slot K c.args.slots.now) (slot K c.start.new.slots) t.sites 0 start.links (c.requires.listed (subst (λ n. length cat ≤ n) c.start.auto.slots few)) },
    )

pub returns-then-site-self-clause-ends : goal.returns-then-site-self-clause-ends
returns-then-site-self-clause-ends g c =
    let self = c.args.self.now in
    let t = self.tournament in
    let lead = c.in-Some.ensures in
    turn_wins g.met.M.Measure.lawful t.admitted (g.met.N.Links.sound self.network.now) c.loop-h.invariant.0 c.in-Some.h lead.waits (leads_all g.M.Measure.kind t.limit c.loop-h.slots c.in-Some.h lead)
    (subst (λ (x : ℕ). In t.k x c.in-Some.h) c.if-site-self.true (site_of t.k c.in-Some.h t.some))

pub settle-requires-clause-here : goal.settle-requires-clause-here
settle-requires-clause-here g c =
    let t = c.args.self.now.tournament in
    let low = c.in-Some.ensures.low in
    site_low t.k c.in-Some.h t.sites t.some (omega (arith, c.requires.size))

pub extend-requires-clause-here : goal.extend-requires-clause-here
extend-requires-clause-here g c =
    let t = c.args.self.now.tournament in
    let low = c.in-Some.ensures.low in
    site_low t.k c.in-Some.h t.sites t.some (omega (arith, c.requires.size))

pub extend-requires-clause-opens : goal.extend-requires-clause-opens
extend-requires-clause-opens g c =
    let self = c.args.self.now in
    let t = self.tournament in
    let lead = c.in-Some.ensures in
    turn_settle g.met.M.Measure.lawful t.admitted (g.met.N.Links.sound self.network.now) c.loop-h.invariant.0 _ c.settle.ensures.settles lead.waits (leads_all g.M.Measure.kind t.limit c.loop-h.slots c.in-Some.h lead) (site_of t.k c.in-Some.h t.some) c.if-site-self.false

pub extend-requires-clause-indexed : goal.extend-requires-clause-indexed
extend-requires-clause-indexed g c =
    let self = c.args.self.now in
    let t = self.tournament in
    let K = g.M.Measure.kind in
    let cat = g.N.Links.links self.network.now in
    record { noted = c.settle.ensures.noted; listed = λ few. listed_same cat (slot K c.loop-h.slots) (slot K c.settle.new.slots) t.sites 0 c.settle.ensures.links (c.loop-h.invariant.1.listed (subst (λ n. length cat ≤ n) c.settle.auto.slots few)) }

pub loop-h-smaller : goal.loop-h-smaller
loop-h-smaller g c =
    let lead = c.in-Some.ensures in
    let low = lead.low in
    turn_less g.M.Measure.kind c.loop-h.slots c.settle.new.slots c.extend.new.slots c.in-Some.h c.settle.ensures.settles lead.waits c.in_ok-extend.ensures.rests.1 (omega arith) low

pub returns-clause-ends : goal.returns-clause-ends
returns-clause-ends g c =
    let self = c.args.self.now in
    let t = self.tournament in
    turn_apart g.met.M.Measure.lawful t.admitted (g.met.N.Links.sound self.network.now) c.loop-h.invariant.0 (none_waits g.M.Measure.kind c.loop-h.slots c.in_default.ensures)
