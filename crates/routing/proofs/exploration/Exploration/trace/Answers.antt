use Rattle.std.proofs.Common.{◌≡◌, ℕ, List, get_or, ◌∷◌, reverse, take, sym, ap, ◌∙◌, subst, arith}
use Rattle.std.proofs.lemmas.List.{get_or_default, take-set}
use Rattle.labels.specs.declared.Slot.{Slot}
use Rattle.measure.specs.Kind.{Kind}
use Rattle.labels.specs.Labels.{blank_slot, slot, table, Held, Traced}
use Rattle.labels.proofs.Chains.{waits_held}
use Rattle.labels.proofs.Turns.{held_inside}
use Rattle.labels.proofs.Tracing.{traced_none, traced_all, traced_more, traced_short, leg_more, legs_long}
use Rattle.routing.proofs.exploration.Exploration.trace.Goals as goal

-- the place that was read is the table's
read : {V L : Type 0} (K : Kind V L) (slots : List (Slot V)) (q : ℕ) (x : Slot V) → Held (table K slots) q → get_or slots q x ≡ slot K slots q
read K slots q x held = get_or_default slots q x (blank_slot K) (held_inside K slots q held)

pub loop-i-init : goal.loop-i-init
loop-i-init g c = let wins = c.requires.wins in traced_none wins.rests.kept c.args.p wins.at (waits_held _ wins.waits)

pub returns-then-previous-q : goal.returns-then-previous-q
returns-then-previous-q g c =
    let here = read g.M.Measure.kind c.args.slots.now c.loop-i.q c.index-slots-q.result c.loop-i.invariant.held in
    let (walk, simple) = traced_all c.loop-i.invariant (ap (λ y. y.label.previous) (sym here) ∙ sym c.from-previous.ensures ∙ c.if-previous-q.true) in
    record { inside = omega arith; walk = rw (take-set c.loop-i.row c.loop-i.i _) walk; simple = rw (take-set c.loop-i.row c.loop-i.i _) simple }

pub loop-i-preserved : goal.loop-i-preserved
loop-i-preserved g c =
    let K = g.M.Measure.kind in
    let self = c.args.self.now in
    let A = table K c.args.slots.now in
    let x = get_or c.args.slots.now c.loop-i.q c.index-slots-q.result in
    let here = read K c.args.slots.now c.loop-i.q c.index-slots-q.result c.loop-i.invariant.held in
    let Goes : ℕ → List ℕ → Type 0 = λ q legs. Traced K (g.N.Links.links self.network.now) self.tournament.k self.source self.destination A (A c.args.p).value q legs in
    rw (leg_more c.loop-i.row c.loop-i.i x.label.link (omega arith))
    (subst (λ (q : ℕ). Goes q (x.label.link ∷ reverse (take c.loop-i.i c.loop-i.row))) (sym c.from-previous.ensures)
    (subst (λ (y : Slot g.row.M.Denot). Goes y.label.previous (y.label.link ∷ reverse (take c.loop-i.i c.loop-i.row))) (sym here)
    (traced_more c.loop-i.invariant (λ e. c.if-previous-q.false (c.from-previous.ensures ∙ ap (λ y. y.label.previous) here ∙ e)))))

pub unreachable-requires : goal.unreachable-requires
unreachable-requires g c =
    let self = c.args.self.now in
    let long = legs_long c.loop-i.row c.loop-i.i (omega arith) in
    let inside = self.source_in in
    let short = traced_short (g.met.N.Links.sound self.network.now) (reverse (take c.loop-i.i c.loop-i.row)) (omega (arith, c.requires.room)) c.loop-i.invariant in
    omega (arith, c.requires.room)

pub offset_bounds-slots-q : goal.offset_bounds-slots-q
offset_bounds-slots-q g c = let low = held_inside g.M.Measure.kind c.args.slots.now c.loop-i.q c.loop-i.invariant.held in omega (arith, low)

pub bounds-slots-q : goal.bounds-slots-q
bounds-slots-q g c = held_inside g.M.Measure.kind c.args.slots.now c.loop-i.q c.loop-i.invariant.held

pub bounds-slots-q-in-loop-i : goal.bounds-slots-q-in-loop-i
bounds-slots-q-in-loop-i g c = held_inside g.M.Measure.kind c.args.slots.now c.loop-i.q c.loop-i.invariant.held
