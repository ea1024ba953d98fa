use borrow.Author.Rules.{scaled_Fits}
use Rattle.std.proofs.Common.{ℕ, ◌*◌, ◌/◌, ◌<◌, length, set, ◌+◌, sym, ap, ◌∙◌, subst, arith}
use Rattle.labels.specs.Labels.{slot, table}
use Rattle.labels.specs.Tournament.{Better}
use Rattle.labels.proofs.Nodes.{sites_few}
use Rattle.labels.proofs.Standing.{better_inside}
use Rattle.labels.proofs.Writes.{slot_read, slot_same, slot_other, slot_stays}
use Rattle.labels.proofs.Climbing.{Rises, sibling_low, rises_none, rises_inside, rises_other, rises_fits, rises_more, rises_all}
use Rattle.routing.proofs.tournament.Tournament.climb.Goals as goal

pub offset_bounds-slots-site : goal.offset_bounds-slots-site
offset_bounds-slots-site g c =
    let self = c.args.self.now in
    let few = sites_few self.k self.sites self.some in
    let low : c.args.site < length c.args.slots.now = omega (arith, c.requires.size, c.requires.here) in
    search scaled_Fits

pub loop-node-init : goal.loop-node-init
loop-node-init g c =
    let K = g.M.Measure.kind in
    let self = c.args.self.now in
    let xs = c.args.slots.now in
    let few = sites_few self.k self.sites self.some in
    let is = c.index-slots-site.is in
    let read = slot_read K xs c.args.site c.index-slots-site.result (omega (arith, c.requires.size, c.requires.here)) is in
    subst (λ (x : ℕ). Rises K self.limit (slot K xs) (slot K xs) self.k self.sites (self.sites + c.args.site) x) (ap (λ y. y.best) (sym read ∙ is))
    (rises_none K self.limit (slot K xs) self.k self.sites c.args.site c.requires.here c.requires.under)

pub better-winner-requires-clause-fits : goal.better-winner-requires-clause-fits
better-winner-requires-clause-fits g c = rises_fits c.loop-node.invariant c.requires.fits

pub better-winner-requires-clause-left : goal.better-winner-requires-clause-left
better-winner-requires-clause-left g c =
    let low = rises_inside c.loop-node.invariant in
    omega (arith, c.requires.size, low)

pub better-winner-requires-clause-right : goal.better-winner-requires-clause-right
better-winner-requires-clause-right g c =
    let low = rises_other c.loop-node.invariant c.loop-node-test.true in
    subst (λ (x : ℕ). x < length c.loop-node.slots) (sym c.named-other.ensures) (omega (arith, c.requires.size, low))

pub overflow_cast-slots : goal.overflow_cast-slots
overflow_cast-slots g c =
    let K = g.M.Measure.kind in
    let self = c.args.self.now in
    let W = slot K c.loop-node.slots in
    let h = c.loop-node.invariant in
    let other = rises_other h c.loop-node-test.true in
    let low : c.better-winner.result < self.sites * self.k =
    better_inside K self.limit (λ p. (W p).label) (self.sites * self.k) c.loop-node.winner c.named-other.result c.better-winner.result (rises_inside h) (subst (λ (x : ℕ). x < self.sites * self.k) (sym c.named-other.ensures) other) c.better-winner.ensures in
    let few = self.few in
    record { fits = omega arith }

pub offset_bounds-slots-node : goal.offset_bounds-slots-node
offset_bounds-slots-node g c =
    let self = c.args.self.now in
    let few = sites_few self.k self.sites self.some in
    let low : c.loop-node.node / 2 < length c.args.slots.now = omega (arith, c.requires.size, c.loop-node.invariant.low) in
    search scaled_Fits

pub bounds-slots-node : goal.bounds-slots-node
bounds-slots-node g c = let self = c.args.self.now in let few = sites_few self.k self.sites self.some in omega (arith, c.requires.size, c.loop-node.invariant.low)

pub bounds-slots-node-in-loop-node : goal.bounds-slots-node-in-loop-node
bounds-slots-node-in-loop-node g c = let self = c.args.self.now in let few = sites_few self.k self.sites self.some in omega (arith, c.requires.size, c.loop-node.invariant.low)

pub loop-node-preserved : goal.loop-node-preserved
loop-node-preserved g c =
    let K = g.M.Measure.kind in
    let self = c.args.self.now in
    let xs = c.loop-node.slots in
    let i = c.loop-node.node / 2 in
    let r = c.better-winner.result in
    let few = sites_few self.k self.sites self.some in
    let low : i < length xs = omega (arith, c.requires.size, c.loop-node.invariant.low) in
    let is = c.index-slots-node.is in
    let read = sym is ∙ slot_read K xs i c.index-slots-node.result low is in
    let better = subst (λ (x : ℕ). Better K self.limit (table K xs) c.loop-node.winner x r) c.named-other.ensures c.better-winner.ensures in
    rises_more c.loop-node.invariant (slot K (set xs i _)) r c.loop-node-test.true better
    (ap (λ y. y.winner) (slot_same K xs i _ low))
    (λ p ne. ap (λ y. y.winner) (slot_other K xs i _ low p ne))
    (slot_stays K xs i _ low ℕ (λ y. y.best) (ap (λ y. y.best) read))
    (λ p. (slot_stays K xs i _ low _ (λ y. y.label) (ap (λ y. y.label) read) p, slot_stays K xs i _ low _ (λ y. y.share) (ap (λ y. y.share) read) p))
    (slot_stays K xs i _ low ℕ (λ y. y.used) (ap (λ y. y.used) read))
    (λ p. (slot_stays K xs i _ low ℕ (λ y. y.first) (ap (λ y. y.first) read) p, slot_stays K xs i _ low ℕ (λ y. y.next) (ap (λ y. y.next) read) p))

pub returns-clause-noted : goal.returns-clause-noted
returns-clause-noted g c = rises_all c.loop-node.invariant c.loop-node-test.false

pub returns-clause-labels : goal.returns-clause-labels
returns-clause-labels g c = c.loop-node.invariant.labels

pub returns-clause-used : goal.returns-clause-used
returns-clause-used g c = c.loop-node.invariant.used

pub returns-clause-links : goal.returns-clause-links
returns-clause-links g c = c.loop-node.invariant.links

pub named-other-requires-clause-inside : goal.named-other-requires-clause-inside
named-other-requires-clause-inside g c = sibling_low c.loop-node.node c.args.self.now.sites c.loop-node.invariant.low
