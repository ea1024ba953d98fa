use borrow.Author.Rules.{scaled_Fits}
use Rattle.std.proofs.Common.{ℕ, ◌*◌, ◌-◌, ◌<◌, length, refl, sym, ◌∙◌, subst, arith}
use Rattle.labels.specs.Labels.{slot}
use Rattle.labels.proofs.Nodes.{sites_few}
use Rattle.labels.proofs.Writes.{bests_on, labels_on, used_on, links_on}
use Rattle.labels.proofs.Seeding.{first_inside, names_more}
use Rattle.routing.proofs.tournament.Tournament.seed_nodes.Goals as goal

pub overflow_cast-slots : goal.overflow_cast-slots
overflow_cast-slots g c =
    let K = g.M.Measure.kind in
    let self = c.args.self.now in
    let node = c.loop-node.node in
    let inside = first_inside (slot K c.loop-node.slots) self.k self.sites node (2 * (node - 1)) self.some (omega arith) (omega arith) (λ s lt. c.loop-node.invariant.bests s ∙ c.requires.bests s lt) c.loop-node.invariant.names in
    omega (arith, self.few, inside, c.named.ensures)

pub offset_bounds-slots-node : goal.offset_bounds-slots-node
offset_bounds-slots-node g c =
    let self = c.args.self.now in
    let few = sites_few self.k self.sites self.some in
    let low : c.loop-node.node - 1 < length c.args.slots.now = omega (arith, c.requires.size) in
    search scaled_Fits

pub bounds-slots-node : goal.bounds-slots-node
bounds-slots-node g c =
    let self = c.args.self.now in
    omega (arith, c.requires.size, sites_few self.k self.sites self.some)

pub bounds-slots-node-in-loop-node : goal.bounds-slots-node-in-loop-node
bounds-slots-node-in-loop-node g c =
    let self = c.args.self.now in
    omega (arith, c.requires.size, sites_few self.k self.sites self.some)

pub loop-node-preserved : goal.loop-node-preserved
loop-node-preserved g c =
    let K = g.M.Measure.kind in
    let self = c.args.self.now in
    let xs = c.loop-node.slots in
    let W = slot K c.args.slots.now in
    let node = c.loop-node.node in
    let i = node - 1 in
    let h = c.loop-node.invariant in
    let low : i < length xs = omega (arith, c.requires.size, sites_few self.k self.sites self.some) in
    let r = c.index-slots-node.result in
    let inside = first_inside (slot K xs) self.k self.sites node (2 * i) self.some (omega arith) (omega arith) (λ s lt. h.bests s ∙ c.requires.bests s lt) h.names in
    record {
      names = names_more K xs self.k self.sites i node _ (omega arith) low (omega arith) (omega arith) c.named.ensures (subst (λ (x : ℕ). x < self.sites * self.k) (sym c.named.ensures) inside) r refl h.names;
      bests = bests_on K xs i _ low W r refl h.bests;
      labels = labels_on K xs i _ low W r refl refl h.labels;
      used = used_on K xs i _ low W r refl h.used;
      links = links_on K xs i _ low W r refl refl h.links;
    }

pub returns-clause-named : goal.returns-clause-named
returns-clause-named g c = λ i some lt. c.loop-node.invariant.names.first i (omega (arith, some, c.loop-node-test.false)) lt
