use Rattle.std.proofs.Common.{◌-◌, sym, ap, ◌∙◌, arith}
use Rattle.labels.specs.Labels.{slot}
use Rattle.labels.proofs.Nodes.{sites_few, named_inner, named_leaf}
use Rattle.labels.proofs.Writes.{slot_read}
use Rattle.routing.proofs.tournament.Tournament.named.Goals as goal

pub offset_bounds-slots-node-else-node-self : goal.offset_bounds-slots-node-else-node-self
offset_bounds-slots-node-else-node-self g c = let self = c.args.self.now in let few = sites_few self.k self.sites self.some in omega (arith, c.requires.size)

pub bounds-slots-node-else-node-self : goal.bounds-slots-node-else-node-self
bounds-slots-node-else-node-self g c = let self = c.args.self.now in let few = sites_few self.k self.sites self.some in omega (arith, c.requires.size)

pub bounds-slots-node-else-node-self-2 : goal.bounds-slots-node-else-node-self-2
bounds-slots-node-else-node-self-2 g c = let self = c.args.self.now in let few = sites_few self.k self.sites self.some in omega (arith, c.requires.size)

pub returns-then-node-self : goal.returns-then-node-self
returns-then-node-self g c =
    let K = g.M.Measure.kind in
    let self = c.args.self.now in
    let few = sites_few self.k self.sites self.some in
    let is = c.index-slots-node.is in
    ap (λ y. y.winner) (sym is ∙ slot_read K c.args.slots.now c.args.node c.index-slots-node.result (omega (arith, c.requires.size)) is) ∙ sym (named_inner (slot K c.args.slots.now) self.sites c.args.node c.if-node-self.true)

pub returns-else-node-self : goal.returns-else-node-self
returns-else-node-self g c =
    let K = g.M.Measure.kind in
    let self = c.args.self.now in
    let few = sites_few self.k self.sites self.some in
    let is = c.index-slots-node-else-node-self.is in
    ap (λ y. y.best) (sym is ∙ slot_read K c.args.slots.now (c.args.node - self.sites) c.index-slots-node-else-node-self.result (omega (arith, c.requires.size)) is) ∙ sym (named_leaf (slot K c.args.slots.now) self.sites c.args.node c.if-node-self.false)
