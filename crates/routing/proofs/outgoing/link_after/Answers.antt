use Rattle.std.proofs.Common.{◌+◌, ◌≤◌, length, subst, arith}
use Rattle.labels.specs.Labels.{slot}
use Rattle.labels.specs.Outgoing.{Skips, Lands}
use Rattle.labels.proofs.Outgoing.{slot_read, next_listed}
use Rattle.routing.proofs.outgoing.link_after.Goals as goal

pub returns-else-places-slots-clause-skips : goal.returns-else-places-slots-clause-skips
returns-else-places-slots-clause-skips g c =
    let K = g.M.Measure.kind in
    let links = g.N.Links.links c.args.network.now in
    let xs = c.args.slots.now in
    let i = c.args.i in
    let room : length links ≤ length xs = omega (arith, c.places.ensures) in
    subst (λ y. Skips links c.args.site (i + 1) y.next) (slot_read K xs i c.index-slots-i.result (omega arith)) (next_listed links (slot K xs) _ c.args.site i (c.requires.listed room) c.requires.here c.requires.inside (c.requires.lands room)).0

pub returns-else-places-slots-clause-lands : goal.returns-else-places-slots-clause-lands
returns-else-places-slots-clause-lands g c room =
    let K = g.M.Measure.kind in
    let links = g.N.Links.links c.args.network.now in
    let xs = c.args.slots.now in
    let i = c.args.i in
    subst (λ y. Lands links c.args.site y.next) (slot_read K xs i c.index-slots-i.result (omega arith)) (next_listed links (slot K xs) _ c.args.site i (c.requires.listed room) c.requires.here c.requires.inside (c.requires.lands room)).1
