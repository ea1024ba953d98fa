use Rattle.std.proofs.Common.{◌≤◌, length, subst, arith}
use Rattle.labels.specs.Outgoing.{Skips, Lands}
use Rattle.labels.proofs.Outgoing.{slot_read}
use Rattle.routing.proofs.outgoing.first_link.Goals as goal

pub returns-else-places-slots-clause-skips : goal.returns-else-places-slots-clause-skips
returns-else-places-slots-clause-skips g c =
    let links = g.N.Links.links c.args.network.now in
    let xs = c.args.slots.now in
    let room : length links ≤ length xs = omega (arith, c.places.ensures) in
    subst (λ y. Skips links c.args.site 0 y.first) (slot_read g.M.Measure.kind xs c.args.site c.index-slots-site.result (omega arith)) ((c.requires.listed room).firsts c.args.site c.requires.here).0

pub returns-else-places-slots-clause-lands : goal.returns-else-places-slots-clause-lands
returns-else-places-slots-clause-lands g c room =
    let links = g.N.Links.links c.args.network.now in
    let xs = c.args.slots.now in
    subst (λ y. Lands links c.args.site y.first) (slot_read g.M.Measure.kind xs c.args.site c.index-slots-site.result (omega arith)) ((c.requires.listed room).firsts c.args.site c.requires.here).1
