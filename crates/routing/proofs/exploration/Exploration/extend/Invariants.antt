use Rattle.std.proofs.Common.{◌≤◌, ◌-◌, length}
use Rattle.labels.specs.Labels.{table, Opens, Steady}
use Rattle.labels.specs.Outgoing.{Lands}
use Rattle.routing.specs.Finds.{Indexed}
use Rattle.routing.proofs.exploration.Exploration.extend.Given as goal

abbrev pub invariant-loop-i : goal.invariant-loop-i
invariant-loop-i g l =
    let K = g.M.Measure.kind in
    let t = l.self.tournament in
    let links = g.N.Links.links l.self.network.now in
    Opens K t.limit links t.k l.self.source l.self.destination (table K l.slots) l.h l.site l.i × Steady (table K l.initial.slots) (table K l.slots) × Indexed K t.limit links l.slots t.k t.sites × (length links ≤ length l.slots → Lands links l.site l.i)

abbrev pub decreases-loop-i : goal.decreases-loop-i
decreases-loop-i g l = length (g.N.Links.links l.self.network.now) - l.i
