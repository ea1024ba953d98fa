use Rattle.std.proofs.Common.{reverse, take}
use Rattle.labels.specs.Labels.{table, Traced}
use Rattle.routing.proofs.exploration.Exploration.trace.Given as goal

abbrev pub invariant-loop-i : goal.invariant-loop-i
invariant-loop-i g l =
    let K = g.M.Measure.kind in
    Traced K (g.N.Links.links l.self.network.now) l.self.tournament.k l.self.source l.self.destination (table K l.slots) (table K l.slots l.p).value l.q (reverse (take l.i l.row))
