use Rattle.labels.specs.Labels.{table, Rests}
use Rattle.labels.proofs.Turns.{unsettled}
use Rattle.routing.specs.Finds.{Indexed}
use Rattle.routing.proofs.exploration.Exploration.explore.Given as goal

abbrev pub invariant-loop-h : goal.invariant-loop-h
invariant-loop-h g l =
    let K = g.M.Measure.kind in
    let t = l.self.tournament in
    let links = g.N.Links.links l.self.network.now in
    Rests K t.limit links t.k l.self.source l.self.destination (table K l.slots) × Indexed K t.limit links l.slots t.k t.sites

abbrev pub decreases-loop-h : goal.decreases-loop-h
decreases-loop-h g l = unsettled l.slots
