use Rattle.labels.specs.Labels.{slot}
use Rattle.labels.proofs.Climbing.{Rises}
use Rattle.routing.proofs.tournament.Tournament.climb.Given as goal

abbrev pub invariant-loop-node : goal.invariant-loop-node
invariant-loop-node g l = let K = g.M.Measure.kind in Rises K l.self.limit (slot K l.fn.slots) (slot K l.slots) l.self.k l.self.sites l.node l.winner

abbrev pub decreases-loop-node : goal.decreases-loop-node
decreases-loop-node g l = l.node
