use Rattle.labels.specs.Labels.{table}
use Rattle.labels.proofs.Climbing.{Scanned}
use Rattle.routing.proofs.tournament.Tournament.rescan.Given as goal

abbrev pub invariant-loop-place : goal.invariant-loop-place
invariant-loop-place g l = let K = g.M.Measure.kind in Scanned K l.self.limit (table K l.slots) l.self.k l.site l.place l.best
