use Rattle.labels.proofs.Scans.{frees_map}
use Rattle.routing.proofs.lent.Workspace.new.Goals as goal

pub invariant_of-result : goal.invariant_of-result
invariant_of-result g c = record { free = rw c.free_all.ensures (frees_map g.M.Measure.kind c.args.slots.now) }
