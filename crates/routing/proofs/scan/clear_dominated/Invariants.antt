use Rattle.std.proofs.Common.{◌≡◌, ◌++◌, map, take, drop}
use Rattle.labels.specs.Labels.{cleared}
use Rattle.routing.proofs.scan.clear_dominated.Given as goal

abbrev pub invariant-loop-slot : goal.invariant-loop-slot
invariant-loop-slot g l = l.slots ≡ map (cleared g.M.Measure.kind l.value) (take l.slot-index l.initial.slots) ++ drop l.slot-index l.initial.slots
