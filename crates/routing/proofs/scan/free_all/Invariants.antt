use Rattle.std.proofs.Common.{◌≡◌, ◌++◌, map, take, drop}
use Rattle.labels.specs.Labels.{freed}
use Rattle.routing.proofs.scan.free_all.Given as goal

abbrev pub invariant-loop-slot : goal.invariant-loop-slot
invariant-loop-slot g l = l.slots ≡ map freed (take l.slot-index l.initial.slots) ++ drop l.slot-index l.initial.slots
