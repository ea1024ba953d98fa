use Rattle.std.proofs.Common.{◌≡◌, ℕ, ◌<◌}
use Rattle.labels.specs.Labels.{slot}
use Rattle.labels.specs.Tournament.{SameLabels}
use Rattle.routing.proofs.outgoing.clear_firsts.Given as goal

abbrev pub invariant-loop-slot : goal.invariant-loop-slot
invariant-loop-slot g l = let K = g.M.Measure.kind in record {
  firsts : (s : ℕ) → s < l.slot-index → (slot K l.slots s).first ≡ l.none;
  labels : SameLabels (slot K l.initial.slots) (slot K l.slots);
}
