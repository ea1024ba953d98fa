use Rattle.std.proofs.Common.{◌≡◌, ℕ}
use Rattle.labels.specs.Labels.{slot}
use Rattle.labels.specs.Tournament.{SameLabels, SameUsed, SameLists}
use Rattle.labels.proofs.Seeding.{NamesFirst}
use Rattle.routing.proofs.tournament.Tournament.seed_nodes.Given as goal

abbrev pub invariant-loop-node : goal.invariant-loop-node
invariant-loop-node g l =
    let K = g.M.Measure.kind in
    record {
      names : NamesFirst (slot K l.slots) l.self.k l.self.sites l.node;
      bests : (s : ℕ) → (slot K l.slots s).best ≡ (slot K l.initial.slots s).best;
      labels : SameLabels (slot K l.initial.slots) (slot K l.slots);
      used : SameUsed (slot K l.initial.slots) (slot K l.slots);
      links : SameLists (slot K l.initial.slots) (slot K l.slots);
    }
