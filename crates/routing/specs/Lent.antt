-- What a workspace holds, and in whose memory.
use Rattle.std.specs.Prelude.{◌≡◌, ℕ, List, length}
use Rattle.labels.specs.declared.Slot.{Slot}
use Rattle.routing.specs.declared.lent.Workspace.{Workspace}

-- the labels by place
abbrev pub labels_of : {V L : Type 0} {g : _} → Workspace V L g → List (Slot V)
labels_of w = w.slots.now

-- the memory that was lent for the labels, by the name of the borrow
abbrev pub labels_lent : {V L : Type 0} {g : _} → Workspace V L g → ℕ
labels_lent w = w.slots.ghost_name

-- the labels are the same memory as before, and as many
pub record SameWorkspace {V L : Type 0} {g : _} (was is : Workspace V L g) : Type 0 where
  pub same : labels_lent is ≡ labels_lent was
  pub room : length (labels_of is) ≡ length (labels_of was)
