-- How large a workspace is, and what it is between two calls.
use Rattle.std.specs.Prelude.{ℕ, ◌*◌, Bool, not, ◌||◌, List, length, ◌==◌, nat_lt}
use Rattle.measure.specs.Kind.{Kind}
use Rattle.labels.specs.declared.Slot.{Slot}
use Rattle.labels.specs.Labels.{table, Frees}

-- a workspace of so many labels is not k labels a site, or k is not from 1 to 64
abbrev pub ill_sized : ℕ → ℕ → ℕ → Bool
ill_sized sites room k = not (room == sites * k) || (nat_lt k 1 || nat_lt 64 k)

-- every label is free
abbrev pub AllFree : {V L : Type 0} → Kind V L → List (Slot V) → Type 0
AllFree K slots = Frees (table K slots) (length slots)
