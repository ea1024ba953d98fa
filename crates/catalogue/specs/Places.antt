-- Which link stands where.
use Rattle.std.specs.Prelude.{◌≡◌, ℕ, ◌≤◌, false, List, is_some, None, Option, slice_index_or}

-- what stands at a place: nothing past the last
abbrev pub at : {A : Type 0} → List (Option A) → ℕ → Option A
at places place = slice_index_or places place None

-- nothing stands at the place n, or after it
pub record EmptyFrom {A : Type 0} (places : List (Option A)) (n : ℕ) : Type 0 where
  pub none : (place : ℕ) → n ≤ place → is_some (at places place) ≡ false
