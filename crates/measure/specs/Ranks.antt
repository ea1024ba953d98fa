-- The rank of values under a limit.
use Rattle.std.specs.Prelude.{◌≡◌, Bool, true, ◌&&◌, ◌||◌}
use Rattle.measure.specs.Kind.{Kind, Made}
use Rattle.measure.specs.Ratios.{less, equal}

-- one value ranks before another if its ratio is smaller, or the ratios are equal and it comes first in the value order
abbrev pub ranks : {V L : Type 0} → Kind V L → L → V → V → Bool
ranks k l a b = less (k.ratio a l) (k.ratio b l) || (equal (k.ratio a l) (k.ratio b l) && k.before a b)

-- a value that counts under a limit: it can come about, and is within the limit
pub record Fit {V L : Type 0} (k : Kind V L) (l : L) (a : V) : Type 0 where
  pub made : Made k a
  pub within : k.within a l ≡ true
