-- What a measure kind is: its eight functions, and which values can come about.
use Rattle.std.specs.Prelude.{◌≡◌, Bool, true}
use Rattle.measure.specs.declared.ratio.Ratio.{Ratio}

-- a kind with the values V and the limits L
pub record Kind (V L : Type 0) : Type 0 where
  pub admitted : V → Bool
  pub limit_admitted : L → Bool
  pub empty : V
  pub join : V → V → V
  pub dominates : V → V → Bool
  pub before : V → V → Bool
  pub within : V → L → Bool
  pub ratio : V → L → Ratio

-- the values that can come about: the admitted ones, the empty one, and all that are joined from these
pub data Made {V L : Type 0} (k : Kind V L) : V → Type 0 where
  made_admitted : {a : V} → k.admitted a ≡ true → Made k a
  made_empty : Made k k.empty
  made_join : {a b : V} → Made k a → Made k b → Made k (k.join a b)
