-- Why what is asked is refused, and how the legs of an answer stand in a row.
use Rattle.std.specs.Prelude.{ℕ, ◌-◌, Bool, not, ◌||◌, List, ◌++◌, length, replicate, nat_le}
use Rattle.measure.specs.Kind.{Kind}
use Rattle.catalogue.specs.declared.routes.Ask.{Ask}

-- an end of what is asked is no site
abbrev pub ends_out : {L : Type 0} → ℕ → Ask L → Bool
ends_out sites ask = nat_le sites ask.source || nat_le sites ask.destination

-- the limit of what is asked is not admitted
abbrev pub limit_out : {V L : Type 0} → Kind V L → Ask L → Bool
limit_out K ask = not (K.limit_admitted ask.limit)

-- a row with these legs, then zeros
abbrev pub row_with : List ℕ → ℕ → List ℕ
row_with legs n = legs ++ replicate (n - length legs) 0
