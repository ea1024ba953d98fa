-- The kinds of the two products.
use Rattle.std.specs.Prelude.{ℕ}
use Rattle.measure.specs.declared.pair.Pair.{Pair}
use Rattle.measure.specs.Kind.{Kind}
use Rattle.measure.specs.Scalars.{Sum, Worst, sum, worst, sum_kind, worst_kind}
use Rattle.measure.specs.Pairs.{pair, pair_kind}

-- delay, price and class
abbrev pub trunk_kind : Kind (Pair (Pair Sum Sum) Worst) (Pair (Pair ℕ ℕ) ℕ)
trunk_kind = pair_kind (pair_kind sum_kind sum_kind) worst_kind

-- the value of these three numbers
abbrev pub trunk : ℕ → ℕ → ℕ → Pair (Pair Sum Sum) Worst
trunk delay price class = pair (pair (sum delay) (sum price)) (worst class)

-- the limit of these three numbers
abbrev pub trunk_limit : ℕ → ℕ → ℕ → Pair (Pair ℕ ℕ) ℕ
trunk_limit delay price class = pair (pair delay price) class

-- delay alone
abbrev pub loop_kind : Kind Sum ℕ
loop_kind = sum_kind
