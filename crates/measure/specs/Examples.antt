-- Worked examples, on pairs of sums under the limits (10, 10) where nothing else is said.
use Rattle.std.specs.Prelude.{◌≡◌, ℕ, true, false}
use Rattle.measure.specs.declared.pair.Pair.{Pair}
use Rattle.measure.specs.Kind.{Kind}
use Rattle.measure.specs.Ratios.{ratio_of}
use Rattle.measure.specs.Scalars.{Sum, over, sum, worst, sum_kind, worst_kind}
use Rattle.measure.specs.Pairs.{pair, pair_kind}
use Rattle.measure.specs.Ranks.{ranks}

-- pairs of sums
abbrev pub two_sums : Kind (Pair Sum Sum) (Pair ℕ ℕ)
two_sums = pair_kind sum_kind sum_kind

-- the pair of the sums a and b
abbrev pub sums : ℕ → ℕ → Pair Sum Sum
sums a b = pair (sum a) (sum b)

-- the limits (10, 10)
abbrev pub tens : Pair ℕ ℕ
tens = pair 10 10

-- what holds of the examples
pub record WorkedExamples : Type 0 where
  -- the ratio is the greater part's
  pub ratio_of_7_4 : two_sums.ratio (sums 7 4) tens ≡ ratio_of 7 10
  pub ratio_of_5_6 : two_sums.ratio (sums 5 6) tens ≡ ratio_of 6 10
  -- a limit is met by what uses all of it, and by nothing more
  pub all_is_within : two_sums.within (sums 10 10) tens ≡ true
  pub more_is_outside : two_sums.within (sums 11 0) tens ≡ false
  -- of (2, 6) and (5, 1) neither dominates
  pub not_first : two_sums.dominates (sums 2 6) (sums 5 1) ≡ false
  pub not_second : two_sums.dominates (sums 5 1) (sums 2 6) ≡ false
  -- (3, 3) dominates itself and (3, 4)
  pub dominates_itself : two_sums.dominates (sums 3 3) (sums 3 3) ≡ true
  pub dominates_worse : two_sums.dominates (sums 3 3) (sums 3 4) ≡ true
  -- the last sum that is not over, and the first that is
  pub last_sum : sum_kind.join (sum 2147483646) (sum 1) ≡ sum 2147483647
  pub last_is_admitted : sum_kind.admitted (sum 2147483647) ≡ true
  pub first_over : sum_kind.join (sum 2147483647) (sum 1) ≡ sum over
  pub over_is_not_admitted : sum_kind.admitted (sum over) ≡ false
  -- the worst of 2 and 5
  pub worst_of_2_5 : worst_kind.join (worst 2) (worst 5) ≡ worst 5
  -- at equal ratios the first part's
  pub ratio_of_a_tie : two_sums.ratio (sums 4 2) (pair 8 4) ≡ ratio_of 4 8
  -- at equal ratios the value order decides
  pub rank_of_a_tie : ranks two_sums tens (sums 4 7) (sums 5 7) ≡ true
