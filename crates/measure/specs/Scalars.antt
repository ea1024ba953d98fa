-- The kinds whose values are single numbers. They differ only in how two numbers are joined.
use Rattle.std.specs.Prelude.{◌≡◌, ℕ, ◌+◌, ◌≤◌, min, max, Bool, ◌&&◌, nat_le, nat_lt}
use Rattle.measure.specs.declared.scalar.Additive.{Additive}
use Rattle.measure.specs.declared.scalar.Bottleneck.{Bottleneck}
use Rattle.measure.specs.declared.scalar.Scalar.{Scalar}
use Rattle.measure.specs.Kind.{Kind}
use Rattle.measure.specs.Ratios.{ratio_of}

-- the number of the value named over: it stands for every number from it on, comes last, and no limit allows it
abbrev pub over : ℕ
over = 2147483648

-- an admitted limit: 1 to 2,147,483,647
abbrev pub bounded_limit : ℕ → Bool
bounded_limit l = nat_le 1 l && nat_lt l over

-- a way to join numbers that has 0 as its neutral one, never falls below either number, and rises with each
pub record Joins (joined : ℕ → ℕ → ℕ) : Type 0 where
  pub left : (n : ℕ) → joined 0 n ≡ n
  pub right : (n : ℕ) → joined n 0 ≡ n
  pub first : (m n : ℕ) → m ≤ joined m n
  pub second : (m n : ℕ) → n ≤ joined m n
  pub after : (m n c : ℕ) → m ≤ n → joined m c ≤ joined n c
  pub before : (m n c : ℕ) → m ≤ n → joined c m ≤ joined c n

-- a value of a number: over, from over on
abbrev pub scalar : {C : Type 0} → ℕ → Scalar C
scalar n = record { number = min n over; joined_by = record {} }

-- the number of a value: 2,147,483,648 for over
abbrev pub number_of : {C : Type 0} → Scalar C → ℕ
number_of a = a.number

-- the kind that joins numbers so; over is not admitted, and is within no limit, an unadmitted one included
abbrev pub scalar_kind : {C : Type 0} → (ℕ → ℕ → ℕ) → Kind (Scalar C) ℕ
scalar_kind joined = record {
  admitted = λ a. nat_lt (number_of a) over;
  limit_admitted = bounded_limit;
  empty = scalar 0;
  join = λ a b. scalar (joined (number_of a) (number_of b));
  dominates = λ a b. nat_le (number_of a) (number_of b);
  before = λ a b. nat_lt (number_of a) (number_of b);
  within = λ a l. nat_lt (number_of a) over && nat_le (number_of a) l;
  ratio = λ a l. ratio_of (number_of a) l;
}

-- a number that adds up, the code's alias `Sum`
abbrev pub Sum : Type 0
Sum = Scalar Additive

-- a number of which a walk has its worst link's, the code's alias `Worst`
abbrev pub Worst : Type 0
Worst = Scalar Bottleneck

-- the value of a number that adds up
abbrev pub sum : ℕ → Sum
sum = scalar

-- the same for the worst-of kind
abbrev pub worst : ℕ → Worst
worst = scalar

-- joined by adding
abbrev pub sum_kind : Kind Sum ℕ
sum_kind = scalar_kind ◌+◌

-- joined by taking the greater number
abbrev pub worst_kind : Kind Worst ℕ
worst_kind = scalar_kind max
