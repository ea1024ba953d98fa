-- The laws of the kinds whose values are single numbers, once for every way to join them.
use Rattle.std.specs.Prelude.{◌≡◌, ℕ, ◌+◌, ◌<◌, ◌≤◌, max, true}
use Rattle.std.proofs.Common.{ap, inl, inr, ⊎_elim, mul-le-mul_right, arith}
use Rattle.std.proofs.lemmas.Bool.{leb-true, ltb-true, ltb-false, le-leb, le-ltb, lt-ltb, and_parts, and_from, cases_Bool, cases_order}
use Rattle.measure.specs.declared.scalar.Scalar.{Scalar}
use Rattle.measure.specs.Kind.{Made, made_admitted, made_empty, made_join}
use Rattle.measure.specs.Laws.{Laws}
use Rattle.measure.specs.Scalars.{Joins, over, scalar_kind, sum_kind, worst_kind}

pub adding_joins : Joins ◌+◌
adding_joins = record {
  left = λ n. omega arith;
  right = λ n. omega arith;
  first = λ m n. omega arith;
  second = λ m n. omega arith;
  after = λ m n c h. omega arith;
  before = λ m n c h. omega arith;
}

pub greater_joins : Joins max
greater_joins = record {
  left = λ n. omega arith;
  right = λ n. omega arith;
  first = λ m n. omega arith;
  second = λ m n. omega arith;
  after = λ m n c h. omega arith;
  before = λ m n c h. omega arith;
}

module _ {C : Type 0} {joined : ℕ → ℕ → ℕ} (J : Joins joined) where
  same : (a b : Scalar C) → a.number ≡ b.number → a ≡ b
  same a b e = ap (λ n. record { number = n; joined_by = record {} }) e

  made_most : (a : Scalar C) → Made (scalar_kind joined) a → a.number ≤ over
  made_most a (made_admitted h) = omega (arith, ltb-true _ _ h)
  made_most a made_empty = omega arith
  made_most _ (made_join p q) = omega arith

  within_parts : (a : Scalar C) (l : ℕ) → (scalar_kind joined).within a l ≡ true → (a.number < over) × (a.number ≤ l)
  within_parts a l w = let v = and_parts _ _ w in (ltb-true _ _ v.0, leb-true _ _ v.1)

  within_from : (a : Scalar C) (l : ℕ) → a.number < over → a.number ≤ l → (scalar_kind joined).within a l ≡ true
  within_from a l below fits = and_from _ _ (lt-ltb a.number over below) (le-leb a.number l fits)

  pub scalar_laws : Laws (scalar_kind {C = C} joined)
  scalar_laws = record {
    dom_refl = λ a p. le-leb _ _ (omega arith);
    dom_trans = λ a b c p q r ab bc. le-leb _ _ (omega (arith, leb-true _ _ ab, leb-true _ _ bc));
    dom_same = λ a b p q ab ba. same a b (omega (arith, leb-true _ _ ab, leb-true _ _ ba));
    empty_least = λ a p. le-leb _ _ (omega arith);
    empty_within = λ l p. le-leb _ _ (omega arith);
    empty_left = λ a p. same _ a (omega (arith, made_most a p, J.left a.number));
    empty_right = λ a p. same _ a (omega (arith, made_most a p, J.right a.number));
    join_after = λ a b c p q r ab. le-leb _ _ (omega (arith, J.after _ _ c.number (leb-true _ _ ab)));
    join_before = λ a b c p q r ab. le-leb _ _ (omega (arith, J.before _ _ c.number (leb-true _ _ ab)));
    join_first = λ a b p q. le-leb _ _ (omega (arith, made_most a p, J.first a.number b.number));
    join_second = λ a b p q. le-leb _ _ (omega (arith, made_most b q, J.second a.number b.number));
    within_down = λ a b l p q ab w. let v = within_parts b l w in within_from a l (omega (arith, leb-true _ _ ab, v)) (omega (arith, leb-true _ _ ab, v));
    ratio_proper = λ a l p ok w. let o = and_parts _ _ ok in record { some = leb-true _ _ o.0; small = omega (arith, ltb-true _ _ o.1); most = (within_parts a l w).1 };
    ratio_rises = λ a b l p q ok ab w. mul-le-mul_right l (leb-true _ _ ab);
    before_never = λ a p. le-ltb _ _ (omega arith);
    before_trans = λ a b c p q r ab bc. lt-ltb _ _ (omega (arith, ltb-true _ _ ab, ltb-true _ _ bc));
    before_total = λ a b p q. ⊎_elim (λ e. inr (inl (same a b e))) (⊎_elim (λ h. inl (lt-ltb _ _ h)) (λ h. inr (inr (lt-ltb _ _ h)))) (cases_order a.number b.number);
    dom_before = λ a b p q ab. ⊎_elim inl (λ e. inr (same a b (omega (arith, leb-true _ _ ab, ltb-false _ _ e)))) (cases_Bool _);
  }

pub sum_laws : Laws sum_kind
sum_laws = scalar_laws adding_joins

pub worst_laws : Laws worst_kind
worst_laws = scalar_laws greater_joins
