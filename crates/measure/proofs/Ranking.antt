-- Rank is a total order on the values that count under a limit, and dominance goes with it.
use Rattle.std.proofs.Common.{◌≡◌, ℕ, ◌*◌, ◌<◌, ◌≤◌, true, false, ◌⊎◌, sym, refl, subst, inl, inr, ⊎_elim, arith}
use Rattle.std.proofs.lemmas.Bool.{both_ways, ltb-false, eqb-false, le-ltb, ne_eqb, cases_Bool, and_cases, and_left, and_right, or_parts, or_from, cases_order, cases_lt}
use Rattle.measure.specs.Kind.{Kind, Made}
use Rattle.measure.specs.Laws.{Laws}
use Rattle.measure.specs.Ranks.{Fit, ranks}
use Rattle.measure.specs.Fractions.{at_most_trans}

module _ {V L : Type 0} {K : Kind V L} (laws : Laws K) (l : L) (adm : K.limit_admitted l ≡ true) where
  -- of two values neither of which comes first, both are the same
  before_same : (a b : V) → Made K a → Made K b → K.before a b ≡ false → K.before b a ≡ false → a ≡ b
  before_same a b ma mb p q = ⊎_elim (λ h. absurd (both_ways _ p h)) (⊎_elim (λ e. e) (λ h. absurd (both_ways _ q h))) (laws.before_total a b ma mb)

  dom_not_after : (a b : V) → Made K a → Made K b → K.dominates a b ≡ true → K.before b a ≡ false
  dom_not_after a b ma mb d =
      ⊎_elim
      (λ h. ⊎_elim (λ e. absurd (both_ways _ (laws.before_never a ma) (laws.before_trans a b a ma mb ma h e))) (λ e. e) (cases_Bool (K.before b a)))
      (λ e. subst (λ x. K.before x a ≡ false) e (laws.before_never a ma))
      (laws.dom_before a b ma mb d)

  -- the two sides of the cross product of a and b
  abbrev lo : V → V → ℕ
  lo a b = (K.ratio a l).top * (K.ratio b l).bottom

  -- b does not rank before a, in parts
  abbrev Le : V → V → Type 0
  Le a b = (lo a b < lo b a) ⊎ ((lo a b ≡ lo b a) × (K.before b a ≡ false))

  pub le_parts : (a b : V) → ranks K l b a ≡ false → Le a b
  le_parts a b h =
      let parts = or_parts _ _ h in
      let small : lo a b ≤ lo b a = ltb-false _ _ parts.0 in
      ⊎_elim
      (λ e. inl (let ne : lo b a ≡ lo a b → ⊥ = eqb-false _ _ e in omega arith))
      (λ e. ⊎_elim (λ s. inr (s, e)) (⊎_elim inl (λ k. absurd (omega arith))) (cases_order (lo a b) (lo b a)))
      (and_cases _ _ parts.1)

  pub parts_le : (a b : V) → Le a b → ranks K l b a ≡ false
  parts_le a b (inl h) =
      let ge : lo a b ≤ lo b a = omega arith in
      let ne : lo b a ≡ lo a b → ⊥ = omega arith in
      or_from _ _ (le-ltb _ _ ge) (and_left _ _ (ne_eqb _ _ ne))
  parts_le a b (inr h) =
      let ge : lo a b ≤ lo b a = omega (arith, h.0) in
      or_from _ _ (le-ltb _ _ ge) (and_right _ _ h.1)

  cross : (a b : V) → Le a b → lo a b ≤ lo b a
  cross a b (inl h) = omega arith
  cross a b (inr h) = omega (arith, h.0)

  not_both : (a b : V) → Fit K l a → Fit K l b → K.before a b ≡ true → K.before b a ≡ false
  not_both a b fa fb h =
      ⊎_elim
      (λ e. absurd (both_ways _ (laws.before_never a fa.made) (laws.before_trans a b a fa.made fb.made fa.made h e)))
      (λ e. e)
      (cases_Bool (K.before b a))

  before_le : (a b c : V) → Fit K l a → Fit K l b → Fit K l c → K.before b a ≡ false → K.before c b ≡ false → K.before c a ≡ false
  before_le a b c fa fb fc p q =
      ⊎_elim
      (λ ca. ⊎_elim
      (λ ab. absurd (both_ways _ q (laws.before_trans c a b fc.made fa.made fb.made ca ab)))
      (λ nab. absurd (both_ways _ q (subst (λ x. K.before c x ≡ true) (before_same a b fa.made fb.made nab p) ca)))
      (cases_Bool (K.before a b)))
      (λ e. e)
      (cases_Bool (K.before c a))

  pub rank_self : (a : V) → Fit K l a → ranks K l a a ≡ false
  rank_self a fa = parts_le a a (inr (refl, laws.before_never a fa.made))

  pub rank_trans : (a b c : V) → Fit K l a → Fit K l b → Fit K l c → ranks K l b a ≡ false → ranks K l c b ≡ false → ranks K l c a ≡ false
  rank_trans a b c fa fb fc p q =
      let ab = le_parts a b p in
      let bc = le_parts b c q in
      let some = (laws.ratio_proper b l fb.made adm fb.within).some in
      let ac : lo a c ≤ lo c a = at_most_trans (K.ratio a l) (K.ratio b l) (K.ratio c l) some (cross a b ab) (cross b c bc) in
      parts_le a c (⊎_elim inl (λ ge. inr (omega arith, both ab bc ge)) (cases_lt (lo a c) (lo c a)))
    where
      -- where the outer ratios are equal, all three are
      both : Le a b → Le b c → lo c a ≤ lo a c → K.before c a ≡ false
      both (inl h) y ge =
          let x : lo b a ≤ lo a b = at_most_trans (K.ratio b l) (K.ratio c l) (K.ratio a l) (laws.ratio_proper c l fc.made adm fc.within).some (cross b c y) ge in
          absurd (omega arith)
      both (inr h) (inl k) ge =
          let x : lo c b ≤ lo b c = at_most_trans (K.ratio c l) (K.ratio a l) (K.ratio b l) (laws.ratio_proper a l fa.made adm fa.within).some ge (cross a b (inr h)) in
          absurd (omega arith)
      both (inr h) (inr k) ge = before_le a b c fa fb fc h.1 k.1

  pub rank_total : (a b : V) → Fit K l a → Fit K l b → (ranks K l b a ≡ false) ⊎ (ranks K l a b ≡ false)
  rank_total a b fa fb =
      ⊎_elim
      (λ e. ⊎_elim
      (λ t. inl (parts_le a b (inr (e, not_both a b fa fb t))))
      (λ f. inr (parts_le b a (inr (sym e, f))))
      (cases_Bool (K.before a b)))
      (⊎_elim (λ h. inl (parts_le a b (inl h))) (λ h. inr (parts_le b a (inl h))))
      (cases_order (lo a b) (lo b a))

  -- equal ranks are of equal values
  pub rank_antisym : (a b : V) → Fit K l a → Fit K l b → ranks K l b a ≡ false → ranks K l a b ≡ false → a ≡ b
  rank_antisym a b fa fb p q = go (le_parts a b p) (le_parts b a q)
    where
      go : Le a b → Le b a → a ≡ b
      go (inl h) (inl k) = absurd (omega arith)
      go (inl h) (inr k) = absurd (omega (arith, k.0))
      go (inr h) (inl k) = absurd (omega (arith, h.0))
      go (inr h) (inr k) = before_same a b fa.made fb.made k.1 h.1

  pub rank_dom : (a b : V) → Fit K l a → Fit K l b → K.dominates a b ≡ true → ranks K l b a ≡ false
  rank_dom a b fa fb d =
      let r : lo a b ≤ lo b a = laws.ratio_rises a b l fa.made fb.made adm d fb.within in
      parts_le a b (⊎_elim inl (λ ge. inr (omega arith, dom_not_after a b fa.made fb.made d)) (cases_lt (lo a b) (lo b a)))

  pub fit_dom : (a b : V) → Made K a → Fit K l b → K.dominates a b ≡ true → Fit K l a
  fit_dom a b ma fb d = record { made = ma; within = laws.within_down a b l ma fb.made d fb.within }
