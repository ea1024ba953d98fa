-- A pair of measures keeps the laws that its parts keep.
use Rattle.std.specs.Prelude.{◌≡◌, true, false, ◌⊎◌}
use Rattle.std.proofs.Common.{sym, ap, subst, ◌∙◌, inl, inr, ⊎_elim}
use Rattle.measure.specs.Kind.{Kind, Made, made_admitted, made_empty, made_join}
use Rattle.measure.specs.Laws.{Laws}
use Rattle.measure.specs.Pairs.{pair, pair_kind}
use Rattle.measure.specs.declared.pair.Pair.{Pair}
use Rattle.measure.specs.Fractions.{greater_proper, greater_rises}
use Rattle.std.proofs.lemmas.Bool.{and_parts, and_from, and_right, or_from, or_left, or_right, or_cases, not_from_false, not-true, both_ways}

both : {V W : Type 0} → (a b : Pair V W) → a.first ≡ b.first → a.second ≡ b.second → a ≡ b
both a b p q = ap (λ x. pair x a.second) p ∙ ap (pair b.first) q

module _ {V W L M : Type 0} {j : Kind V L} {k : Kind W M} (J : Laws j) (K : Laws k) where
  made_both : (a : Pair V W) → Made (pair_kind j k) a → Made j a.first × Made k a.second
  made_both a (made_admitted h) = let x = and_parts _ _ h in (made_admitted x.0, made_admitted x.1)
  made_both a made_empty = (made_empty, made_empty)
  made_both _ (made_join {a = b} {b = c} p q) = let x = made_both b p in let y = made_both c q in (made_join x.0 y.0, made_join x.1 y.1)

  one : (a : Pair V W) → Made (pair_kind j k) a → Made j a.first
  one a p = (made_both a p).0

  two : (a : Pair V W) → Made (pair_kind j k) a → Made k a.second
  two a p = (made_both a p).1

  dom_both : (a b : Pair V W) → (pair_kind j k).dominates a b ≡ true → (j.dominates a.first b.first ≡ true) × (k.dominates a.second b.second ≡ true)
  dom_both a b = and_parts _ _

  -- one pair is before another by the first part, or by the second where the first parts are the same
  by_first : (a b : Pair V W) → j.before a.first b.first ≡ true → (pair_kind j k).before a b ≡ true
  by_first a b h = or_left _ _ h

  by_second : (a b : Pair V W) → Made j a.first → a.first ≡ b.first → k.before a.second b.second ≡ true → (pair_kind j k).before a b ≡ true
  by_second a b p e h = or_right _ _ (and_from _ _ (not_from_false _ (subst (λ x. j.before x a.first ≡ false) e (J.before_never a.first p))) h)

  by_which : (a b : Pair V W) → Made j a.first → Made j b.first → (pair_kind j k).before a b ≡ true → (j.before a.first b.first ≡ true) ⊎ ((a.first ≡ b.first) × (k.before a.second b.second ≡ true))
  by_which a b p q h =
      ⊎_elim inl
      (λ u. let x = and_parts _ _ u in ⊎_elim inl (⊎_elim (λ e. inr (e, x.1)) (λ t. absurd (both_ways _ (not-true _ x.0) t))) (J.before_total a.first b.first p q))
      (or_cases _ _ h)

  pub pair_laws : Laws (pair_kind j k)
  pair_laws = record {
    dom_refl = λ a p. and_from _ _ (J.dom_refl _ (one a p)) (K.dom_refl _ (two a p));
    dom_trans = λ a b c p q r ab bc.
        and_from _ _
        (J.dom_trans _ b.first _ (one a p) (one b q) (one c r) (dom_both a b ab).0 (dom_both b c bc).0)
        (K.dom_trans _ b.second _ (two a p) (two b q) (two c r) (dom_both a b ab).1 (dom_both b c bc).1);
    dom_same = λ a b p q ab ba. both a b (J.dom_same _ _ (one a p) (one b q) (dom_both a b ab).0 (dom_both b a ba).0) (K.dom_same _ _ (two a p) (two b q) (dom_both a b ab).1 (dom_both b a ba).1);
    empty_least = λ a p. and_from _ _ (J.empty_least _ (one a p)) (K.empty_least _ (two a p));
    empty_within = λ l p. let o = and_parts _ _ p in and_from _ _ (J.empty_within _ o.0) (K.empty_within _ o.1);
    empty_left = λ a p. both _ a (J.empty_left _ (one a p)) (K.empty_left _ (two a p));
    empty_right = λ a p. both _ a (J.empty_right _ (one a p)) (K.empty_right _ (two a p));
    join_after = λ a b c p q r ab. and_from _ _ (J.join_after _ _ _ (one a p) (one b q) (one c r) (dom_both a b ab).0) (K.join_after _ _ _ (two a p) (two b q) (two c r) (dom_both a b ab).1);
    join_before = λ a b c p q r ab. and_from _ _ (J.join_before _ _ _ (one a p) (one b q) (one c r) (dom_both a b ab).0) (K.join_before _ _ _ (two a p) (two b q) (two c r) (dom_both a b ab).1);
    join_first = λ a b p q. and_from _ _ (J.join_first _ _ (one a p) (one b q)) (K.join_first _ _ (two a p) (two b q));
    join_second = λ a b p q. and_from _ _ (J.join_second _ _ (one a p) (one b q)) (K.join_second _ _ (two a p) (two b q));
    within_down = λ a b l p q ab w. let x = and_parts _ _ w in and_from _ _ (J.within_down _ _ _ (one a p) (one b q) (dom_both a b ab).0 x.0) (K.within_down _ _ _ (two a p) (two b q) (dom_both a b ab).1 x.1);
    ratio_proper = λ a l p ok w. let x = and_parts _ _ w in let o = and_parts _ _ ok in greater_proper _ _ (J.ratio_proper _ _ (one a p) o.0 x.0) (K.ratio_proper _ _ (two a p) o.1 x.1);
    ratio_rises = λ a b l p q ok ab w.
        let x = and_parts _ _ w in
        let o = and_parts _ _ ok in
        greater_rises _ _ _ _
        (J.ratio_proper b.first l.first (one b q) o.0 x.0)
        (K.ratio_proper b.second l.second (two b q) o.1 x.1)
        (J.ratio_rises a.first b.first l.first (one a p) (one b q) o.0 (dom_both a b ab).0 x.0)
        (K.ratio_rises a.second b.second l.second (two a p) (two b q) o.1 (dom_both a b ab).1 x.1);
    before_never = λ a p. or_from _ _ (J.before_never _ (one a p)) (and_right _ _ (K.before_never _ (two a p)));
    before_trans = λ a b c p q r ab bc.
        ⊎_elim
        (λ x. ⊎_elim (λ y. by_first a c (J.before_trans _ b.first _ (one a p) (one b q) (one c r) x y)) (λ y. by_first a c (rw (← y.0) x)) (by_which b c (one b q) (one c r) bc))
        (λ x. ⊎_elim (λ y. by_first a c (rw x.0 y)) (λ y. by_second a c (one a p) (x.0 ∙ y.0) (K.before_trans _ b.second _ (two a p) (two b q) (two c r) x.1 y.1)) (by_which b c (one b q) (one c r) bc))
        (by_which a b (one a p) (one b q) ab);
    before_total = λ a b p q.
        ⊎_elim (λ h. inl (by_first a b h))
        (⊎_elim
        (λ e. ⊎_elim (λ h. inl (by_second a b (one a p) e h)) (⊎_elim (λ f. inr (inl (both a b e f))) (λ h. inr (inr (by_second b a (one b q) (sym e) h)))) (K.before_total a.second b.second (two a p) (two b q)))
        (λ h. inr (inr (by_first b a h))))
        (J.before_total a.first b.first (one a p) (one b q));
    dom_before = λ a b p q ab.
        ⊎_elim (λ h. inl (by_first a b h))
        (λ e. ⊎_elim (λ h. inl (by_second a b (one a p) e h)) (λ f. inr (both a b e f)) (K.dom_before a.second b.second (two a p) (two b q) (dom_both a b ab).1))
        (J.dom_before a.first b.first (one a p) (one b q) (dom_both a b ab).0);
  }
