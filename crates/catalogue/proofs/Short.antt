-- A walk that comes by no site twice has fewer legs than there are sites.
use Rattle.std.proofs.Common.{◌≡◌, ℕ, suc, ◌<◌, true, false, eqb, List, [], ◌∷◌, length, sym, refl, ap, inl, inr, ⊎_elim, arith}
use Rattle.std.proofs.lemmas.Bool.{eqb-true, ne_eqb, or_cases, false≢true}
use Rattle.std.proofs.lemmas.Map.Steps.{length-le_from_distinct_below}
use Rattle.std.specs.List.{AllByRecursion, IsDistinct, list_any}
use Rattle.measure.specs.Kind.{Kind}
use Rattle.catalogue.specs.Walks.{extend, Goes, Stops, Simple}

module _ {V L : Type 0} (K : Kind V L) (Lead : ℕ → ℕ → ℕ → V → Type 0) where
  -- the sites that a walk comes by
  abbrev passes : (ps : List ℕ) (s t : ℕ) (v w : V) → Goes K Lead s v ps t w → List ℕ
  passes [] s t v w g = s ∷ []
  passes (p ∷ ps) s t v w g = s ∷ passes ps g.0 t (extend K v g.1) w g.3

  passes_length : (ps : List ℕ) (s t : ℕ) (v w : V) (g : Goes K Lead s v ps t w) → length (passes ps s t v w g) ≡ suc (length ps)
  passes_length [] s t v w g = refl
  passes_length (p ∷ ps) s t v w g = ap suc (passes_length ps g.0 t (extend K v g.1) w g.3)

  -- a site that is among them is the first, or one that a link leads to
  passes_below : (n : ℕ) → ((p s t : ℕ) (c : V) → Lead p s t c → t < n) → (ps : List ℕ) (s t : ℕ) (v w : V) (g : Goes K Lead s v ps t w) → s < n → (q : ℕ) → list_any (eqb q) (passes ps s t v w g) ≡ true → q < n
  passes_below n ends [] s t v w g lt q among = ⊎_elim (λ e. let same = eqb-true q s e in omega arith) (λ e. absurd (false≢true e)) (or_cases _ _ among)
  passes_below n ends (p ∷ ps) s t v w g lt q among =
      ⊎_elim
      (λ e. let same = eqb-true q s e in omega arith)
      (passes_below n ends ps g.0 t (extend K v g.1) w g.3 (ends p s g.0 g.1 g.2) q)
      (or_cases _ _ among)

  passes_fresh : (x : ℕ) (ps : List ℕ) (s t : ℕ) (v w : V) (g : Goes K Lead s v ps t w) → (Stops Lead s ps x → ⊥) → AllByRecursion (λ y. eqb x y ≡ false) (passes ps s t v w g)
  passes_fresh x [] s t v w g off = (ne_eqb x s (λ e. off (sym e)), tt)
  passes_fresh x (p ∷ ps) s t v w g off =
      (ne_eqb x s (λ e. off (inl (sym e))), passes_fresh x ps g.0 t (extend K v g.1) w g.3 (λ st. off (inr (g.0, g.1, g.2, st))))

  passes_distinct : (ps : List ℕ) (s t : ℕ) (v w : V) (g : Goes K Lead s v ps t w) → Simple Lead s ps → IsDistinct eqb (passes ps s t v w g)
  unfolding IsDistinct
  passes_distinct [] s t v w g once = (tt, tt)
  passes_distinct (p ∷ ps) s t v w g once =
      let here = once g.0 g.1 g.2 in
      (passes_fresh s ps g.0 t (extend K v g.1) w g.3 here.0, passes_distinct ps g.0 t (extend K v g.1) w g.3 here.1)

  pub short : (n : ℕ) → ((p s t : ℕ) (c : V) → Lead p s t c → t < n) → (ps : List ℕ) (s t : ℕ) (v w : V) → Goes K Lead s v ps t w → Simple Lead s ps → s < n → length ps < n
  short n ends ps s t v w g once lt =
      let most = length-le_from_distinct_below (passes ps s t v w g) n (passes_distinct ps s t v w g once) (passes_below n ends ps s t v w g lt) in
      omega (arith, passes_length ps s t v w g)
