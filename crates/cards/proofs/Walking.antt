-- Walks when a link comes, goes or gets another value.
use Rattle.std.proofs.Common.{true, ◌≡◌, ℕ, ◌<◌, false, ◌⊎◌, List, [], ◌∷◌, length, set, Some, None, Option, sym, refl, ◌∙◌, subst, inl, inr, ⊎_elim, length-set, get_or-set_other, get_or-set_same}
use Rattle.std.proofs.lemmas.Bool.{cases_eq, or_parts, or_from, eqb-false, ne_eqb}
use Rattle.measure.specs.Kind.{Kind, Made, made_join}
use Rattle.measure.specs.Laws.{Laws}
use Rattle.catalogue.specs.declared.Link.{Link}
use Rattle.catalogue.specs.Places.{at}
use Rattle.catalogue.specs.Walks.{Holds, extend, Goes}
use Rattle.catalogue.specs.Routes.{Sound, SoundLink}
use Rattle.labels.proofs.Cover.{goes_made, goes_dom}
use Rattle.cards.specs.Doubts.{uses}
use Rattle.report.proofs.Clearing.{none_some}

-- a walk that does not use a place is still one, where every other link is still there
pub goes_on : {V L : Type 0} (K : Kind V L) (Has After : ℕ → ℕ → ℕ → V → Type 0) (place : ℕ) →
    ((p s t : ℕ) (c : V) → (p ≡ place → ⊥) → Has p s t c → After p s t c) →
    (ps : List ℕ) (s t : ℕ) (v w : V) → uses ps place ≡ false → Goes K Has s v ps t w → Goes K After s v ps t w
goes_on K Has After place keep [] s t v w off g = g
goes_on K Has After place keep (p ∷ ps) s t v w off (u, c, has, g) =
    let parts = or_parts _ _ off in
    (u, c, keep p s u c (eqb-false _ _ parts.0) has, goes_on K Has After place keep ps u t (extend K v c) w parts.1 g)

module _ {V L : Type 0} {K : Kind V L} (laws : Laws K) (Has After : ℕ → ℕ → ℕ → V → Type 0)
    (made : (p s t : ℕ) (c : V) → Has p s t c → Made K c) (made' : (p s t : ℕ) (c : V) → After p s t c → Made K c)
    (Calm : V → Type 0) (back : (p s t : ℕ) (c : V) → After p s t c → ((b : V) × Has p s t b × K.dominates b c ≡ true) ⊎ Calm c) where
  -- Each link is calm, or had a value before that dominates its value. So every walk has a calm link's value that dominates its value, or
  -- had a value before that does.
  pub goes_back : (ps : List ℕ) (s t : ℕ) (v v' w : V) → Made K v → Made K v' → K.dominates v v' ≡ true → Goes K After s v' ps t w →
      ((b : V) × Goes K Has s v ps t b × K.dominates b w ≡ true) ⊎ ((x : V) × Calm x × Made K x × K.dominates x w ≡ true)
  goes_back [] s t v v' w mv mv' d g = inl (v, (g.0, refl), subst (λ y. K.dominates v y ≡ true) g.1 d)
  goes_back (p ∷ ps) s t v v' w mv mv' d (u, c, has, g) =
      let mc = made' p s u c has in
      let mj = made_join mv' mc in
      ⊎_elim
      (λ x. let b = x.0 in
      let mb = made p s u b x.1 in
      let db = laws.dom_trans (extend K v b) (extend K v c) (extend K v' c) (made_join mv mb) (made_join mv mc) mj (laws.join_before b c v mb mc mv x.2) (laws.join_after v v' c mv mv' mc d) in
      ⊎_elim (λ y. inl (y.0, (u, b, x.1, y.1), y.2)) inr (goes_back ps u t (extend K v b) (extend K v' c) w (made_join mv mb) mj db g))
      (λ calm. inr (c, calm, mc, laws.dom_trans c (extend K v' c) w mc mj (goes_made laws After made' ps u t (extend K v' c) w mj g) (laws.join_second v' c mv' mc) (goes_dom laws After made' ps u t (extend K v' c) w mj g)))
      (back p s u c has)

module _ {V : Type 0} (links : List (Option (Link V))) (place : ℕ) where
  -- a walk does not use an empty place
  pub unused : {L : Type 0} (K : Kind V L) → at links place ≡ None → (ps : List ℕ) (s t : ℕ) (v w : V) → Goes K (Holds links) s v ps t w → uses ps place ≡ false
  unused K empty [] s t v w g = refl
  unused K empty (p ∷ ps) s t v w (u, c, has, g) =
      or_from _ _ (ne_eqb p place (λ e. none_some (sym empty ∙ subst (λ x. Holds links x s u c) e has))) (unused K empty ps u t (extend K v c) w g)

  module _ (y : Option (Link V)) where
    pub other_holds : (p s t : ℕ) (c : V) → (p ≡ place → ⊥) → Holds links p s t c → Holds (set links place y) p s t c
    other_holds p s t c ne has = get_or-set_other links place p y None ne ∙ has
