-- Walks, leg by leg.
use Rattle.std.proofs.Common.{◌≡◌, ℕ, ◌+◌, ◌<◌, ◌≤◌, List, ◌∷◌, length, get_or, drop, Option, sym, refl, ◌∙◌, subst, add-one, drop-cons}
use Rattle.std.proofs.lemmas.List.{drop_all}
use Rattle.measure.specs.Kind.{Kind}
use Rattle.catalogue.specs.declared.Link.{Link}
use Rattle.catalogue.specs.Walks.{Holds, extend, Goes}

-- a place holds one link
pub holds_one : {V : Type 0} (links : List (Option (Link V))) (p s t s' t' : ℕ) (c c' : V) → Holds links p s t c → Holds links p s' t' c' → ◌≡◌ {A = Link V} (record { start = s; end = t; value = c }) (record { start = s'; end = t'; value = c' })
holds_one links p s t s' t' c c' h h' = cc (sym h ∙ h')

module _ {V L : Type 0} (K : Kind V L) (links : List (Option (Link V))) where
  -- after some legs, the walk goes on from there just where it goes on from the source
  abbrev pub Onward : ℕ → V → List ℕ → ℕ → V → List ℕ → Type 0
  Onward s v legs s' v' left = (t : ℕ) (w : V) → (Goes K (Holds links) s' v' left t w → Goes K (Holds links) s v legs t w) × (Goes K (Holds links) s v legs t w → Goes K (Holds links) s' v' left t w)

  -- one leg more
  takes : (s s' u : ℕ) (v v' c : V) (legs : List ℕ) (leg : ℕ) (left : List ℕ) → Holds links leg s' u c → Onward s v legs s' v' (leg ∷ left) → Onward s v legs u (extend K v' c) left
  takes s s' u v v' c legs leg left held on t w = (
    λ h. (on t w).0 (u, c, held, h),
    λ h. let x = (on t w).1 h in
        subst (λ (y : Link V). Goes K (Holds links) y.end (extend K v' y.value) left t w) (holds_one links leg s' x.0 s' u x.1 c x.2 held) x.3,
  )

  pub onward_more : (s s' u : ℕ) (v v' c : V) (legs : List ℕ) (i : ℕ) → i < length legs → Holds links (get_or legs i 0) s' u c → Onward s v legs s' v' (drop i legs) → Onward s v legs u (extend K v' c) (drop (i + 1) legs)
  onward_more s s' u v v' c legs i h held on = rw add-one (takes s s' u v v' c legs (get_or legs i 0) _ held (rw (drop-cons legs i 0 h) at on))

  pub onward_stops : (s s' : ℕ) (v v' : V) (legs : List ℕ) (i : ℕ) → i < length legs → ((u : ℕ) (c : V) → Holds links (get_or legs i 0) s' u c → ⊥) → Onward s v legs s' v' (drop i legs) → (t : ℕ) (w : V) → Goes K (Holds links) s v legs t w → ⊥
  onward_stops s s' v v' legs i h none on t w walk =
      let x = ((rw (drop-cons legs i 0 h) at on) t w).1 walk in none x.0 x.1 x.2

  pub onward_all : (s s' : ℕ) (v v' : V) (legs : List ℕ) (i : ℕ) → length legs ≤ i → Onward s v legs s' v' (drop i legs) → Goes K (Holds links) s v legs s' v'
  onward_all s s' v v' legs i h on = ((rw (drop_all i legs h) at on) s' v').0 (refl, refl)
