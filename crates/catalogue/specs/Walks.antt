-- What a walk is, and what it is worth.
use Rattle.std.specs.Prelude.{◌≡◌, ℕ, ◌⊎◌, List, [], ◌∷◌, Some, None, Option}
use Rattle.measure.specs.Kind.{Kind}
use Rattle.catalogue.specs.declared.Link.{Link}
use Rattle.catalogue.specs.declared.walks.Reached.{Reached}
use Rattle.catalogue.specs.Places.{at}

-- the place p holds a link from the site s to the site t of the value c
abbrev pub Holds : {V : Type 0} → List (Option (Link V)) → ℕ → ℕ → ℕ → V → Type 0
Holds links p s t c = at links p ≡ Some (record { start = s; end = t; value = c })

-- what a walk of the value v is worth with one link more at its end, of the value c
abbrev pub extend : {V L : Type 0} → Kind V L → V → V → V
extend K v c = K.join v c

-- who stands at the site s with the value v and takes the links at these places, in order, comes to the site t with the value w:
-- each link starts where the one before it ended. `Has p s t c` says that the place p holds a link from s to t of the value c.
abbrev pub Goes : {V L : Type 0} → Kind V L → (ℕ → ℕ → ℕ → V → Type 0) → ℕ → V → List ℕ → ℕ → V → Type 0
Goes K Has s v [] t w = (s ≡ t) × (v ≡ w)
Goes {V} K Has s v (p ∷ ps) t w = (u : ℕ) × (c : V) × Has p s u c × Goes K Has u (extend K v c) ps t w

-- a walk from s to t, by its legs, of the value w; it may come to a site more than once, and the walk with no legs stays at its site and has the empty value
abbrev pub Walk : {V L : Type 0} → Kind V L → (ℕ → ℕ → ℕ → V → Type 0) → ℕ → List ℕ → ℕ → V → Type 0
Walk K Has s legs t w = Goes K Has s K.empty legs t w

-- the walk from s by these legs comes by the site u
abbrev pub Stops : {V : Type 0} → (ℕ → ℕ → ℕ → V → Type 0) → ℕ → List ℕ → ℕ → Type 0
Stops Has s [] u = s ≡ u
Stops {V} Has s (p ∷ ps) u = (s ≡ u) ⊎ ((t : ℕ) × (c : V) × Has p s t c × Stops Has t ps u)

-- it comes by no site twice
abbrev pub Simple : {V : Type 0} → (ℕ → ℕ → ℕ → V → Type 0) → ℕ → List ℕ → Type 0
Simple Has s [] = Unit {0}
Simple {V} Has s (p ∷ ps) = (t : ℕ) (c : V) → Has p s t c → (Stops Has t ps s → ⊥) × Simple Has t ps

-- where the legs lead from s and what that is worth, or none where they are no walk
abbrev pub Follows : {V L : Type 0} → Kind V L → List (Option (Link V)) → ℕ → List ℕ → Option (Reached V) → Type 0
Follows {V} K links s legs None = (t : ℕ) (w : V) → Walk K (Holds links) s legs t w → ⊥
Follows K links s legs (Some reached) = Walk K (Holds links) s legs reached.site reached.value
