-- Lists of the links by the site that they leave: a site's note names its first link, and a link's note the next link of its site.
use Rattle.std.specs.Prelude.{ℕ, ◌+◌, ◌<◌, ◌≤◌, List, length, Option}
use Rattle.catalogue.specs.declared.Link.{Link}
use Rattle.catalogue.specs.Walks.{Holds}
use Rattle.labels.specs.declared.Slot.{Slot}

module _ {V : Type 0} (links : List (Option (Link V))) where
  -- no link leaves the site s from the place i on and below j
  pub record Skips (s i j : ℕ) : Type 0 where
    pub order : i ≤ j
    pub none : (p t : ℕ) (c : V) → i ≤ p → p < j → Holds links p s t c → ⊥

  -- at j a link leaves the site s, unless j is past the last place
  abbrev pub Lands : ℕ → ℕ → Type 0
  Lands s j = j < length links → (t : ℕ) × (c : V) × Holds links j s t c

  -- j is the first place from i on with a link that leaves s, or past the last
  abbrev pub FirstFrom : ℕ → ℕ → ℕ → Type 0
  FirstFrom s i j = Skips s i j × Lands s j

  -- the notes lead to every link from the place i on that leaves one of the first n sites
  pub record Listed (W : ℕ → Slot V) (n i : ℕ) : Type 0 where
    pub firsts : (s : ℕ) → s < n → FirstFrom s i (W s).first
    pub nexts : (p s t : ℕ) (c : V) → i ≤ p → s < n → Holds links p s t c → FirstFrom s (p + 1) (W p).next
