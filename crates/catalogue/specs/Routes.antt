-- What routing answers: the best walk, that there is none, or that a site has too many to hold.
use Rattle.std.specs.Prelude.{true, ◌≡◌, ℕ, suc, ◌<◌, ◌≤◌, false, List, [], length, Some, None, Option, ◌≢◌}
use Rattle.measure.specs.Kind.{Kind}
use Rattle.measure.specs.Ranks.{ranks}
use Rattle.catalogue.specs.declared.Link.{Link}
use Rattle.catalogue.specs.declared.routes.Ask.{Ask}
use Rattle.catalogue.specs.declared.routes.Route.{Route}
use Rattle.catalogue.specs.Walks.{Holds, Walk, Simple}

-- a link that a catalogue of so many sites may hold: it joins two different sites, and its value is admitted
pub record SoundLink {V L : Type 0} (K : Kind V L) (sites s t : ℕ) (c : V) : Type 0 where
  pub start_in : s < sites
  pub end_in : t < sites
  pub ends_apart : s ≡ t → ⊥
  pub admitted : K.admitted c ≡ true

-- a catalogue as its calls make it: it has no sites, or 1 to 256 sites and 1 to 4,096 places; and every link is such
pub record Sound {V L : Type 0} (K : Kind V L) (sites : ℕ) (links : List (Option (Link V))) : Type 0 where
  pub sites_few : sites ≤ 256
  pub places_some : 0 < sites → 1 ≤ length links
  pub places_few : 0 < sites → length links ≤ 4096
  pub each : (p s t : ℕ) (c : V) → Holds links p s t c → SoundLink K sites s t c

module _ {V L : Type 0} (K : Kind V L) (l : L) (Has : ℕ → ℕ → ℕ → V → Type 0) where
  -- no walk from s to t within the limit ranks before the value b
  abbrev pub First : ℕ → ℕ → V → Type 0
  First s t b = (legs : List ℕ) (w : V) → Walk K Has s legs t w → K.within w l ≡ true → ranks K l w b ≡ false

  -- the legs are a walk from s to t of the value b, within the limit, that comes by no site twice, and no walk from s to t within the limit ranks before it
  pub record Best (s t : ℕ) (legs : List ℕ) (b : V) : Type 0 where
    pub walk : Walk K Has s legs t b
    pub simple : Simple Has s legs
    pub within : K.within b l ≡ true
    pub first : First s t b

  -- no walk joins s and t within the limit
  abbrev pub Outside : ℕ → ℕ → Type 0
  Outside s t = (legs : List ℕ) (w : V) → Walk K Has s legs t w → K.within w l ≡ true → ⊥

  -- k + 1 walks lead from s to t within the limit, and none dominates another
  pub record Crowded (k s t : ℕ) : Type 0 where
    pub value : ℕ → V
    pub walk : (i : ℕ) → i < suc k → (legs : List ℕ) × Walk K Has s legs t (value i) × (K.within (value i) l ≡ true)
    pub apart : (i j : ℕ) → i < suc k → j < suc k → (i ≢ j) → K.dominates (value i) (value j) ≡ false

-- What is found for what is asked, among these links. A route: the best walk, of these legs, with its number of legs, value and ratio.
-- None: no walk joins the ends within the limit.
abbrev pub Found : {V L : Type 0} → Kind V L → List (Option (Link V)) → Ask L → Option (Route V) → List ℕ → Type 0
Found K links ask None legs = (legs ≡ []) × Outside K ask.limit (Holds links) ask.source ask.destination
Found K links ask (Some route) legs =
    (route.legs ≡ length legs) × (route.ratio ≡ K.ratio route.value ask.limit)
    × Best K ask.limit (Holds links) ask.source ask.destination legs route.value

-- more walks lead from the source to the site, within the limit, than its k labels can hold
abbrev pub Overfull : {V L : Type 0} → Kind V L → List (Option (Link V)) → Ask L → ℕ → ℕ → Type 0
Overfull K links ask k site = Crowded K ask.limit (Holds links) k ask.source site
