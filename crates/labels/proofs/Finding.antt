-- The links of a sound catalogue, and what they lead to.
use Rattle.std.proofs.Common.{◌≡◌, ℕ, suc, ◌+◌, ◌*◌, ◌<◌, ◌≤◌, List, length, None, Option, ap, ⊎_elim, mul-le-mul_right, suc-mul, arith}
use Rattle.std.proofs.lemmas.List.{get_or_past}
use Rattle.std.proofs.lemmas.Bool.{cases_lt}
use Rattle.measure.specs.Kind.{Kind, Made, made_admitted}
use Rattle.catalogue.specs.declared.Link.{Link}
use Rattle.catalogue.specs.Walks.{Holds}
use Rattle.catalogue.specs.Routes.{Sound}
use Rattle.catalogue.proofs.Walking.{holds_one}
use Rattle.labels.specs.declared.Label.{Label}
use Rattle.labels.specs.Labels.{Opens, Rests}

-- the values of a sound catalogue's links can come about
pub links_made : {V L : Type 0} {K : Kind V L} (sites : ℕ) (links : List (Option (Link V))) → Sound K sites links → (p s t : ℕ) (c : V) → Holds links p s t c → Made K c
links_made sites links sound p s t c h = made_admitted (sound.each p s t c h).admitted

-- a link stands at a place below the last
pub holds_inside : {V : Type 0} (links : List (Option (Link V))) (p s t : ℕ) (c : V) → Holds links p s t c → p < length links
holds_inside links p s t c h =
    ⊎_elim (λ lt. lt) (λ ge. cc (get_or_past links p None ge)) (cases_lt p (length links))

-- a place holds one link
pub leads_one : {V : Type 0} (links : List (Option (Link V))) (p s t s' t' : ℕ) (c c' : V) → Holds links p s t c → Holds links p s' t' c' → (t ≡ t') × (c ≡ c')
leads_one links p s t s' t' c c' h h' = let e = holds_one links p s t s' t' c c' h h' in (ap (λ x. x.end) e, ap (λ x. x.value) e)

-- a site's labels are among the workspace's
pub site_room : (sites k s : ℕ) → s < sites → s * k + k ≤ sites * k
site_room sites k s lt =
    let x : suc s * k ≤ sites * k = mul-le-mul_right k lt in
    let y : suc s * k ≡ s * k + k = suc-mul s k in
    omega arith

module _ {V L : Type 0} {K : Kind V L} (l : L) (cat : List (Option (Link V))) (k src dst : ℕ) (A : ℕ → Label V) (h site i : ℕ) (opens : Opens K l cat k src dst A h site i) where
  -- extended by every link
  pub opens_rests : length cat ≤ i → Rests K l cat k src dst A
  opens_rests all = record {
    kept = opens.kept;
    spread = λ q s j t c d at lead fits. opens.spread q s j t c d at lead (λ e. let inside = holds_inside cat j s t c lead in omega arith) fits;
  }
