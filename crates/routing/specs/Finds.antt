-- What the parts of routing find.
use Rattle.std.specs.Prelude.{◌≡◌, ℕ, ◌*◌, ◌<◌, ◌≤◌, true, List, length, Some, None, Ok, Err, Option, Result}
use Rattle.measure.specs.Kind.{Kind}
use Rattle.report.specs.declared.Refusal.{Refusal}
use Rattle.report.specs.declared.Refusal.TheVariants.{LabelsFull}
use Rattle.catalogue.specs.declared.Link.{Link}
use Rattle.catalogue.specs.Walks.{Holds, Walk, Simple}
use Rattle.catalogue.specs.Routes.{Outside, Crowded}
use Rattle.catalogue.specs.Asks.{row_with}
use Rattle.catalogue.specs.declared.routes.Ask.{Ask}
use Rattle.labels.specs.declared.Label.{Label}
use Rattle.labels.specs.declared.Slot.{Slot}
use Rattle.labels.specs.Labels.{slot, table, Wins}
use Rattle.labels.specs.Outgoing.{Listed}
use Rattle.labels.specs.Tournament.{Noted}

-- the refusal names a site whose labels are full
abbrev pub IsFull : {V L : Type 0} → Kind V L → L → List (Option (Link V)) → ℕ → ℕ → Refusal → Type 0
IsFull K l cat k src why = (site : ℕ) × (why ≡ LabelsFull site) × Crowded K l (Holds cat) k src site

-- what the end of routing says, where the labels are those of A: the place of the first walk's label, or that no walk is within the limit
abbrev pub EndsSo : {V L : Type 0} → Kind V L → L → List (Option (Link V)) → ℕ → ℕ → ℕ → (ℕ → Label V) → Result (Option ℕ) Refusal → Type 0
EndsSo K l cat k src dst A (Ok (Some p)) = Wins K l cat k src dst A p
EndsSo K l cat k src dst A (Ok None) = Outside K l (Holds cat) src dst
EndsSo K l cat k src dst A (Err why) = IsFull K l cat k src why

-- the row has these legs, then zeros: a walk from s to t of the value w that comes by no site twice
abbrev pub WroteLegs : {V L : Type 0} → Kind V L → List (Option (Link V)) → ℕ → ℕ → V → ℕ → List ℕ → ℕ → Type 0
WroteLegs K cat s t w n row r = (legs : List ℕ) × (row ≡ row_with legs n) × (r ≡ length legs) × Walk K (Holds cat) s legs t w × Simple (Holds cat) s legs

-- what a call that is not refused knows of its arguments
pub record Admits {V L : Type 0} (K : Kind V L) (sites room k : ℕ) (ask : Ask L) (row : ℕ) : Type 0 where
  pub source : ask.source < sites
  pub destination : ask.destination < sites
  pub limit : K.limit_admitted ask.limit ≡ true
  pub size : room ≡ sites * k
  pub some : 0 < k
  pub few : k ≤ 64
  pub fits : sites ≤ row

-- the notes of a workspace are right: those of its labels, and the lists of the links, where it has as many places as there are for links
pub record Indexed {V L : Type 0} (K : Kind V L) (l : L) (links : List (Option (Link V))) (slots : List (Slot V)) (k sites : ℕ) : Type 0 where
  pub noted : Noted K l (table K slots) (slot K slots) k sites
  pub listed : length links ≤ length slots → Listed links (slot K slots) sites 0
