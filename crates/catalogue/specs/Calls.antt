-- What each call on a catalogue answers, and what it leaves at the places.
use Rattle.std.specs.Prelude.{ℕ, Bool, not, ◌||◌, List, [], ◌∷◌, length, is_some, Some, None, Ok, Err, Option, Result, ◌==◌, nat_le, nat_lt, slice_set}
use Rattle.measure.specs.Kind.{Kind}
use Rattle.report.specs.declared.Refusal.{Refusal}
use Rattle.report.specs.declared.Refusal.TheVariants.{CatalogueSize, NoSuchLink, NoSuchSite, EndsMeet, ValueNotAdmitted, LinkTaken, LinkEmpty}
use Rattle.report.specs.Refusals.{topmost, unless, filled_or}
use Rattle.catalogue.specs.declared.Link.{Link}
use Rattle.catalogue.specs.Places.{at}

-- Opening: 1 to 256 sites and 1 to 4,096 places.
abbrev pub size_answer : ℕ → ℕ → Result (Unit {0}) Refusal
size_answer sites places =
    unless (topmost ((nat_lt sites 1 || nat_lt 256 sites || nat_lt places 1 || nat_lt 4096 places, CatalogueSize) ∷ [])) (Ok tt)

-- how many sites a catalogue has that is opened: none, where the size is one that is refused
abbrev pub opened_sites : ℕ → ℕ → ℕ
opened_sites sites places = elim (size_answer sites places) [ Ok _ ↦ sites | Err _ ↦ 0 ]

-- Storing a link.
abbrev pub store_causes : {V L : Type 0} → Kind V L → ℕ → List (Option (Link V)) → ℕ → Link V → List (Bool × Refusal)
store_causes K sites links place link =
    (nat_le (length links) place, NoSuchLink) ∷ (nat_le sites link.start || nat_le sites link.end, NoSuchSite) ∷ ((link.start == link.end), EndsMeet)
    ∷ (not (K.admitted link.value), ValueNotAdmitted) ∷ (is_some (at links place), LinkTaken) ∷ []

-- the answer to storing a link
abbrev pub store_answer : {V L : Type 0} → Kind V L → ℕ → List (Option (Link V)) → ℕ → Link V → Result (Unit {0}) Refusal
store_answer K sites links place link = unless (topmost (store_causes K sites links place link)) (Ok tt)

-- the links after it
abbrev pub stored : {V L : Type 0} → Kind V L → ℕ → List (Option (Link V)) → ℕ → Link V → List (Option (Link V))
stored K sites links place link = elim (store_answer K sites links place link) [ Ok _ ↦ slice_set links place (Some link) | Err _ ↦ links ]

-- Replacing a link's value: the answer is the link as it was.
abbrev pub revalued : {V : Type 0} → Link V → V → Link V
revalued link value = record { start = link.start; end = link.end; value = value }

-- why replacing a value is refused
abbrev pub replace_causes : {V L : Type 0} → Kind V L → List (Option (Link V)) → ℕ → V → List (Bool × Refusal)
replace_causes K links place value =
    (nat_le (length links) place, NoSuchLink) ∷ (not (K.admitted value), ValueNotAdmitted) ∷ (not (is_some (at links place)), LinkEmpty) ∷ []

-- the answer to replacing it: the link as it was
abbrev pub replace_answer : {V L : Type 0} → Kind V L → List (Option (Link V)) → ℕ → V → Result (Link V) Refusal
replace_answer K links place value = unless (topmost (replace_causes K links place value)) (filled_or LinkEmpty (at links place))

-- the links after it
abbrev pub replaced : {V L : Type 0} → Kind V L → List (Option (Link V)) → ℕ → V → List (Option (Link V))
replaced K links place value = elim (replace_answer K links place value) [ Ok old ↦ slice_set links place (Some (revalued old value)) | Err _ ↦ links ]

-- Removing a link: the answer is the link that stood there.
abbrev pub remove_causes : {V : Type 0} → List (Option (Link V)) → ℕ → List (Bool × Refusal)
remove_causes links place = (nat_le (length links) place, NoSuchLink) ∷ (not (is_some (at links place)), LinkEmpty) ∷ []

-- the answer to removing a link: the link that stood there
abbrev pub remove_answer : {V : Type 0} → List (Option (Link V)) → ℕ → Result (Link V) Refusal
remove_answer links place = unless (topmost (remove_causes links place)) (filled_or LinkEmpty (at links place))

-- the links after it
abbrev pub removed : {V : Type 0} → List (Option (Link V)) → ℕ → List (Option (Link V))
removed links place = elim (remove_answer links place) [ Ok _ ↦ slice_set links place None | Err _ ↦ links ]
