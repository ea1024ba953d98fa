-- What the answer of a check says of the causes that it looked at.
use Rattle.std.proofs.Common.{◌≡◌, ℕ, Bool, true, false, List, [], ◌∷◌, ◌++◌, is_some, Some, None, Ok, Err, Option, Result, refl, ap, ◌∙◌, arith}
use Rattle.std.proofs.lemmas.Bool.{both_ways, not-false}
use Rattle.report.specs.declared.Refusal.{Refusal}
use Rattle.report.specs.Refusals.{topmost, unless, filled_or}
use Rattle.catalogue.specs.declared.Link.{Link}
use Rattle.measure.specs.Kind.{Kind}
use Rattle.catalogue.specs.Calls.{replace_causes, remove_causes}
use Rattle.catalogue.specs.Places.{at}
use Rattle.cards.specs.Books.{Book}
use Rattle.cards.specs.Calls.{discard_causes}
use Rattle.report.proofs.Clearing.{cleared}

-- the refusal that an answer tells of, or that it tells of none
abbrev pub Tells : {A : Type 0} → Result A Refusal → Option Refusal → Type 0
Tells (Ok x) t = t ≡ None
Tells (Err why) t = t ≡ Some why

-- a check of causes
pub unless_tells : (t : Option Refusal) (r : Result (Unit {0}) Refusal) → r ≡ unless t (Ok tt) → Tells r t
unless_tells (Some why) (Ok x) e = let z : ◌≡◌ {A = ℕ} 0 1 = cc in absurd (omega arith)
unless_tells (Some why) (Err other) e = let z : why ≡ other = cc in ap Some z
unless_tells None (Ok x) e = refl
unless_tells None (Err other) e = let z : ◌≡◌ {A = ℕ} 0 1 = cc in absurd (omega arith)

-- causes before others: their refusal is reported, and where they have none, that of the others
pub topmost_first : (cs ds : List (Bool × Refusal)) (why : Refusal) → topmost cs ≡ Some why → topmost (cs ++ ds) ≡ Some why
topmost_first [] ds why e = let z : ◌≡◌ {A = ℕ} 0 1 = cc in absurd (omega arith)
topmost_first ((true, own) ∷ cs) ds why e = e
topmost_first ((false, own) ∷ cs) ds why e = topmost_first cs ds why e

pub topmost_then : (cs ds : List (Bool × Refusal)) → topmost cs ≡ None → topmost (cs ++ ds) ≡ topmost ds
topmost_then [] ds e = refl
topmost_then ((true, own) ∷ cs) ds e = let z : ◌≡◌ {A = ℕ} 0 1 = cc in absurd (omega arith)
topmost_then ((false, own) ∷ cs) ds e = topmost_then cs ds e

-- a check of one cause before others
pub first_refused : (c : Bool × Refusal) (cs : List (Bool × Refusal)) (why : Refusal) → ◌≡◌ {A = Result (Unit {0}) Refusal} (Err why) (unless (topmost (c ∷ [])) (Ok tt)) → topmost (c ∷ cs) ≡ Some why
first_refused c cs why e = topmost_first (c ∷ []) cs why (unless_tells (topmost (c ∷ [])) (Err why) e)

pub first_passed : (c : Bool × Refusal) (cs : List (Bool × Refusal)) → ◌≡◌ {A = Result (Unit {0}) Refusal} (Ok tt) (unless (topmost (c ∷ [])) (Ok tt)) → topmost (c ∷ cs) ≡ topmost cs
first_passed c cs e = topmost_then (c ∷ []) cs (unless_tells (topmost (c ∷ [])) (Ok tt) e)

-- the same where what stands at a place is answered, and one of the causes is that nothing does
pub filled_refused : {A : Type 0} (t : Option Refusal) (empty : Refusal) (x : Option A) (why : Refusal) → (t ≡ None → is_some x ≡ true) → Err why ≡ unless t (filled_or empty x) → t ≡ Some why
filled_refused (Some own) empty x why some e = let z : own ≡ why = cc in ap Some z
filled_refused None empty None why some e = absurd (both_ways false refl (some refl))
filled_refused None empty (Some y) why some e = let z : ◌≡◌ {A = ℕ} 0 1 = cc in absurd (omega arith)

pub filled_passed : {A : Type 0} (t : Option Refusal) (empty : Refusal) (x : Option A) (y : A) → Ok y ≡ unless t (filled_or empty x) → (t ≡ None) × (x ≡ Some y)
filled_passed (Some own) empty x y e = let z : ◌≡◌ {A = ℕ} 0 1 = cc in absurd (omega arith)
filled_passed None empty None y e = let z : ◌≡◌ {A = ℕ} 0 1 = cc in absurd (omega arith)
filled_passed None empty (Some z) y e = (refl, let same : z ≡ y = cc in ap Some same)

-- what the exit of a `?` returns is the refusal of the call
pub exits : {A : Type 0} {r : Result A Refusal} {why : Refusal} → (y : Refusal) × (r ≡ Err y) × (y ≡ why) → r ≡ Err why
exits p = p.1 ∙ ap Err p.2

-- the link is there where no cause holds
pub replace_some : {V L : Type 0} (K : Kind V L) (links : List (Option (Link V))) (place : ℕ) (value : V) → topmost (replace_causes K links place value) ≡ None → is_some (at links place) ≡ true
replace_some K links place value e = not-false _ (cleared (replace_causes K links place value) e).1.1.0

pub remove_some : {V : Type 0} (links : List (Option (Link V))) (place : ℕ) → topmost (remove_causes links place) ≡ None → is_some (at links place) ≡ true
remove_some links place e = not-false _ (cleared (remove_causes links place) e).1.0

pub card_some : {V L : Type 0} (b : Book V L) (card : ℕ) → topmost (discard_causes b card) ≡ None → is_some (at b.cards card) ≡ true
card_some b card e = not-false _ (cleared (discard_causes b card) e).1.0
