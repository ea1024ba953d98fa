-- What a refusal is called in print, and which of several causes is reported.
use Rattle.std.specs.Prelude.{ℕ, ◌<◌, ⊤, Bool, cond, List, [], ◌∷◌, Some, None, Ok, Err, Option, Result}
use Rattle.report.specs.declared.Refusal.{Refusal}
use Rattle.report.specs.declared.Refusal.TheVariants.{CatalogueSize, QuoteBookSize, SitesDiffer, NoSuchLink, NoSuchCard, NoSuchSite, EndsMeet, ValueNotAdmitted, LimitNotAdmitted, LinkTaken, LinkEmpty, CardFilled, CardEmpty, WorkspaceSize, ReplyTooShort, LabelsFull, UnknownKind, CutShort, BufferTooShort}
use Rattle.report.specs.declared.Returned.{Returned}
use Rattle.report.specs.declared.Returned.TheVariants.{Nothing, One, Two}

-- an entry of the table: the number that is printed; where it stands, counted from the top, ten apart so that a later one finds room between
-- two; and the numbers that are returned with it
pub record Entry : Type 0 where
  pub number : ℕ
  pub order : ℕ
  pub returned : List ℕ

-- the entry of these three
abbrev pub entry : ℕ → ℕ → List ℕ → Entry
entry n o values = record { number = n; order = o; returned = values }

-- the table of refusals; of several causes that hold, the one that stands nearest the top is reported
abbrev pub entry_of : Refusal → Entry
entry_of CatalogueSize = entry 1 10 []
entry_of QuoteBookSize = entry 2 20 []
entry_of SitesDiffer = entry 3 30 []
entry_of NoSuchLink = entry 4 40 []
entry_of NoSuchCard = entry 5 50 []
entry_of NoSuchSite = entry 6 60 []
entry_of EndsMeet = entry 7 70 []
entry_of ValueNotAdmitted = entry 8 80 []
entry_of LimitNotAdmitted = entry 9 90 []
entry_of LinkTaken = entry 10 100 []
entry_of LinkEmpty = entry 11 110 []
entry_of CardFilled = entry 12 120 []
entry_of CardEmpty = entry 13 130 []
entry_of WorkspaceSize = entry 14 140 []
entry_of ReplyTooShort = entry 15 150 []
entry_of (LabelsFull site) = entry 16 160 (site ∷ [])
entry_of (UnknownKind place) = entry 17 170 (place ∷ [])
entry_of (CutShort place missing) = entry 18 180 (place ∷ missing ∷ [])
entry_of BufferTooShort = entry 19 190 []

-- the number of each cause
abbrev pub number : Refusal → ℕ
number why = (entry_of why).number

-- the numbers that are returned with it: the site; the place of the kind byte; that place and the bytes missing
abbrev pub returned : Refusal → List ℕ
returned why = (entry_of why).returned

-- the numbers as a list
abbrev pub values : Returned → List ℕ
values Nothing = []
values (One a) = a ∷ []
values (Two a b) = a ∷ b ∷ []

-- of the causes of a call, each with whether it holds, the first that holds
abbrev pub topmost : List (Bool × Refusal) → Option Refusal
topmost [] = None
topmost (c ∷ cs) = cond c.0 (Some c.1) (topmost cs)

-- the causes stand in the table's order: each further down than the one before it, so that none stands twice
abbrev pub InOrder : List (Bool × Refusal) → Type 0
InOrder [] = ⊤
InOrder (c ∷ []) = ⊤
InOrder (c ∷ d ∷ cs) = ((entry_of c.1).order < (entry_of d.1).order) × InOrder (d ∷ cs)

-- what a call answers: the refusal, where a cause holds, and else this
abbrev pub unless : {A : Type 0} → Option Refusal → Result A Refusal → Result A Refusal
unless (Some why) answer = Err why
unless None answer = answer

-- what stands at a place, or this refusal where nothing does
abbrev pub filled_or : {A : Type 0} → Refusal → Option A → Result A Refusal
filled_or why None = Err why
filled_or why (Some x) = Ok x
