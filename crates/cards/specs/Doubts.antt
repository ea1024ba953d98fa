-- When a card falls into doubt.
use Rattle.std.specs.Prelude.{◌≡◌, ℕ, zero, suc, ◌+◌, Bool, true, false, cond, not, ◌&&◌, ◌||◌, List, [], ◌∷◌, length, Some, None, Option, ◌==◌}
use Rattle.measure.specs.Kind.{Kind}
use Rattle.measure.specs.Ranks.{ranks}
use Rattle.report.specs.declared.Mark.{Mark}
use Rattle.report.specs.declared.Mark.TheVariants.{Standing, Doubtful}
use Rattle.catalogue.specs.Places.{at}
use Rattle.catalogue.specs.declared.routes.Route.{Route}
use Rattle.cards.specs.declared.Card.{Card}
use Rattle.cards.specs.declared.MarkEvent.{MarkEvent}
use Rattle.cards.specs.declared.MarkEvent.TheVariants.{Struck, Spared, Answered}
use Rattle.cards.specs.Books.{Book, legs_at}

-- the legs use the link at the place
abbrev pub uses : List ℕ → ℕ → Bool
uses [] place = false
uses (leg ∷ legs) place = leg == place || uses legs place

-- values that dominate each other are the same
abbrev pub same : {V L : Type 0} → Kind V L → V → V → Bool
same K a b = K.dominates a b && K.dominates b a

-- a link of the value v, new in the catalogue, can be part of a walk that is better than the answer: v alone is within the limit, and where
-- there is a route, v ranks before the route's value
abbrev pub threatens : {V L : Type 0} → Kind V L → L → Option (Route V) → V → Bool
threatens K limit None v = K.within v limit
threatens K limit (Some route) v = K.within v limit && ranks K limit v route.value

-- whether news strikes a card with these legs
abbrev pub Rule : Type 0 → Type 0 → Type 0
Rule V L = List ℕ → Card V L → Bool

module _ {V L : Type 0} (K : Kind V L) where
  -- a link of this value was offered
  abbrev pub struck_by_offer : V → Rule V L
  struck_by_offer value legs card = threatens K card.ask.limit card.answer value

  -- the link at the place was withdrawn
  abbrev pub struck_by_withdrawal : ℕ → Rule V L
  struck_by_withdrawal place legs card = uses legs place

  -- the link at the place has a new value. The same value strikes no card; another one strikes a card whose route uses the link, and any
  -- other card as an offer would, unless the old value dominates the new one
  abbrev pub struck_by_change : ℕ → V → V → Rule V L
  struck_by_change place old new legs card =
      not (same K old new) && (uses legs place || (not (K.dominates old new) && threatens K card.ask.limit card.answer new))

-- the mark after an event: a standing card that is struck is doubtful, and a doubtful one stays so until it is answered anew
abbrev pub next : Mark → MarkEvent → Mark
next Standing Struck = Doubtful
next Standing Spared = Standing
next Standing Answered = Standing
next Doubtful Struck = Doubtful
next Doubtful Spared = Doubtful
next Doubtful Answered = Standing

-- whether a mark is standing
abbrev pub is_standing : Mark → Bool
is_standing Standing = true
is_standing Doubtful = false

-- a card place after news that strikes the card or not, and whether the card went from standing to doubtful
abbrev pub marked : {V L : Type 0} → Card V L → Mark → Card V L
marked card mark = record { ask = card.ask; answer = card.answer; mark = mark }

-- what happens to the mark of a card that news strikes, or does not
abbrev pub event_of : Bool → MarkEvent
event_of struck = cond struck Struck Spared

-- what stands at a card place after news that strikes the card or not
abbrev pub lapsed : {V L : Type 0} → (Card V L → Bool) → Option (Card V L) → Option (Card V L)
lapsed struck None = None
lapsed struck (Some card) = Some (marked card (next card.mark (event_of (struck card))))

-- whether the card there went from standing to doubtful by it
abbrev pub fell : {V L : Type 0} → (Card V L → Bool) → Option (Card V L) → Bool
fell struck None = false
fell struck (Some card) = is_standing card.mark && not (is_standing (next card.mark (event_of (struck card))))

-- how many numbers below n pass
abbrev pub tally : (ℕ → Bool) → ℕ → ℕ
tally test zero = 0
tally test (suc n) = tally test n + cond (test n) 1 0

-- whether the rule strikes the card at the place c
abbrev pub strikes : {V L : Type 0} → Rule V L → Book V L → ℕ → Card V L → Bool
strikes rule b c card = rule (legs_at b c card.answer) card

-- the cards of the book after news, and how many of them went from standing to doubtful
pub record Doubted {V L : Type 0} (rule : Rule V L) (b : Book V L) (cards : List (Option (Card V L))) (count : ℕ) : Type 0 where
  pub places : length cards ≡ length b.cards
  pub each : (c : ℕ) → at cards c ≡ lapsed (strikes rule b c) (at b.cards c)
  pub total : count ≡ tally (λ c. fell (strikes rule b c) (at b.cards c)) (length b.cards)
