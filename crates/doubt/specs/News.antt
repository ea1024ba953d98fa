-- Which rule goes with which news.
use Rattle.std.specs.Prelude.{ℕ, Bool, false, not, ◌&&◌, Some, None, Option}
use Rattle.measure.specs.Kind.{Kind}
use Rattle.catalogue.specs.Places.{at}
use Rattle.cards.specs.declared.Card.{Card}
use Rattle.cards.specs.declared.MarkEvent.{MarkEvent}
use Rattle.cards.specs.Books.{Book}
use Rattle.cards.specs.Doubts.{Rule, struck_by_offer, struck_by_change, struck_by_withdrawal, strikes, next, is_standing, marked}
use Rattle.doubt.specs.declared.News.{News}
use Rattle.doubt.specs.declared.News.TheVariants.{Offered, Changed, Withdrawn}

-- the rule that goes with the news
abbrev pub rule_of : {V L : Type 0} → Kind V L → News V → Rule V L
rule_of K (Offered value) = struck_by_offer K value
rule_of K (Changed place old new) = struck_by_change K place old new
rule_of K (Withdrawn place) = struck_by_withdrawal K place

-- whether the rule strikes what stands at a card place
abbrev pub struck_in : {V L : Type 0} → Rule V L → Book V L → ℕ → Option (Card V L) → Bool
struck_in rule b c None = false
struck_in rule b c (Some card) = strikes rule b c card

-- whether the rule strikes the card at the place c
abbrev pub struck_at : {V L : Type 0} → Rule V L → Book V L → ℕ → Bool
struck_at rule b c = struck_in rule b c (at b.cards c)

-- what stands at a card place after what happened to its card
abbrev pub after : {V L : Type 0} → MarkEvent → Option (Card V L) → Option (Card V L)
after event None = None
after event (Some card) = Some (marked card (next card.mark event))

-- whether the card there went from standing to doubtful by it
abbrev pub falls : {V L : Type 0} → MarkEvent → Option (Card V L) → Bool
falls event None = false
falls event (Some card) = is_standing card.mark && not (is_standing (next card.mark event))
