-- What a catalogue and its quote book hold.
use Rattle.std.specs.Prelude.{◌≡◌, ℕ, ◌*◌, ◌<◌, true, not, ◌||◌, List, [], ◌∷◌, length, take, drop, replicate, Some, None, Ok, Option, Result, ◌==◌, nat_lt, slice_set}
use Rattle.std.proofs.Math.Seq.{paste}
use Rattle.measure.specs.Kind.{Kind}
use Rattle.report.specs.declared.Mark.{Mark}
use Rattle.report.specs.declared.Refusal.{Refusal}
use Rattle.report.specs.declared.Refusal.TheVariants.{QuoteBookSize}
use Rattle.report.specs.Refusals.{topmost, unless}
use Rattle.catalogue.specs.declared.Link.{Link}
use Rattle.catalogue.specs.Places.{at}
use Rattle.catalogue.specs.declared.routes.Ask.{Ask}
use Rattle.catalogue.specs.declared.routes.Route.{Route}
use Rattle.catalogue.specs.Asks.{row_with}
use Rattle.cards.specs.declared.Card.{Card}

-- a catalogue: how many sites there are, and the links by place
pub record Network (V : Type 0) : Type 0 where
  pub sites : ℕ
  pub links : List (Option (Link V))

-- a quote book: how many numbers a card's row has, the cards by place, and the rows one after the other
pub record Book (V L : Type 0) : Type 0 where
  pub width : ℕ
  pub cards : List (Option (Card V L))
  pub rows : List ℕ

-- Opening a quote book: 1 to 256 card places, and one number for each card place and site.
abbrev pub book_size_answer : ℕ → ℕ → ℕ → Result (Unit {0}) Refusal
book_size_answer sites cards rows =
    unless (topmost ((nat_lt cards 1 || nat_lt 256 cards || not (rows == cards * sites), QuoteBookSize) ∷ [])) (Ok tt)

-- a catalogue just opened: all places are empty
abbrev pub opened_network : {V : Type 0} → ℕ → ℕ → Network V
opened_network sites places = record { sites = sites; links = replicate places None }

-- a quote book just opened: all card places are empty, and the rows are as they came
abbrev pub opened_book : {V L : Type 0} → ℕ → ℕ → List ℕ → Book V L
opened_book width cards rows = record { width = width; cards = replicate cards None; rows = rows }

-- the same catalogue with other links
abbrev pub with_links : {V : Type 0} → Network V → List (Option (Link V)) → Network V
with_links n links = record { sites = n.sites; links = links }

-- the same quote book with other cards
abbrev pub with_cards : {V L : Type 0} → Book V L → List (Option (Card V L)) → Book V L
with_cards b cards = record { width = b.width; cards = cards; rows = b.rows }

-- a card that was asked this, with this answer and mark
abbrev pub card_of : {V L : Type 0} → Ask L → Option (Route V) → Mark → Card V L
card_of ask answer mark = record { ask = ask; answer = answer; mark = mark }

-- the same quote book with another card at the place c, and in its row these legs, then zeros
abbrev pub with_card : {V L : Type 0} → Book V L → ℕ → Option (Card V L) → List ℕ → Book V L
with_card b c card legs =
    record { width = b.width; cards = slice_set b.cards c card; rows = paste b.rows (c * b.width) (row_with legs b.width) b.width }

-- the row of the card at the place c
abbrev pub row_at : ℕ → List ℕ → ℕ → List ℕ
row_at width rows c = take width (drop (c * width) rows)

-- how many legs an answer has
abbrev pub leg_count : {V : Type 0} → Option (Route V) → ℕ
leg_count None = 0
leg_count (Some route) = route.legs

-- the legs of an answer in a row
abbrev pub legs_in : {V : Type 0} → List ℕ → Option (Route V) → List ℕ
legs_in row answer = take (leg_count answer) row

-- the legs of the card c, where this is its answer
abbrev pub legs_at : {V L : Type 0} → Book V L → ℕ → Option (Route V) → List ℕ
legs_at b c answer = legs_in (row_at b.width b.rows c) answer

-- a card that a quote book for so many sites may hold: its ends are sites, its limit is admitted, and its route has fewer legs than its row
-- has numbers, and fewer than the 256 sites that a catalogue has at the most
pub record SoundCard {V L : Type 0} (K : Kind V L) (sites : ℕ) (card : Card V L) : Type 0 where
  pub source_in : card.ask.source < sites
  pub destination_in : card.ask.destination < sites
  pub admitted : K.limit_admitted card.ask.limit ≡ true
  pub short : leg_count card.answer < sites
  pub few : leg_count card.answer < 256

-- a quote book as its calls make it: every card is such, and where it is for any sites, there is a row number for each card place and site
pub record SoundBook {V L : Type 0} (K : Kind V L) (sites : ℕ) (cards : List (Option (Card V L))) (rows : List ℕ) : Type 0 where
  pub whole : 0 < sites → length rows ≡ length cards * sites
  pub each : (c : ℕ) (card : Card V L) → at cards c ≡ Some card → SoundCard K sites card
