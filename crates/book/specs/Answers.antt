-- What the parts of the calls leave.
use Rattle.std.specs.Prelude.{◌≡◌, ℕ, ◌≤◌, List, length, Some, Ok, Err, Option, Result, ◌*◌, slice_set}
use Rattle.std.proofs.Math.Seq.{paste}
use Rattle.measure.specs.Kind.{Kind}
use Rattle.report.specs.declared.Mark.{Mark}
use Rattle.report.specs.declared.Refusal.{Refusal}
use Rattle.report.specs.declared.Refusal.TheVariants.{LabelsFull}
use Rattle.catalogue.specs.declared.Link.{Link}
use Rattle.catalogue.specs.declared.routes.Ask.{Ask}
use Rattle.catalogue.specs.declared.routes.Route.{Route}
use Rattle.catalogue.specs.Asks.{row_with}
use Rattle.catalogue.specs.Routes.{Found, Overfull}
use Rattle.cards.specs.declared.Card.{Card}
use Rattle.cards.specs.Books.{Network, Book, card_of, with_cards, with_card}
use Rattle.cards.specs.Doubts.{Doubted}
use Rattle.doubt.specs.declared.News.{News}
use Rattle.doubt.specs.News.{rule_of}

-- a catalogue of so many sites that holds these links
abbrev pub network_with : {V : Type 0} → ℕ → List (Option (Link V)) → Network V
network_with sites links = record { sites = sites; links = links }

-- the rows after routing, with the legs in the row that begins at the start place; a site that is full leaves them as they were
abbrev pub RowAnswer : {V L : Type 0} → Kind V L → Network V → ℕ → Ask L → List ℕ → ℕ → ℕ → Result (Option (Route V)) Refusal → List ℕ → Type 0
RowAnswer K n k ask rows start width (Ok answer) rows' =
    (legs : List ℕ) × Found K n.links ask answer legs × (length legs ≤ width) × (rows' ≡ paste rows start (row_with legs width) width)
RowAnswer K n k ask rows start width (Err why) rows' = (site : ℕ) × (why ≡ LabelsFull site) × Overfull K n.links ask k site × (rows' ≡ rows)

-- the quote book after routing for a card
abbrev pub CardAnswer : {V L : Type 0} → Kind V L → Network V → ℕ → Ask L → Mark → Book V L → ℕ → Result (Option (Route V)) Refusal → Book V L → Type 0
CardAnswer K n k ask mark b card (Ok answer) b' = (legs : List ℕ) × Found K n.links ask answer legs × (b' ≡ with_card b card (Some (card_of ask answer mark)) legs)
CardAnswer K n k ask mark b card (Err why) b' = (site : ℕ) × (why ≡ LabelsFull site) × Overfull K n.links ask k site × (b' ≡ b)

-- the quote book after news of a link, and how many of its cards went from standing to doubtful
pub record Spread {V L : Type 0} (K : Kind V L) (news : News V) (b : Book V L) (count : ℕ) (b' : Book V L) : Type 0 where
  pub doubted : Doubted (rule_of K news) b b'.cards count
  pub rest : b' ≡ with_cards b b'.cards

-- the quote book with another card at the place, and these legs in its row
pub record Refiled {V L : Type 0} (b : Book V L) (card : ℕ) (what : Option (Card V L)) (legs : List ℕ) (b' : Book V L) : Type 0 where
  pub width : b'.width ≡ b.width
  pub cards : b'.cards ≡ slice_set b.cards card what
  pub rows : b'.rows ≡ paste b.rows (card * b.width) (row_with legs b.width) b.width
