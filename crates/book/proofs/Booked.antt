-- Stores by what they hold.
use Rattle.std.proofs.Common.{◌≡◌, ℕ, ◌*◌, List, set, Option, ap, ◌∙◌}
use lib.Seq.{paste}
use Rattle.catalogue.specs.Asks.{row_with}
use Rattle.cards.specs.declared.Card.{Card}
use Rattle.cards.specs.Books.{Book, with_cards, with_card}
use Rattle.book.specs.declared.QuoteBook.{QuoteBook}
use Rattle.book.specs.Stores.{book_of}

abbrev sized : {V L : Type 0} → ℕ → List (Option (Card V L)) → List ℕ → Book V L
sized width cards rows = record { width = width; cards = cards; rows = rows }

-- a quote book whose cards alone are others
pub same_book : {V L : Type 0} {g : _} (q : QuoteBook V L g) (sites' : ℕ) {cards' : List (Option (Card V L))} {rows' : List ℕ} → sites' ≡ q.sites → rows' ≡ q.rows.now →
    sized sites' cards' rows' ≡ with_cards (book_of q) cards'
same_book q sites' {cards'} {rows'} sites rows = ap (λ (s : ℕ). sized s cards' rows') sites ∙ ap (λ (xs : List ℕ). sized q.sites cards' xs) rows

-- a quote book with another card and its row
pub refiled : {V L : Type 0} {g : _} (q : QuoteBook V L g) (sites' : ℕ) {cards' : List (Option (Card V L))} {rows' : List ℕ} (c : ℕ) (card : Option (Card V L)) (legs : List ℕ) →
    sites' ≡ q.sites → cards' ≡ set q.cards.now c card →
    rows' ≡ paste q.rows.now (c * q.sites) (row_with legs q.sites) q.sites → sized sites' cards' rows' ≡ with_card (book_of q) c card legs
refiled {V} {L} q sites' {cards'} {rows'} c card legs sites cards rows =
    ap (λ (s : ℕ). sized s cards' rows') sites ∙ ap (λ (xs : List (Option (Card V L))). sized q.sites xs rows') cards ∙ ap (λ (xs : List ℕ). sized q.sites (set q.cards.now c card) xs) rows
