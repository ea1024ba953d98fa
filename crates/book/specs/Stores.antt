-- What the code's stores hold.
use Rattle.std.specs.Prelude.{◌≡◌, ℕ, [], Ok}
use Rattle.measure.specs.Kind.{Kind}
use Rattle.catalogue.specs.declared.Catalogue.{Catalogue}
use Rattle.catalogue.specs.Calls.{size_answer}
use Rattle.catalogue.specs.Keeping.{sites_of, links_of}
use Rattle.cards.specs.Books.{Network, Book, book_size_answer, opened_network}
use Rattle.cards.specs.Runs.{Memory, memory, Happened}
use Rattle.book.specs.declared.QuoteBook.{QuoteBook}

-- what a catalogue holds
abbrev pub network_of : {V L : Type 0} {g : _} → Catalogue V L g → Network V
network_of c = record { sites = sites_of c; links = links_of c }

-- what a quote book holds
abbrev pub book_of : {V L : Type 0} {g : _} → QuoteBook V L g → Book V L
book_of q = record { width = q.sites; cards = q.cards.now; rows = q.rows.now }

-- what a catalogue and its quote book hold
abbrev pub memory_of : {V L : Type 0} {g h : _} → Catalogue V L g → QuoteBook V L h → Memory V L
memory_of c q = memory (network_of c) (book_of q)

-- The next three serve clauses of their own, beside the outcome of each call that is lent a store: the outcome speaks of what stores hold,
-- and these of whose memory holds it, by which the caller reads the lent places afterwards.

-- the memory that was lent for the card places, by the name of the borrow
abbrev pub cards_lent : {V L : Type 0} {g : _} → QuoteBook V L g → ℕ
cards_lent q = q.cards.ghost_name

-- the memory that was lent for the rows
abbrev pub rows_lent : {V L : Type 0} {g : _} → QuoteBook V L g → ℕ
rows_lent q = q.rows.ghost_name

-- the card places and rows are the same memory as before, whatever they hold
abbrev pub SamePlaces : {V L : Type 0} {g : _} → QuoteBook V L g → QuoteBook V L g → Type 0
SamePlaces q q' = (cards_lent q' ≡ cards_lent q) × (rows_lent q' ≡ rows_lent q)

-- with a catalogue that was opened for the same sites, and in sizes that opening does not refuse, the quote book begins a run
abbrev pub Begins : {V L : Type 0} → Kind V L → ℕ → ℕ → ℕ → Book V L → Type 0
Begins K sites cards rows b =
    (places : ℕ) → size_answer sites places ≡ Ok tt → book_size_answer sites cards rows ≡ Ok tt → Happened K places [] (memory (opened_network sites places) b)
