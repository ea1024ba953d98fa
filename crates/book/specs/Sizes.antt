-- How wide a card's row is.
use Rattle.std.specs.Prelude.{ℕ, Ok, Err}
use Rattle.cards.specs.Books.{book_size_answer}

-- how many numbers a card's row has: one for each site, and none in a quote book of a size that opening refuses, which so differs from every
-- catalogue that has sites
abbrev pub row_width : ℕ → ℕ → ℕ → ℕ
row_width sites cards rows = elim (book_size_answer sites cards rows) [ Ok _ ↦ sites | Err _ ↦ 0 ]
