-- Opening a quote book begins a run.
use Rattle.std.proofs.Common.{◌≡◌, ℕ, List, [], length, replicate, None, Ok, Option, sym, ap, ◌∙◌, subst}
use lib.ListN.{length-replicate}
use Rattle.measure.specs.Kind.{Kind}
use Rattle.cards.specs.declared.Card.{Card}
use Rattle.cards.specs.Books.{Book, book_size_answer, opened_network, opened_book}
use Rattle.cards.specs.Runs.{memory, Happened, opened}
use Rattle.book.specs.Sizes.{row_width}
use Rattle.book.specs.Stores.{Begins}

-- rows of a size that opening does not refuse have one number for each site
opened_width : (sites cards rows : ℕ) → book_size_answer sites cards rows ≡ Ok tt → row_width sites cards rows ≡ sites
opened_width sites cards rows e = rw (e, row_width)

pub begins : {V L : Type 0} (K : Kind V L) (sites n : ℕ) (cards : List (Option (Card V L))) (rows : List ℕ) → cards ≡ replicate n None →
    Begins K sites n (length rows) (record { width = row_width sites (length cards) (length rows); cards = cards; rows = rows })
begins {V} {L} K sites n cards rows is places sized whole =
    subst (λ b. Happened K places [] (memory (opened_network sites places) b)) (sym same) (opened sites n rows sized whole)
  where
    of : ℕ → List (Option (Card V L)) → Book V L
    of width xs = record { width = width; cards = xs; rows = rows }

    same : of (row_width sites (length cards) (length rows)) cards ≡ opened_book sites n rows
    same =
        ap (λ xs. of (row_width sites (length xs) (length rows)) xs) is ∙ ap (λ m. of (row_width sites m (length rows)) (replicate n None)) (length-replicate n None)
        ∙ ap (λ w. of w (replicate n None)) (opened_width sites n (length rows) whole)
