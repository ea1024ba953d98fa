use Rattle.std.proofs.Common.{◌≡◌}
use Rattle.doubt.specs.News.{rule_of}
use Rattle.doubt.proofs.Spreading.{Partly}
use Rattle.book.specs.Stores.{book_of, SamePlaces}
use Rattle.book.proofs.marking.spread.Given as goal

abbrev pub invariant-loop-place : goal.invariant-loop-place
invariant-loop-place g l = record {
  partly : Partly (rule_of g.M.Measure.kind l.news) (book_of l.initial.book) l.book.cards.now l.place l.count;
  rows : l.book.rows.now ≡ l.initial.book.rows.now;
  sites : l.book.sites ≡ l.initial.book.sites;
  same : SamePlaces l.initial.book l.book;
}
