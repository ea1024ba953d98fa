use Rattle.std.proofs.Common.{length, sym, ◌∙◌}
use Rattle.book.specs.Stores.{network_of, book_of}
use Rattle.book.proofs.Answering.{quote_free}
use Rattle.book.proofs.answers.quote.Goals as goal

pub answer_card-requires-clause-unrefused : goal.answer_card-requires-clause-unrefused
answer_card-requires-clause-unrefused g c =
    quote_free g.M.Measure.kind (network_of c.args.catalogue.now) (book_of c.args.book.now) c.args.card (length c.args.workspace.now.slots.now) c.args.k (sym c.in_ok-check_sites.was ∙ c.check_sites.ensures) c.args.ask (sym c.in_ok-check_quote.was ∙ rw (← c.room.ensures) c.check_quote.ensures)
