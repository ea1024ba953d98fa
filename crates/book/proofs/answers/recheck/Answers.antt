use Rattle.std.proofs.Common.{length, sym, ◌∙◌}
use Rattle.book.specs.Stores.{network_of, book_of}
use Rattle.book.proofs.Answering.{recheck_free}
use Rattle.book.proofs.answers.recheck.Goals as goal

pub answer_card-requires-clause-unrefused : goal.answer_card-requires-clause-unrefused
answer_card-requires-clause-unrefused g c =
    recheck_free (network_of c.args.catalogue.now) (book_of c.args.book.now) c.args.card (length c.args.workspace.now.slots.now) c.args.k (sym c.in_ok-check_sites.was ∙ c.check_sites.ensures) g.M.Measure.kind c.in_ok-mark.field-0 c.args.book.now.sound (sym c.in_ok-mark.was ∙ rw (← c.room.ensures) c.check_recheck.ensures)
