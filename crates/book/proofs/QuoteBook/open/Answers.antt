use Rattle.std.proofs.Common.{length}
use Rattle.book.proofs.Sounding.{sound_empty}
use Rattle.book.proofs.QuoteBook.open.Goals as goal

pub invariant_of-result : goal.invariant_of-result
invariant_of-result g c =
    record { sound = sound_empty g.M.Measure.kind c.row_width-sites.result (length c.args.cards.now) c.empty_all.new.places c.args.rows.now c.row_width-sites.ensures.whole c.empty_all.ensures }
