use Rattle.std.proofs.Common.{None, refl}
use Rattle.report.proofs.Clearing.{none_some}
use Rattle.book.proofs.Sounding.{sound_write}
use Rattle.book.proofs.QuoteBook.empty.Goals as goal

pub invariant_of-self : goal.invariant_of-self
invariant_of-self g c =
    record { sound = sound_write c.args.self.now.sound c.args.card None c.write_place.new.places c.args.self.now.rows.now c.requires c.write_place.ensures refl (λ card e. absurd (none_some e)) }
