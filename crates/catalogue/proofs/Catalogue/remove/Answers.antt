use Rattle.catalogue.proofs.Keeping.{removes, empty_removed}
use Rattle.catalogue.proofs.Catalogue.remove.Goals as goal

pub invariant_of-self : goal.invariant_of-self
invariant_of-self g c =
    let was = c.args.self.now in
    record { rest = empty_removed was.rest c.args.place c.remove_at.ensures.links; sound = removes was.sound _ c.remove_at.ensures.links }
