use Rattle.catalogue.proofs.Keeping.{replaces, empty_replaced}
use Rattle.catalogue.proofs.Catalogue.replace.Goals as goal

pub invariant_of-self : goal.invariant_of-self
invariant_of-self g c =
    let was = c.args.self.now in
    record {
      rest = empty_replaced was.rest c.args.place g.M.Measure.kind c.args.value c.replace_at.ensures.links;
      sound = replaces was.sound _ _ c.replace_at.ensures.links;
    }
