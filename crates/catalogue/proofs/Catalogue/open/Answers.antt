use Rattle.std.proofs.Common.{length}
use Rattle.catalogue.proofs.Keeping.{empty_opened}
use Rattle.catalogue.proofs.Catalogue.open.Goals as goal

pub invariant_of-result-clause-rest : goal.invariant_of-result-clause-rest
invariant_of-result-clause-rest g c = empty_opened (length c.args.links.now) c.empty_all.ensures
