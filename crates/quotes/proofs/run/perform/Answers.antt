use Rattle.cards.proofs.Ordering.{in_order}
use Rattle.cards.proofs.Promising.{continues}
use Rattle.quotes.proofs.run.perform.Goals as goal

pub returns-clause-causes_in_order : goal.returns-clause-causes_in_order
returns-clause-causes_in_order g c = search in_order

pub returns-clause-no_better_route : goal.returns-clause-no_better_route
returns-clause-no_better_route g c = continues g.met.M.Measure.lawful c.carry_out.ensures.outcome
