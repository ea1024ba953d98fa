use Rattle.std.proofs.Common.{drop}
use Rattle.catalogue.proofs.Walking.{Onward}
use Rattle.catalogue.proofs.walks.follow.Given as goal

abbrev pub invariant-loop-leg : goal.invariant-loop-leg
invariant-loop-leg g l = Onward g.M.Measure.kind (g.N.Links.links l.network) l.source g.M.Measure.kind.empty l.legs l.site l.value (drop l.leg-index l.legs)
