use Rattle.std.proofs.Common.{◌-◌, length}
use Rattle.labels.specs.Outgoing.{Skips}
use Rattle.routing.proofs.outgoing.scan_from.Given as goal

abbrev pub invariant-loop-place : goal.invariant-loop-place
invariant-loop-place g l = Skips (g.N.Links.links l.network) l.site l.from l.place

abbrev pub decreases-loop-place : goal.decreases-loop-place
decreases-loop-place g l = length (g.N.Links.links l.network) - l.place
