use Rattle.labels.specs.Labels.{slot}
use Rattle.labels.specs.Outgoing.{Listed}
use Rattle.labels.specs.Tournament.{SameLabels}
use Rattle.routing.proofs.outgoing.list_links.Given as goal

abbrev pub invariant-loop-place : goal.invariant-loop-place
invariant-loop-place g l = let K = g.M.Measure.kind in record {
  listed : Listed (g.N.Links.links l.network) (slot K l.slots) (g.N.Links.span l.network) l.place;
  labels : SameLabels (slot K l.fn.slots) (slot K l.slots);
}
