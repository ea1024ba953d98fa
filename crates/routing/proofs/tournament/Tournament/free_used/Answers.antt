use Rattle.std.proofs.Common.{arith}
use Rattle.labels.specs.Labels.{slot, table}
use Rattle.labels.proofs.Putting.{unused_on, freed_more}
use Rattle.routing.proofs.tournament.Tournament.free_used.Goals as goal

pub loop-site-init : goal.loop-site-init
loop-site-init g c = (c.requires.unused, λ p lt. absurd (omega arith))

pub free_site-requires-clause-used : goal.free_site-requires-clause-used
free_site-requires-clause-used g c = c.loop-site.invariant.0.low c.loop-site.site (omega arith)

pub loop-site-preserved : goal.loop-site-preserved
loop-site-preserved g c =
    let K = g.M.Measure.kind in
    let self = c.args.self.now in
    let was = c.loop-site.slots in
    let is = c.free_site.new.slots in
    let done = c.free_site.ensures in
    let unused = c.loop-site.invariant.0 in (
      unused_on (table K was) (table K is) (slot K was) (slot K is) self.k self.sites done.used done.other unused,
      freed_more (table K was) (table K is) (slot K was) self.k self.sites c.loop-site.site (omega arith) unused done.here done.other c.loop-site.invariant.1,
    )
