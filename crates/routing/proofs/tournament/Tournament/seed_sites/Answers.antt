use borrow.Author.Rules.{scaled_Fits}
use Rattle.std.proofs.Common.{◌<◌, length, refl, arith}
use Rattle.labels.specs.Labels.{slot}
use Rattle.labels.proofs.Nodes.{site_room, sites_few}
use Rattle.labels.proofs.Writes.{labels_on, links_on}
use Rattle.labels.proofs.Seeding.{fresh_more}
use Rattle.routing.proofs.tournament.Tournament.seed_sites.Goals as goal

pub offset_bounds-slots-site : goal.offset_bounds-slots-site
offset_bounds-slots-site g c =
    let self = c.args.self.now in
    let few = sites_few self.k self.sites self.some in
    let low : c.loop-site.site < length c.args.slots.now = omega (arith, c.requires.size) in
    search scaled_Fits

pub bounds-slots-site : goal.bounds-slots-site
bounds-slots-site g c =
    let self = c.args.self.now in
    omega (arith, c.requires.size, sites_few self.k self.sites self.some)

pub overflow_mul-slot : goal.overflow_mul-slot
overflow_mul-slot g c =
    let self = c.args.self.now in
    omega (arith, self.few, site_room self.k c.loop-site.site self.sites c.loop-site-test.true)

pub overflow_cast-slot : goal.overflow_cast-slot
overflow_cast-slot g c =
    let self = c.args.self.now in
    omega (arith, self.few, site_room self.k c.loop-site.site self.sites c.loop-site-test.true)

pub loop-site-preserved : goal.loop-site-preserved
loop-site-preserved g c =
    let K = g.M.Measure.kind in
    let self = c.args.self.now in
    let xs = c.loop-site.slots in
    let low : c.loop-site.site < length xs = omega (arith, c.requires.size, sites_few self.k self.sites self.some) in
    let r = c.index-slots-site.result in
    record {
      fresh = fresh_more K xs self.k c.loop-site.site _ low refl refl c.loop-site.invariant.fresh;
      labels = labels_on K xs c.loop-site.site _ low (slot K c.args.slots.now) r refl refl c.loop-site.invariant.labels;
      links = links_on K xs c.loop-site.site _ low (slot K c.args.slots.now) r refl refl c.loop-site.invariant.links;
    }

pub returns-clause-bests : goal.returns-clause-bests
returns-clause-bests g c = λ s lt. c.loop-site.invariant.fresh.best s (omega (arith, lt, c.loop-site-test.false))

pub returns-clause-unused : goal.returns-clause-unused
returns-clause-unused g c = λ s lt. c.loop-site.invariant.fresh.used s (omega (arith, lt, c.loop-site-test.false))
