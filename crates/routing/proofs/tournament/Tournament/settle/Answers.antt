use borrow.Author.Rules.{scaled_Fits}
use Rattle.std.proofs.Common.{◌<◌, length, get_or, refl, ◌∙◌, arith}
use Rattle.std.proofs.lemmas.List.{get_or_default}
use Rattle.labels.specs.Labels.{blank_slot}
use Rattle.labels.proofs.Putting.{settles_same, settled_fits, settled_but, settled_settles, settled_links}
use Rattle.labels.proofs.Nodes.{site_room}
use Rattle.routing.proofs.tournament.Tournament.settle.Goals as goal

pub offset_bounds-slots-h : goal.offset_bounds-slots-h
offset_bounds-slots-h g c =
    let self = c.args.self.now in
    let low : c.args.h < length c.args.slots.now = omega (arith, c.requires.at.1, site_room self.k c.args.site self.sites c.requires.here, c.requires.size) in
    search scaled_Fits

pub refresh-requires-clause-fits : goal.refresh-requires-clause-fits
refresh-requires-clause-fits g c =
    let K = g.M.Measure.kind in
    let self = c.args.self.now in
    let xs = c.args.slots.now in
    let h = c.args.h in
    let low : h < length xs = omega (arith, c.requires.at.1, site_room self.k c.args.site self.sites c.requires.here, c.requires.size) in
    let r = get_or xs h c.index-slots-h.result in
    let at_h = get_or_default xs h c.index-slots-h.result (blank_slot K) low in
    settled_fits K xs h _ low r at_h (refl, refl, refl, refl, refl, refl, refl) self.limit c.requires.waits c.requires.fits

pub refresh-requires-clause-but : goal.refresh-requires-clause-but
refresh-requires-clause-but g c =
    let K = g.M.Measure.kind in
    let self = c.args.self.now in
    let xs = c.args.slots.now in
    let h = c.args.h in
    let low : h < length xs = omega (arith, c.requires.at.1, site_room self.k c.args.site self.sites c.requires.here, c.requires.size) in
    let r = get_or xs h c.index-slots-h.result in
    let at_h = get_or_default xs h c.index-slots-h.result (blank_slot K) low in
    settled_but K xs h _ low r at_h (refl, refl, refl, refl, refl, refl, refl) self.limit c.requires.waits c.requires.at c.requires.here c.requires.noted

pub returns : goal.returns
returns g c =
    let K = g.M.Measure.kind in
    let self = c.args.self.now in
    let xs = c.args.slots.now in
    let h = c.args.h in
    let low : h < length xs = omega (arith, c.requires.at.1, site_room self.k c.args.site self.sites c.requires.here, c.requires.size) in
    let at_h = get_or_default xs h c.index-slots-h.result (blank_slot K) low in
    let done = c.refresh.ensures in
    let before = settled_links K xs h _ low (get_or xs h c.index-slots-h.result) at_h (refl, refl, refl, refl, refl, refl, refl) in
    record {
      settles = settles_same (settled_settles K xs h _ low (get_or xs h c.index-slots-h.result) at_h (refl, refl, refl, refl, refl, refl, refl)) (λ p. (done.labels p).0);
      noted = done.noted;
      links = λ p. ((done.links p).0 ∙ (before p).0, (done.links p).1 ∙ (before p).1);
    }

pub bounds-slots-h : goal.bounds-slots-h
bounds-slots-h g c = let self = c.args.self.now in omega (arith, c.requires.at.1, site_room self.k c.args.site self.sites c.requires.here, c.requires.size)

pub bounds-slots-h-2 : goal.bounds-slots-h-2
bounds-slots-h-2 g c = let self = c.args.self.now in omega (arith, c.requires.at.1, site_room self.k c.args.site self.sites c.requires.here, c.requires.size)
