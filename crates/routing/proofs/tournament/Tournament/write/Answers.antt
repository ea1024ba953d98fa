use borrow.Author.Rules.{scaled_Fits}
use Rattle.std.proofs.Common.{refl}
use Rattle.labels.proofs.Putting.{wrote}
use Rattle.routing.proofs.tournament.Tournament.write.Goals as goal

pub returns : goal.returns
returns g c = wrote g.M.Measure.kind c.args.self.now.limit c.args.slots.now c.args.place c.index-slots-place.result _ c.requires c.index-slots-place.is c.ratio-share.ensures (refl, refl, refl, refl, refl)

pub offset_bounds-slots-place : goal.offset_bounds-slots-place
offset_bounds-slots-place g c = search (scaled_Fits, c.requires)

pub offset_bounds-slots-place-2 : goal.offset_bounds-slots-place-2
offset_bounds-slots-place-2 g c = search (scaled_Fits, c.requires)
