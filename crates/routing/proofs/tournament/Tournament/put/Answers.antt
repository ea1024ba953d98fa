use Rattle.std.proofs.Common.{◌∙◌, refl, arith}
use Rattle.std.proofs.lemmas.Result.{err_from_is_err_and}
use Rattle.labels.specs.Labels.{slot}
use Rattle.labels.proofs.Nodes.{site_room}
use Rattle.labels.proofs.Scans.{swept_full}
use Rattle.labels.proofs.Putting.{put_fits, put_entered, put_links, put_done}
use Rattle.routing.proofs.tournament.Tournament.put.Goals as goal

pub returns-in_err-place-clause-put : goal.returns-in_err-place-clause-put
returns-in_err-place-clause-put g c =
    let why = err_from_is_err_and c.from_residual.result c.from_residual.ensures.1 in
    let told = c.in_err-place.ensures.room in
    rw (why.1) (why.2 ∙ told.0, swept_full g.M.Measure.kind c.in_err-place.ensures.swept told.1)

pub write-requires : goal.write-requires
write-requires g c =
    let self = c.args.self.now in
    let room = c.in_ok-place.ensures.room in
    omega (arith, room.0.1, site_room self.k c.args.site self.sites c.requires.here, c.requires.size)

pub enter-requires-clause-fits : goal.enter-requires-clause-fits
enter-requires-clause-fits g c =
    let made = c.in_ok-place.ensures in
    put_fits made.swept c.requires.fits c.requires.noted refl c.requires.waits made.room.0 made.room.2 made.room.1 c.requires.here made.unused c.write.ensures c.requires.fit

pub enter-requires-clause-entered : goal.enter-requires-clause-entered
enter-requires-clause-entered g c =
    let made = c.in_ok-place.ensures in
    put_entered made.swept c.requires.fits c.requires.noted refl c.requires.waits made.room.0 made.room.2 made.room.1 c.requires.here made.unused c.write.ensures

pub returns-clause-links : goal.returns-clause-links
returns-clause-links g c =
    let made = c.in_ok-place.ensures in
    put_links made.swept c.requires.fits c.requires.noted refl c.requires.waits made.room.0 made.room.2 made.room.1 c.requires.here made.unused c.write.ensures (slot g.M.Measure.kind c.enter.new.slots) c.enter.ensures.links

pub returns-clause-put : goal.returns-clause-put
returns-clause-put g c =
    let made = c.in_ok-place.ensures in
    (c.in_ok-place.place, put_done made.swept c.requires.fits c.requires.noted refl c.requires.waits made.room.0 made.room.2 made.room.1 c.requires.here made.unused c.write.ensures (slot g.M.Measure.kind c.enter.new.slots) c.enter.ensures.labels, c.enter.ensures.noted)
