use Rattle.std.proofs.Common.{◌∙◌, arith}
use Rattle.std.proofs.lemmas.Bool.{not-true}
use Rattle.labels.specs.Labels.{table, Waits}
use Rattle.labels.proofs.Climbing.{read_queued, read_before, read_best}
use Rattle.routing.proofs.tournament.Tournament.is_beaten.Goals as goal

pub offset_bounds-slots-place : goal.offset_bounds-slots-place
offset_bounds-slots-place g c =
    let self = c.args.self.now in
    let low = (read_best g.M.Measure.kind c.args.slots.now self.limit self.k self.sites c.args.site c.index-slots-site.result self.some c.requires.size c.requires.here c.index-slots-site.is c.requires.noted).1 in
    omega (arith, low)

pub bounds-slots-place : goal.bounds-slots-place
bounds-slots-place g c =
    let self = c.args.self.now in
    (read_best g.M.Measure.kind c.args.slots.now self.limit self.k self.sites c.args.site c.index-slots-site.result self.some c.requires.size c.requires.here c.index-slots-site.is c.requires.noted).1

pub returns-then-is_waiting : goal.returns-then-is_waiting
returns-then-is_waiting g c behind =
    let K = g.M.Measure.kind in
    let self = c.args.self.now in
    let xs = c.args.slots.now in
    let (at, low) = read_best K xs self.limit self.k self.sites c.args.site c.index-slots-site.result self.some c.requires.size c.requires.here c.index-slots-site.is c.requires.noted in
    let waits : Waits (table K xs) _ = read_queued K xs _ c.index-slots-place.result low c.index-slots-place.is c.is_waiting.result c.is_waiting.ensures ∙ c.if-is_waiting.true in
    let rank = read_before K xs self.limit c.requires.noted.grounds.shares _ c.index-slots-place.result low c.index-slots-place.is waits c.args.value c.ratio.result c.ratio.ensures c.precedes.result c.precedes.ensures in
    (_, at, waits, rank ∙ not-true _ behind)
