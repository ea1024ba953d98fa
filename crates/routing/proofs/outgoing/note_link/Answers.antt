use borrow.Author.Rules.{scaled_Fits}
use Rattle.std.proofs.Common.{◌≡◌, ◌<◌, length, get_or, set, sym, ap, ◌∙◌, arith}
use Rattle.std.proofs.lemmas.List.{length-set}
use Rattle.labels.specs.Labels.{slot}
use Rattle.labels.proofs.Outgoing.{slot_read, with_next, first_other, first_nexts, first_labels, next_here, next_other, next_firsts, next_labels}
use Rattle.routing.proofs.outgoing.note_link.Goals as goal

pub returns-clause-next : goal.returns-clause-next
returns-clause-next g c =
    let K = g.M.Measure.kind in
    let xs = c.args.slots.now in
    let i = c.args.place in
    let f = (get_or xs c.args.site c.index-slots-site.result).first in
    let ys = set xs i (with_next (get_or xs i c.index-slots-place.result) f) in
    let long : length ys ≡ length xs = length-set xs i _ in
    first_nexts K ys c.args.site c.index-slots-site-2.result (omega arith) i i ∙ next_here K xs i c.index-slots-place.result c.requires.inside f ∙ ap (λ y. y.first) (sym (slot_read K xs c.args.site c.index-slots-site.result c.requires.here))

pub returns-clause-firsts : goal.returns-clause-firsts
returns-clause-firsts g c s ne =
    let K = g.M.Measure.kind in
    let xs = c.args.slots.now in
    let i = c.args.place in
    let f = (get_or xs c.args.site c.index-slots-site.result).first in
    let ys = set xs i (with_next (get_or xs i c.index-slots-place.result) f) in
    let long : length ys ≡ length xs = length-set xs i _ in
    first_other K ys c.args.site c.index-slots-site-2.result (omega arith) i s ne ∙ next_firsts K xs i c.index-slots-place.result c.requires.inside f s

pub returns-clause-nexts : goal.returns-clause-nexts
returns-clause-nexts g c p ne =
    let K = g.M.Measure.kind in
    let xs = c.args.slots.now in
    let i = c.args.place in
    let f = (get_or xs c.args.site c.index-slots-site.result).first in
    let ys = set xs i (with_next (get_or xs i c.index-slots-place.result) f) in
    let long : length ys ≡ length xs = length-set xs i _ in
    first_nexts K ys c.args.site c.index-slots-site-2.result (omega arith) i p ∙ next_other K xs i c.index-slots-place.result c.requires.inside f p ne

pub returns-clause-labels : goal.returns-clause-labels
returns-clause-labels g c =
    let K = g.M.Measure.kind in
    let xs = c.args.slots.now in
    let i = c.args.place in
    let f = (get_or xs c.args.site c.index-slots-site.result).first in
    let ys = set xs i (with_next (get_or xs i c.index-slots-place.result) f) in
    let long : length ys ≡ length xs = length-set xs i _ in
    first_labels K ys c.args.site c.index-slots-site-2.result (omega arith) i (slot K xs) (next_labels K xs i c.index-slots-place.result c.requires.inside f)

pub offset_bounds-slots-site : goal.offset_bounds-slots-site
offset_bounds-slots-site g c = search (scaled_Fits, c.requires.here)

pub offset_bounds-slots-place : goal.offset_bounds-slots-place
offset_bounds-slots-place g c = search (scaled_Fits, c.requires.inside)

pub offset_bounds-slots-site-2 : goal.offset_bounds-slots-site-2
offset_bounds-slots-site-2 g c = let low : c.args.site < length c.args.slots.now = c.requires.here in search scaled_Fits

pub overflow_cast-slots : goal.overflow_cast-slots
overflow_cast-slots g c = record { fits = omega (arith, c.requires.few) }
