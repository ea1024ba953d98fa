use borrow.Author.Rules.{scaled_Fits}
use Rattle.std.proofs.Common.{set, sym, ap, ◌∙◌, arith}
use Rattle.std.proofs.lemmas.List.Edits.{map_over_more}
use Rattle.labels.specs.Labels.{freed}
use Rattle.routing.proofs.scan.free_all.Goals as goal

pub loop-slot-preserved : goal.loop-slot-preserved
loop-slot-preserved g c =
    let ys = c.loop-slot.slots in
    let i = c.loop-slot.slot-index in
    ap (λ y. set ys i (freed y)) (sym c.slot-item.is) ∙ map_over_more freed c.args.slots.now ys i c.slot-item.result (omega arith) c.loop-slot.invariant c.slot-item.is

pub offset_bounds-slots-slot-index : goal.offset_bounds-slots-slot-index
offset_bounds-slots-slot-index g c = search (scaled_Fits, c.loop-slot-test.true)
