use borrow.Author.Rules.{scaled_Fits}
use Rattle.std.proofs.Common.{sym, ◌∙◌, inl, inr, arith}
use Rattle.labels.proofs.Scans.{cleared_more}
use Rattle.routing.proofs.scan.clear_dominated.Goals as goal
use Rattle.routing.proofs.scan.clear_dominated.Goals.{then-yields, else-yields}

pub loop-slot-preserved : goal.loop-slot-preserved
loop-slot-preserved g c =
    let loop = c.loop-slot in
    cleared_more g.M.Measure.kind c.args.value c.args.slots.now loop.slots c.if-yields.slots loop.slot-index c.slot-item.result (omega arith) loop.invariant c.slot-item.is
    (elim c.if-yields.branch [
      | then-yields w ↦ inl (sym c.yields.ensures ∙ w.if-yields.true, w.slots-is)
      | else-yields w ↦ inr (sym c.yields.ensures ∙ w.if-yields.false, w.slots-is)
    ])

pub offset_bounds-slots-slot-index : goal.offset_bounds-slots-slot-index
offset_bounds-slots-slot-index g c = search (scaled_Fits, c.loop-slot-test.true)
