use borrow.Author.Rules.{scaled_Fits}
use Rattle.std.proofs.Common.{◌<◌, length, ◌∙◌, ⊎_elim, arith}
use Rattle.std.proofs.lemmas.Bool.{cases_eq}
use Rattle.labels.specs.Labels.{slot}
use Rattle.labels.proofs.Outgoing.{first_here, first_other, first_labels}
use Rattle.routing.proofs.outgoing.clear_firsts.Goals as goal

pub loop-slot-preserved : goal.loop-slot-preserved
loop-slot-preserved g c =
    let K = g.M.Measure.kind in
    let xs = c.loop-slot.slots in
    let i = c.loop-slot.slot-index in
    let r = c.slot-item.result in
    let inside : i < length xs = omega arith in
    let kept = c.loop-slot.invariant in
    record {
      firsts = λ s lt. ⊎_elim
          (λ e. rw e (first_here K xs i r inside c.args.none))
          (λ ne. first_other K xs i r inside c.args.none s ne ∙ kept.firsts s (omega arith))
          (cases_eq s i);
      labels = first_labels K xs i r inside c.args.none (slot K c.args.slots.now) kept.labels;
    }

pub offset_bounds-slots-slot-index : goal.offset_bounds-slots-slot-index
offset_bounds-slots-slot-index g c = search (scaled_Fits, c.loop-slot-test.true)
