use Rattle.std.proofs.Common.{◌≡◌, ◌+◌, [], ◌∷◌, Ok, Err, length, inl, inr, refl, sym, ap, ◌∙◌, arith}
use Rattle.std.specs.Iterator.Adapters.{zip_first, zip_second}
use Rattle.std.proofs.KnownBytes.{Appends-nil, Appends-trans}
use Rattle.records.specs.Records.{records_from, next_place}
use Rattle.records.proofs.Records.{is_record, is_refusal, is_end}
use Rattle.feed.specs.Records.{unread}
use Rattle.service.specs.Feeds.{none_served, one_served, at_its_end}
use Rattle.service.proofs.Printing.{same_again, next_served, printed_last, broke_off}
use Rattle.service.proofs.serving.Service.serve_feed.Goals as goal

pub loop-number-init : goal.loop-number-init
loop-number-init g c =
    let first : (zip_first c.into_iter-number-iterator.result).start ≡ 1 = cc in
    let records : unread (zip_second c.into_iter-number-iterator.result) ≡ unread (zip_second c.numbered-number-items.result) = cc in
    record {
      same = record { catalogue = refl; book = refl; links = refl; places = (refl, refl); workspace = refl; labels = record { same = refl; room = refl }; reply = refl; room = refl };
      within = omega (arith, ap length records);
      served = (0, 0, [], first, cc, none_served, Appends-nil (g.W.Write.contents c.args.out.now));
    }

pub returns-in-Err-clause-printed : goal.returns-in-Err-clause-printed
returns-in-Err-clause-printed g c =
    let (number, start, lines, count, left, first, wrote) = c.loop-number.invariant.served in
    let (range, gave) = c.in-Some.ensures.steps in
    let e : c.in-Some.number ≡ number + 1 = cc in
    let o : records_from c.args.feed.now start ≡ Err c.in-Err.why ∷ unread (zip_second c.next.new.self) = cc in
    printed_last _ _ _ _ first _ c.print_line.result wrote (record { why = c.in-Err.why; reads = is_refusal c.args.feed.now start o; prints = refl }) (rw e at c.print_line.ensures)

pub returns-in_err-serve_record-in-Ok-clause-printed : goal.returns-in_err-serve_record-in-Ok-clause-printed
returns-in_err-serve_record-in-Ok-clause-printed g c =
    let (number, start, lines, count, left, first, wrote) = c.loop-number.invariant.served in
    let (range, gave) = c.in-Some.ensures.steps in
    let (reply, served, printed) = c.serve_record.ensures.printed in
    let o : records_from c.args.feed.now start ≡ Ok c.in-Ok.record ∷ unread (zip_second c.next.new.self) = cc in
    broke_off _ _ _ _ first _ c.from_residual.result c.from_residual.ensures.1
    (next_served c.serve_record.new.self (is_record c.args.feed.now start o).0 c.loop-number.invariant.same served)

pub loop-number-preserved : goal.loop-number-preserved
loop-number-preserved g c =
    let (number, start, lines, count, left, first, wrote) = c.loop-number.invariant.served in
    let (range, gave) = c.in-Some.ensures.steps in
    let (reply, served, printed) = c.in_ok-serve_record-in-Ok.ensures.printed in
    let e : c.in-Some.number ≡ number + 1 = cc in
    let o : records_from c.args.feed.now start ≡ Ok c.in-Ok.record ∷ unread (zip_second c.next.new.self) = cc in
    let read = is_record c.args.feed.now start o in
    record {
      same = same_again c.loop-number.invariant.same c.in_ok-serve_record-in-Ok.ensures.same;
      within = omega (arith, ap length gave);
      served = (
        number + 1,
        next_place c.args.feed.now start,
        _,
        omega arith,
        read.1,
        one_served first (next_served c.serve_record.new.self read.0 c.loop-number.invariant.same served),
        Appends-trans _ _ _ _ _ wrote (rw e at printed),
      );
    }

pub returns-clause-printed : goal.returns-clause-printed
returns-clause-printed g c =
    let (number, start, lines, count, left, first, wrote) = c.loop-number.invariant.served in
    let ended : unread (zip_second c.loop-number.number-iterator) ≡ [] = elim c.in-None.ensures.steps [ inl r ↦ absurd (omega (arith, r.1.0)) | inr r ↦ r.1.0 ] in
    (lines, at_its_end first (is_end c.args.feed.now start (sym left ∙ ended)), wrote)
