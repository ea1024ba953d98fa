use borrow.Author.Rules.{scaled_Fits}
use Rattle.std.proofs.Common.{◌≡◌, ℕ, ◌<◌, ◌+◌, false, length, get_or, set, refl, sym, ap, ◌∙◌, subst, arith}
use Rattle.std.proofs.lemmas.List.{get_or_default}
use Rattle.labels.specs.declared.Slot.{Slot}
use Rattle.labels.specs.Labels.{is_held, blank_slot, slot, table}
use Rattle.labels.proofs.Scans.{used_few}
use Rattle.labels.proofs.Putting.{swept_unused, more_room}
use Rattle.routing.proofs.tournament.Tournament.make_room.Goals as goal

pub returns-in-Some-clause-unused : goal.returns-in-Some-clause-unused
returns-in-Some-clause-unused g c = swept_unused c.sweep.ensures.swept c.args.self.now.sites c.sweep.ensures.used c.requires.unused

pub returns-in-Some-clause-room : goal.returns-in-Some-clause-room
returns-in-Some-clause-room g c =
    let start = c.first_place-start in
    let free = c.in-Some.free in
    let found = c.in-Some.ensures.found in
    let few = used_few c.requires.unused c.args.site start.result _ c.requires.here start.ensures.value refl in (
      (omega (arith, start.ensures.value), omega (arith, start.ensures.value, found.0, few)),
      omega (arith, start.ensures.value, found.0, c.sweep.ensures.used c.args.site),
      subst (λ (z : ℕ). is_held (table g.M.Measure.kind c.sweep.new.slots (z + free)).state ≡ false) (sym start.ensures.value) found.1,
    )

pub returns-then-used-self-clause-unused : goal.returns-then-used-self-clause-unused
returns-then-used-self-clause-unused g c = swept_unused c.sweep.ensures.swept c.args.self.now.sites c.sweep.ensures.used c.requires.unused

pub returns-then-used-self-clause-room : goal.returns-then-used-self-clause-room
returns-then-used-self-clause-room g c =
    let full = c.in_default.ensures.found in
    let used = c.used-used.ensures in
    let same = c.sweep.ensures.used c.args.site in
    (refl, λ p at. full p at.0 (omega (arith, at.1, c.if-used-self.true, used, same)))

pub overflow_cast-slots : goal.overflow_cast-slots
overflow_cast-slots g c =
    let used = c.used-used in
    let few = used_few c.requires.unused c.args.site c.first_place-start.result used.result c.requires.here c.first_place-start.ensures.value (omega (arith, used.ensures, c.sweep.ensures.used c.args.site)) in
    let labels = c.args.self.now.few_labels in
    let low : used.result < 65535 = omega arith in
    record { fits = omega arith }

pub overflow_add-slots : goal.overflow_add-slots
overflow_add-slots g c =
    let used = c.used-used in
    let few = used_few c.requires.unused c.args.site c.first_place-start.result used.result c.requires.here c.first_place-start.ensures.value (omega (arith, used.ensures, c.sweep.ensures.used c.args.site)) in
    let labels = c.args.self.now.few_labels in
    let low : used.result + 1 < 65535 = omega arith in
    record { fits = omega arith }

pub offset_bounds-slots-site : goal.offset_bounds-slots-site
offset_bounds-slots-site g c =
    let room = c.args.self.now.room in
    let low : c.args.site < length c.args.slots.now = omega (arith, c.requires.size, c.requires.here) in
    search scaled_Fits

pub overflow_add-result-2 : goal.overflow_add-result-2
overflow_add-result-2 g c =
    let used = c.used-used in
    let few = used_few c.requires.unused c.args.site c.first_place-start.result used.result c.requires.here c.first_place-start.ensures.value (omega (arith, used.ensures, c.sweep.ensures.used c.args.site)) in
    let all = c.args.self.now.few in
    let low : c.first_place-start.result + used.result < 65536 = omega (arith, c.first_place-start.ensures.room) in
    record { fits = omega arith }

pub returns : goal.returns
returns g c =
    let K = g.M.Measure.kind in
    let self = c.args.self.now in
    let site = c.args.site in
    let xs = c.sweep.new.slots in
    let used = c.used-used in
    let swept = c.sweep.ensures in
    let start = c.first_place-start.ensures.value in
    let room = self.room in
    let low : site < length xs = omega (arith, c.requires.size, c.requires.here) in
    let z = get_or xs site c.index-slots-site.result in
    let y : Slot g.row.M.Denot = record { label = z.label; share = z.share; winner = z.winner; best = z.best; used = used.result + 1; first = z.first; next = z.next } in
    let here = get_or_default xs site c.index-slots-site.result (blank_slot K) low in
    let all = used_few c.requires.unused site c.first_place-start.result used.result c.requires.here start (omega (arith, used.ensures, swept.used site)) in
    let few : used.result < self.k = omega (arith, c.if-used-self.false) in
    let more = more_room swept.swept used.result xs (λ p. refl) z y low c.requires.here (refl, refl, refl, refl, refl, refl) here refl (ap (λ (z : Slot g.row.M.Denot). z.used) here ∙ sym used.ensures)
    few (omega arith, omega (arith, few)) (swept_unused swept.swept self.sites swept.used c.requires.unused) in
    record {
      swept = more.0;
      unused = more.1;
      room = (
        (omega (arith, start), omega (arith, start, few)),
        omega (arith, start, more.2),
        subst (λ (p : ℕ). is_held (slot K (set xs site y) (p + used.result)).label.state ≡ false) (sym start) more.3,
      );
    }

pub overflow_add-result : goal.overflow_add-result
overflow_add-result g c = let start = c.first_place-start in let few = used_few c.requires.unused c.args.site start.result _ c.requires.here start.ensures.value refl in let all = c.args.self.now.few in let low : start.result + c.in-Some.free < 65536 = omega (arith, start.ensures.room, c.in-Some.ensures.found.0, few) in record { fits = omega arith }
