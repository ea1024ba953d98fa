use borrow.Author.Rules.{scaled_fits≤}
use Rattle.std.proofs.Common.{◌≡◌, ℕ, ◌+◌, ◌-◌, ◌≤◌, false, List, length, refl, sym, subst, arith}
use borrow.Rule.Slice.PartMut.{put_mid}
use Rattle.labels.specs.declared.Slot.{Slot}
use Rattle.labels.specs.Labels.{is_held, Held, slot, table, freed}
use Rattle.labels.specs.Tournament.{SameUsed}
use Rattle.labels.proofs.Scans.{freed_here, freed_back, made_stays}
use Rattle.routing.proofs.tournament.Tournament.free_site.Goals as goal

pub returns-clause-here : goal.returns-clause-here
returns-clause-here g c p low high =
    let K = g.M.Measure.kind in
    let start = c.first_place-start in
    let used = c.used-used in
    subst (λ (zs : List (Slot g.row.M.Denot)). is_held (table K (put_mid start.result (start.result + used.result - start.result) c.args.slots.now zs) p).state ≡ false) (sym c.free_all.ensures)
    (freed_here K c.args.slots.now start.result used.result (omega (arith, start.ensures.room, used.ensures, c.requires.used, c.requires.size)) p (omega (arith, low, start.ensures.value)) (omega (arith, high, start.ensures.value, used.ensures)))

pub returns-clause-other : goal.returns-clause-other
returns-clause-other g c =
    let K = g.M.Measure.kind in
    let start = c.first_place-start in
    let used = c.used-used in
    subst (λ (zs : List (Slot g.row.M.Denot)). (p : ℕ) → Held (table K (put_mid start.result (start.result + used.result - start.result) c.args.slots.now zs)) p → Held (table K c.args.slots.now) p) (sym c.free_all.ensures)
    (freed_back K c.args.slots.now start.result used.result (omega (arith, start.ensures.room, used.ensures, c.requires.used, c.requires.size)))

pub returns-clause-used : goal.returns-clause-used
returns-clause-used g c =
    let K = g.M.Measure.kind in
    let start = c.first_place-start in
    let used = c.used-used in
    subst (λ (zs : List (Slot g.row.M.Denot)). SameUsed (slot K c.args.slots.now) (slot K (put_mid start.result (start.result + used.result - start.result) c.args.slots.now zs))) (sym c.free_all.ensures)
    (made_stays K c.args.slots.now start.result used.result (omega (arith, start.ensures.room, used.ensures, c.requires.used, c.requires.size)) freed (λ x. x.used) (λ x. refl))

pub offset_bounds-slots-start : goal.offset_bounds-slots-start
offset_bounds-slots-start g c =
    let start = c.first_place-start in
    let low : start.result ≤ length c.args.slots.now = omega (arith, start.ensures.room, c.requires.size) in
    search scaled_fits≤
