use borrow.Author.Rules.{scaled_fits≤}
use Rattle.std.proofs.Common.{ℕ, false, ◌≡◌, ◌≤◌, position, List, length, ◌<◌, ◌+◌, ◌*◌, ◌-◌, sym, ap, ◌∙◌, subst, arith}
use Rattle.std.specs.Prelude.{MatchOption}
use borrow.Rule.Slice.PartMut.{put_mid}
use Rattle.labels.specs.declared.Slot.{Slot}
use Rattle.labels.specs.Labels.{Swept, Held, slot, table, is_held, is_free}
use Rattle.labels.specs.Tournament.{SameUsed}
use Rattle.labels.proofs.Scans.{swept_made, swept_found, used_few, used_past}
use Rattle.routing.proofs.tournament.Tournament.sweep.Goals as goal

pub returns-clause-swept : goal.returns-clause-swept
returns-clause-swept g c =
    let unused = c.requires.unused in
    let start = c.first_place-start in
    let used = c.used-used in
    let few = used_few unused c.args.site start.result used.result c.requires.here start.ensures.value used.ensures in
    let past = used_past unused c.args.site start.result used.result c.requires.here start.ensures.value used.ensures in
    subst (λ (zs : List (Slot g.row.M.Denot)). Swept g.M.Measure.kind (slot g.M.Measure.kind c.args.slots.now) (slot g.M.Measure.kind (put_mid start.result (start.result + used.result - start.result) c.args.slots.now zs)) c.args.self.now.k c.args.site c.args.value)
    (sym c.clear_dominated.ensures) (swept_made g.M.Measure.kind c.args.slots.now c.args.self.now.k c.args.site start.result used.result start.ensures.value few (omega (arith, few, start.ensures.room, c.requires.size)) past c.args.value).0

pub returns-clause-used : goal.returns-clause-used
returns-clause-used g c =
    let unused = c.requires.unused in
    let start = c.first_place-start in
    let used = c.used-used in
    let few = used_few unused c.args.site start.result used.result c.requires.here start.ensures.value used.ensures in
    let past = used_past unused c.args.site start.result used.result c.requires.here start.ensures.value used.ensures in
    subst (λ (zs : List (Slot g.row.M.Denot)). SameUsed (slot g.M.Measure.kind c.args.slots.now) (slot g.M.Measure.kind (put_mid start.result (start.result + used.result - start.result) c.args.slots.now zs)))
    (sym c.clear_dominated.ensures) (swept_made g.M.Measure.kind c.args.slots.now c.args.self.now.k c.args.site start.result used.result start.ensures.value few (omega (arith, few, start.ensures.room, c.requires.size)) past c.args.value).1

pub returns-clause-found : goal.returns-clause-found
returns-clause-found g c =
    let unused = c.requires.unused in
    let start = c.first_place-start in
    let used = c.used-used in
    let few = used_few unused c.args.site start.result used.result c.requires.here start.ensures.value used.ensures in
    let past = used_past unused c.args.site start.result used.result c.requires.here start.ensures.value used.ensures in
    let K = g.M.Measure.kind in
    subst (λ (zs : List (Slot g.row.M.Denot)). MatchOption c.free_place.result
    ((p : ℕ) → c.args.site * c.args.self.now.k ≤ p → p < c.args.site * c.args.self.now.k + (slot K c.args.slots.now c.args.site).used → Held (table K (put_mid start.result (start.result + used.result - start.result) c.args.slots.now zs)) p)
    (λ x. (x < (slot K c.args.slots.now c.args.site).used) × (is_held (table K (put_mid start.result (start.result + used.result - start.result) c.args.slots.now zs) (c.args.site * c.args.self.now.k + x)).state ≡ false)))
    (sym c.clear_dominated.ensures) (swept_found g.M.Measure.kind c.args.slots.now c.args.self.now.k c.args.site start.result used.result start.ensures.value few (omega (arith, few, start.ensures.room, c.requires.size)) past c.args.value used.ensures c.free_place.result (c.free_place.ensures ∙ ap (position is_free) c.clear_dominated.ensures))

pub offset_bounds-slots-start : goal.offset_bounds-slots-start
offset_bounds-slots-start g c =
    let start = c.first_place-start in
    let low : start.result ≤ length c.args.slots.now = omega (arith, start.ensures.room, c.requires.size) in
    search scaled_fits≤

pub overflow_add-there : goal.overflow_add-there
overflow_add-there g c =
    let start = c.first_place-start in
    let used = c.used-used in
    let few = used_few c.requires.unused c.args.site start.result used.result c.requires.here start.ensures.value used.ensures in
    let all = c.args.self.now.few in
    record { fits = omega (arith, few, start.ensures.room, all) }

pub slice_bounds-there-end : goal.slice_bounds-there-end
slice_bounds-there-end g c =
    let start = c.first_place-start in
    let used = c.used-used in
    let few = used_few c.requires.unused c.args.site start.result used.result c.requires.here start.ensures.value used.ensures in
    let low : start.result + used.result ≤ length c.args.slots.now = omega (arith, few, start.ensures.room, c.requires.size) in
    search low
