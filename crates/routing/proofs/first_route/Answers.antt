use borrow.Author.Rules.{scaled_Fits}
use Rattle.std.proofs.Common.{◌<◌, length, sym, subst, arith}
use Rattle.std.proofs.lemmas.List.{get_or_default}
use Rattle.catalogue.specs.Walks.{Holds}
use Rattle.catalogue.specs.Routes.{Best}
use Rattle.labels.specs.declared.Slot.{Slot}
use Rattle.labels.specs.Labels.{blank_slot}
use Rattle.labels.proofs.Chains.{waits_held}
use Rattle.labels.proofs.Turns.{held_inside}
use Rattle.routing.proofs.first_route.Goals as goal

pub offset_bounds-slots-p : goal.offset_bounds-slots-p
offset_bounds-slots-p g c =
    let wins = rw c.in-Some.is at c.in_ok-p.ensures.ends in
    let inside = held_inside g.M.Measure.kind c.explore.new.slots c.in-Some.p (waits_held _ wins.waits) in
    let low : c.in-Some.p < length c.args.slots.now = omega arith in
    search scaled_Fits

pub returns-clause-answered : goal.returns-clause-answered
returns-clause-answered g c =
    let K = g.M.Measure.kind in
    let e = c.args.exploration.now in
    let p = c.in-Some.p in
    let wins = rw c.in-Some.is at c.in_ok-p.ensures.ends in
    let held = waits_held _ wins.waits in
    let here = get_or_default c.explore.new.slots p c.index-slots-p.result (blank_slot K) (held_inside K c.explore.new.slots p held) in
    let (legs, row, count, walk, simple) = c.write_legs-legs.ensures in (
      legs,
      (
        count,
        c.ratio-ratio.ensures,
        subst (λ (y : Slot g.row.M.Denot). Best K e.tournament.limit (Holds (g.N.Links.links e.network.now)) e.source e.destination legs y.label.value) (sym here)
            (record { walk = walk; simple = simple; within = (wins.rests.kept.fit p held).within; first = wins.first }),
      ),
      row,
    )

pub bounds-slots-p : goal.bounds-slots-p
bounds-slots-p g c = let wins = rw c.in-Some.is at c.in_ok-p.ensures.ends in held_inside g.M.Measure.kind c.explore.new.slots c.in-Some.p (waits_held _ wins.waits)

pub bounds-slots-p-in-Some : goal.bounds-slots-p-in-Some
bounds-slots-p-in-Some g c = let wins = rw c.in-Some.is at c.in_ok-p.ensures.ends in held_inside g.M.Measure.kind c.explore.new.slots c.in-Some.p (waits_held _ wins.waits)
