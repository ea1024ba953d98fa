use Rattle.std.proofs.Common.{List, get_or, ◌≡◌, ℕ, ◌+◌, ◌*◌, ◌<◌, ◌≤◌, length, sym, ap, ◌∙◌, subst, arith}
use Rattle.measure.specs.Kind.{Kind}
use Rattle.labels.specs.declared.Slot.{Slot}
use Rattle.labels.specs.Tournament.{Unused}
use Rattle.labels.specs.Labels.{slot, table}
use Rattle.labels.proofs.Nodes.{sites_few, site_room}
use Rattle.labels.proofs.Writes.{slot_read}
use Rattle.labels.proofs.Climbing.{scanned_none, scanned_more, scanned_all}
use Rattle.routing.proofs.tournament.Tournament.rescan.Goals as goal

-- how many places of the site are used, as it was read
used : {V L : Type 0} (K : Kind V L) (xs : List (Slot V)) (site k sites : ℕ) → 0 < k → length xs ≡ sites * k → site < sites → (x : Slot V) → x ≡ get_or xs site x → (get_or xs site x).used ≡ (slot K xs site).used
used K xs site k sites some size here x is = let few = sites_few k sites some in ap (λ y. y.used) (sym is ∙ slot_read K xs site x (omega arith) is)

-- a place below the used ones' end is one of the site's
in_site : {V L : Type 0} (K : Kind V L) (xs : List (Slot V)) (site k sites : ℕ) → 0 < k → length xs ≡ sites * k → site < sites → Unused (table K xs) (slot K xs) k sites → (x : Slot V) → x ≡ get_or xs site x → (place : ℕ) → place < site * k + (get_or xs site x).used → place < site * k + k
in_site K xs site k sites some size here unused x is place lt =
    let low = unused.low site here in
    let e = used K xs site k sites some size here x is in
    omega arith

pub offset_bounds-slots-site : goal.offset_bounds-slots-site
offset_bounds-slots-site g c = let self = c.args.self.now in let few = sites_few self.k self.sites self.some in omega (arith, c.requires.size)

pub bounds-slots-site : goal.bounds-slots-site
bounds-slots-site g c = let self = c.args.self.now in let few = sites_few self.k self.sites self.some in omega (arith, c.requires.size)

pub bounds-slots-site-2 : goal.bounds-slots-site-2
bounds-slots-site-2 g c = let self = c.args.self.now in let few = sites_few self.k self.sites self.some in omega (arith, c.requires.size)

pub loop-place-init : goal.loop-place-init
loop-place-init g c = let self = c.args.self.now in scanned_none g.met.M.Measure.lawful self.limit self.admitted (table g.M.Measure.kind c.args.slots.now) c.requires.fits self.k c.args.site self.some

pub better-best-requires-clause-left : goal.better-best-requires-clause-left
better-best-requires-clause-left g c =
    let self = c.args.self.now in
    let room = site_room self.k c.args.site self.sites c.requires.here in
    let h = c.loop-place.invariant in
    omega (arith, c.requires.size, h.high, h.reached)

pub better-best-requires-clause-right : goal.better-best-requires-clause-right
better-best-requires-clause-right g c =
    let self = c.args.self.now in
    let room = site_room self.k c.args.site self.sites c.requires.here in
    let place = in_site g.M.Measure.kind c.args.slots.now c.args.site self.k self.sites self.some c.requires.size c.requires.here c.requires.grounds.unused c.index-slots-site.result c.index-slots-site.is c.loop-place.place c.loop-place-test.true in
    omega (arith, c.requires.size, room, place)

pub loop-place-preserved : goal.loop-place-preserved
loop-place-preserved g c =
    let self = c.args.self.now in
    let place = in_site g.M.Measure.kind c.args.slots.now c.args.site self.k self.sites self.some c.requires.size c.requires.here c.requires.grounds.unused c.index-slots-site.result c.index-slots-site.is c.loop-place.place c.loop-place-test.true in
    scanned_more g.met.M.Measure.lawful self.limit self.admitted (table g.M.Measure.kind c.args.slots.now) c.requires.fits self.k c.args.site c.loop-place.place c.loop-place.best c.better-best.result place c.loop-place.invariant c.better-best.ensures

pub returns : goal.returns
returns g c =
    let self = c.args.self.now in
    let K = g.M.Measure.kind in
    let xs = c.args.slots.now in
    let site = c.args.site in
    let past : site * self.k + (slot K xs site).used ≤ c.loop-place.place = subst (λ (x : ℕ). site * self.k + x ≤ c.loop-place.place) (used K xs site self.k self.sites self.some c.requires.size c.requires.here c.index-slots-site.result c.index-slots-site.is) c.loop-place-test.false in
    scanned_all K self.limit (table K xs) (slot K xs) self.k self.sites site c.loop-place.place c.loop-place.best c.requires.here c.requires.grounds.unused past c.loop-place.invariant

pub overflow_mul-start : goal.overflow_mul-start
overflow_mul-start g c = let self = c.args.self.now in record { fits = omega (arith, self.few, site_room self.k c.args.site self.sites c.requires.here) }
