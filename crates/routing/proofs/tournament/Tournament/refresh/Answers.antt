use borrow.Author.Rules.{scaled_Fits}
use Rattle.std.proofs.Common.{List, get_or, set, ◌≡◌, ℕ, ◌+◌, ◌*◌, ◌<◌, length, sym, ap, ◌∙◌, subst, arith}
use Rattle.measure.specs.Kind.{Kind}
use Rattle.measure.specs.declared.ratio.Ratio.{Ratio}
use Rattle.labels.specs.declared.Label.{Label}
use Rattle.labels.specs.declared.Slot.{Slot}
use Rattle.labels.specs.Tournament.{SiteBest, NotedBut, NotedUnder, SameLabels, SameUsed, SameLists}
use Rattle.labels.specs.Labels.{slot, table}
use Rattle.labels.proofs.Nodes.{sites_few, site_room}
use Rattle.labels.proofs.Writes.{slot_same, slot_other, slot_stays, slot_read}
use Rattle.labels.proofs.Climbing.{sited, site_best_same, fits_same}
use Rattle.routing.proofs.tournament.Tournament.refresh.Goals as goal

pub overflow_cast-slots : goal.overflow_cast-slots
overflow_cast-slots g c =
    let self = c.args.self.now in
    let room = site_room self.k c.args.site self.sites c.requires.here in
    let at = c.rescan-best.ensures.at.1 in
    let few = self.few in
    let low : c.rescan-best.result < self.sites * self.k = omega arith in
    record { fits = omega arith }

pub offset_bounds-slots-site : goal.offset_bounds-slots-site
offset_bounds-slots-site g c =
    let self = c.args.self.now in
    let few = sites_few self.k self.sites self.some in
    let low : c.args.site < length c.args.slots.now = omega (arith, c.requires.size, c.requires.here) in
    search scaled_Fits

pub bounds-slots-site : goal.bounds-slots-site
bounds-slots-site g c = let self = c.args.self.now in let few = sites_few self.k self.sites self.some in omega (arith, c.requires.size)

pub bounds-slots-site-2 : goal.bounds-slots-site-2
bounds-slots-site-2 g c = let self = c.args.self.now in let few = sites_few self.k self.sites self.some in omega (arith, c.requires.size)

-- the best place is noted and nothing else
module _ {V L : Type 0} (K : Kind V L) (xs : List (Slot V)) (site b : ℕ) (x : Slot V) (low : site < length xs) (is : x ≡ get_or xs site x) where
  abbrev written : Slot V
  written = let y = get_or xs site x in record { label = y.label; share = y.share; winner = y.winner; best = b; used = y.used; first = y.first; next = y.next }

  read : get_or xs site x ≡ slot K xs site
  read = sym is ∙ slot_read K xs site x low is

  labels : SameLabels (slot K xs) (slot K (set xs site written))
  labels p = (slot_stays K xs site written low (Label V) (λ y. y.label) (ap (λ y. y.label) read) p, slot_stays K xs site written low Ratio (λ y. y.share) (ap (λ y. y.share) read) p)

  used : SameUsed (slot K xs) (slot K (set xs site written))
  used = slot_stays K xs site written low ℕ (λ y. y.used) (ap (λ y. y.used) read)

  links : SameLists (slot K xs) (slot K (set xs site written))
  links p = (slot_stays K xs site written low ℕ (λ y. y.first) (ap (λ y. y.first) read) p, slot_stays K xs site written low ℕ (λ y. y.next) (ap (λ y. y.next) read) p)

  under : (l : L) (k n : ℕ) → NotedBut K l (table K xs) (slot K xs) k n site → SiteBest K l (table K xs) k site b → NotedUnder K l (table K (set xs site written)) (slot K (set xs site written)) k n (n + site)
  under l k n but best =
      let B = table K (set xs site written) in
      let X = slot K (set xs site written) in
      sited K l (table K xs) B (slot K xs) X k n (λ p. (labels p).0) (λ p. (labels p).1) used site
      (slot_stays K xs site written low ℕ (λ y. y.winner) (ap (λ y. y.winner) read))
      (λ s ne. ap (λ y. y.best) (slot_other K xs site written low s ne))
      but
      (subst (SiteBest K l B k site) (sym (ap (λ y. y.best) (slot_same K xs site written low))) (site_best_same K l (table K xs) B (slot K xs) X k n (λ p. (labels p).0) site b best))

pub climb-requires-clause-fits : goal.climb-requires-clause-fits
climb-requires-clause-fits g c =
    let K = g.M.Measure.kind in
    let self = c.args.self.now in
    let xs = c.args.slots.now in
    let few = sites_few self.k self.sites self.some in
    fits_same K self.limit (table K xs) _ (λ p. (labels K xs c.args.site c.rescan-best.result c.index-slots-site.result (omega (arith, c.requires.size)) c.index-slots-site.is p).0) c.requires.fits

pub climb-requires-clause-under : goal.climb-requires-clause-under
climb-requires-clause-under g c =
    let K = g.M.Measure.kind in
    let self = c.args.self.now in
    let few = sites_few self.k self.sites self.some in
    under K c.args.slots.now c.args.site c.rescan-best.result c.index-slots-site.result (omega (arith, c.requires.size)) c.index-slots-site.is self.limit self.k self.sites c.requires.but c.rescan-best.ensures

pub returns-clause-labels : goal.returns-clause-labels
returns-clause-labels g c =
    let self = c.args.self.now in
    let few = sites_few self.k self.sites self.some in
    let h = labels g.M.Measure.kind c.args.slots.now c.args.site c.rescan-best.result c.index-slots-site.result (omega (arith, c.requires.size)) c.index-slots-site.is in
    λ p. ((c.climb.ensures.labels p).0 ∙ (h p).0, (c.climb.ensures.labels p).1 ∙ (h p).1)

pub returns-clause-used : goal.returns-clause-used
returns-clause-used g c =
    let self = c.args.self.now in
    let few = sites_few self.k self.sites self.some in
    let h = used g.M.Measure.kind c.args.slots.now c.args.site c.rescan-best.result c.index-slots-site.result (omega (arith, c.requires.size)) c.index-slots-site.is in
    λ p. c.climb.ensures.used p ∙ h p

pub returns-clause-links : goal.returns-clause-links
returns-clause-links g c =
    let self = c.args.self.now in
    let few = sites_few self.k self.sites self.some in
    let h = links g.M.Measure.kind c.args.slots.now c.args.site c.rescan-best.result c.index-slots-site.result (omega (arith, c.requires.size)) c.index-slots-site.is in
    λ p. ((c.climb.ensures.links p).0 ∙ (h p).0, (c.climb.ensures.links p).1 ∙ (h p).1)
