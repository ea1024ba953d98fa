use borrow.Author.Rules.{scaled_Fits}
use Rattle.std.proofs.Common.{◌≡◌, ℕ, ◌<◌, ◌⊎◌, length, refl, sym, ap, ◌∙◌, subst, inl, inr, arith}
use Rattle.std.proofs.lemmas.List.{get_or_default}
use Rattle.labels.specs.Labels.{slot, table, blank_slot}
use Rattle.labels.specs.Tournament.{Precedes, Better}
use Rattle.labels.proofs.Writes.{fits_on, labels_on, used_on, links_on}
use Rattle.labels.proofs.Entering.{best_inside, entered_leads, entered_stays}
use Rattle.labels.proofs.Nodes.{sites_few, site_room}
use Rattle.routing.proofs.tournament.Tournament.enter.Goals as goal
use Rattle.routing.proofs.tournament.Tournament.enter.Goals.{then-best-place-via-then-best-place, then-best-place-via-else-best-place+then-better-place}

pub offset_bounds-slots-site : goal.offset_bounds-slots-site
offset_bounds-slots-site g c =
    let self = c.args.self.now in
    let few = sites_few self.k self.sites self.some in
    let low : c.args.site < length c.args.slots.now = omega (arith, c.requires.size, c.requires.here) in
    search scaled_Fits

pub bounds-slots-site : goal.bounds-slots-site
bounds-slots-site g c =
    let self = c.args.self.now in
    omega (arith, c.requires.size, c.requires.here, sites_few self.k self.sites self.some)

pub bounds-slots-site-2 : goal.bounds-slots-site-2
bounds-slots-site-2 g c =
    let self = c.args.self.now in
    omega (arith, c.requires.size, c.requires.here, sites_few self.k self.sites self.some)

pub better-requires-clause-left : goal.better-requires-clause-left
better-requires-clause-left g c =
    let K = g.M.Measure.kind in
    let self = c.args.self.now in
    let low : c.args.site < length c.args.slots.now = omega (arith, c.requires.size, c.requires.here, sites_few self.k self.sites self.some) in
    let inside = best_inside c.requires.entered c.requires.here in
    let read = ap (λ z. z.best) (get_or_default c.args.slots.now c.args.site c.index-slots-site.result (blank_slot K) low) in
    omega (arith, c.requires.size, inside, read)

pub offset_bounds-slots-site-then-best-place : goal.offset_bounds-slots-site-then-best-place
offset_bounds-slots-site-then-best-place g c =
    let self = c.args.self.now in
    let few = sites_few self.k self.sites self.some in
    let low : c.args.site < length c.args.slots.now = omega (arith, c.requires.size, c.requires.here) in
    search scaled_Fits

pub bounds-slots-site-then-best-place : goal.bounds-slots-site-then-best-place
bounds-slots-site-then-best-place g c =
    let self = c.args.self.now in
    omega (arith, c.requires.size, c.requires.here, sites_few self.k self.sites self.some)

pub bounds-slots-site-then-best-place-2 : goal.bounds-slots-site-then-best-place-2
bounds-slots-site-then-best-place-2 g c =
    let self = c.args.self.now in
    omega (arith, c.requires.size, c.requires.here, sites_few self.k self.sites self.some)

pub climb-requires-clause-fits : goal.climb-requires-clause-fits
climb-requires-clause-fits g c =
    let K = g.M.Measure.kind in
    let self = c.args.self.now in
    let xs = c.args.slots.now in
    let low : c.args.site < length xs = omega (arith, c.requires.size, c.requires.here, sites_few self.k self.sites self.some) in
    fits_on K xs c.args.site _ low self.limit c.index-slots-site-then-best-place.result refl c.requires.fits

pub climb-requires-clause-under : goal.climb-requires-clause-under
climb-requires-clause-under g c =
    let K = g.M.Measure.kind in
    let self = c.args.self.now in
    let xs = c.args.slots.now in
    let site = c.args.site in
    let low : site < length xs = omega (arith, c.requires.size, c.requires.here, sites_few self.k self.sites self.some) in
    let read = get_or_default xs site c.index-slots-site.result (blank_slot K) low in
    let ahead : ((slot K xs site).best ≡ c.args.place) ⊎ Precedes K self.limit (table K xs) c.args.place (slot K xs site).best =
    elim c.then-best-place.branch [
      | then-best-place-via-then-best-place w ↦ inl (sym (ap (λ z. z.best) read) ∙ w.if-best-place.true)
      | then-best-place-via-else-best-place+then-better-place w ↦ inr (subst (λ (b : ℕ). Precedes K self.limit (table K xs) b (slot K xs site).best) w.if-better-place.true (subst (λ (b : ℕ). Precedes K self.limit (table K xs) w.better.result b) (ap (λ z. z.best) read) w.better.ensures.left))
    ] in
    entered_leads xs c.requires.entered g.met.M.Measure.lawful self.admitted c.requires.fits c.requires.here low ahead _ c.index-slots-site-then-best-place.result refl refl refl refl refl

pub returns-then-best-place-clause-labels : goal.returns-then-best-place-clause-labels
returns-then-best-place-clause-labels g c p =
    let K = g.M.Measure.kind in
    let self = c.args.self.now in
    let xs = c.args.slots.now in
    let low : c.args.site < length xs = omega (arith, c.requires.size, c.requires.here, sites_few self.k self.sites self.some) in
    let r = c.index-slots-site-then-best-place.result in
    ((c.climb.ensures.labels p).0 ∙ (labels_on K xs c.args.site _ low (slot K xs) r refl refl (λ q. (refl, refl)) p).0, (c.climb.ensures.labels p).1 ∙ (labels_on K xs c.args.site _ low (slot K xs) r refl refl (λ q. (refl, refl)) p).1)

pub returns-then-best-place-clause-used : goal.returns-then-best-place-clause-used
returns-then-best-place-clause-used g c p =
    let K = g.M.Measure.kind in
    let self = c.args.self.now in
    let xs = c.args.slots.now in
    let low : c.args.site < length xs = omega (arith, c.requires.size, c.requires.here, sites_few self.k self.sites self.some) in
    let r = c.index-slots-site-then-best-place.result in
    c.climb.ensures.used p ∙ used_on K xs c.args.site _ low (slot K xs) r refl (λ q. refl) p

pub returns-then-best-place-clause-links : goal.returns-then-best-place-clause-links
returns-then-best-place-clause-links g c p =
    let K = g.M.Measure.kind in
    let self = c.args.self.now in
    let xs = c.args.slots.now in
    let low : c.args.site < length xs = omega (arith, c.requires.size, c.requires.here, sites_few self.k self.sites self.some) in
    let r = c.index-slots-site-then-best-place.result in
    ((c.climb.ensures.links p).0 ∙ (links_on K xs c.args.site _ low (slot K xs) r refl refl (λ q. (refl, refl)) p).0, (c.climb.ensures.links p).1 ∙ (links_on K xs c.args.site _ low (slot K xs) r refl refl (λ q. (refl, refl)) p).1)

pub returns-else-better-place-clause-noted : goal.returns-else-better-place-clause-noted
returns-else-better-place-clause-noted g c =
    let K = g.M.Measure.kind in
    let self = c.args.self.now in
    let xs = c.args.slots.now in
    let site = c.args.site in
    let low : site < length xs = omega (arith, c.requires.size, c.requires.here, sites_few self.k self.sites self.some) in
    let read = ap (λ z. z.best) (get_or_default xs site c.index-slots-site.result (blank_slot K) low) in
    entered_stays c.requires.entered c.requires.here c.better.result (subst (λ (b : ℕ). Better K self.limit (table K xs) b c.args.place c.better.result) read c.better.ensures) c.if-better-place.false

pub better-requires-clause-right : goal.better-requires-clause-right
better-requires-clause-right g c = let self = c.args.self.now in omega (arith, c.requires.size, c.requires.entered.adds.inside.1, site_room self.k c.args.site self.sites c.requires.here)
