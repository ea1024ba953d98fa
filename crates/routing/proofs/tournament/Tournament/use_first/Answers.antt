use borrow.Author.Rules.{scaled_Fits}
use Rattle.std.proofs.Common.{refl, ap}
use Rattle.std.proofs.lemmas.List.{get_or_default}
use Rattle.labels.specs.Labels.{blank_slot, slot}
use Rattle.labels.proofs.Writes.{labels_on, links_on, slot_same, slot_other, slot_stays}
use Rattle.routing.proofs.tournament.Tournament.use_first.Goals as goal

pub returns : goal.returns
returns g c =
    let K = g.M.Measure.kind in
    let xs = c.args.slots.now in
    let site = c.args.site in
    let low = c.requires in
    let r = c.index-slots-site.result in
    let read = get_or_default xs site r (blank_slot K) low in
    record {
      labels = labels_on K xs site _ low (slot K xs) r refl refl (λ p. (refl, refl));
      winners = λ p. (slot_stays K xs site _ low _ (λ y. y.winner) (ap (λ y. y.winner) read) p, slot_stays K xs site _ low _ (λ y. y.best) (ap (λ y. y.best) read) p);
      links = links_on K xs site _ low (slot K xs) r refl refl (λ p. (refl, refl));
      here = ap (λ y. y.used) (slot_same K xs site _ low);
      other = λ p ne. ap (λ y. y.used) (slot_other K xs site _ low p ne);
    }

pub offset_bounds-slots-site : goal.offset_bounds-slots-site
offset_bounds-slots-site g c = search (scaled_Fits, c.requires)
