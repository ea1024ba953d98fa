use Rattle.std.proofs.Common.{◌≡◌, ◌≤◌, ◌++◌, length, take, drop, ap, ◌∙◌, sym, subst, arith}
use Rattle.std.proofs.lemmas.List.{length-take-le}
use Rattle.labels.specs.Labels.{slot}
use Rattle.labels.specs.Outgoing.{Listed}
use Rattle.labels.proofs.Outgoing.{listed_none, listed_used, front_at, front_labels}
use Rattle.routing.proofs.outgoing.list_links.Goals as goal

pub loop-place-init : goal.loop-place-init
loop-place-init g c =
    let K = g.M.Measure.kind in
    let links = g.N.Links.links c.args.network.now in
    let span = g.N.Links.span c.args.network.now in
    let xs = c.args.slots.now in
    let n = c.sites-sites.result in
    let room : n ≤ length xs = omega (arith, c.sites-sites.ensures) in
    let after = c.clear_firsts.ensures in
    let long = c.clear_firsts.auto.slots in
    let few : n ≤ length (take n xs) = omega (arith, length-take-le n xs room) in
    let W = slot K (c.clear_firsts.new.slots ++ drop n xs) in
    let all : Listed links W span (length links) =
    listed_none links W span (λ s lt. ap (λ y. y.first) (front_at K xs c.clear_firsts.new.slots n room long s (omega (arith, c.sites-sites.ensures))) ∙ after.firsts s (omega (arith, c.sites-sites.ensures)) ∙ c.places-places.ensures) in
    record {
      listed = subst (Listed links W span) (omega (arith, c.places-places.ensures)) (listed_used links W span c.used_places.result c.used_places.ensures all);
      labels = front_labels K xs c.clear_firsts.new.slots n room long after.labels;
    }

pub returns-clause-listed : goal.returns-clause-listed
returns-clause-listed g c room =
    let done : c.loop-place.place ≡ 0 = omega arith in
    subst (Listed (g.N.Links.links c.args.network.now) (slot g.M.Measure.kind c.loop-place.slots) (g.N.Links.span c.args.network.now)) done c.loop-place.invariant.listed
