use Rattle.std.proofs.Common.{◌≤◌, arith}
use Rattle.labels.proofs.Nodes.{sites_few, places_few}
use Rattle.labels.proofs.Seeding.{frees_all}
use Rattle.routing.proofs.find.Goals as goal

pub list_links-requires : goal.list_links-requires
list_links-requires g c =
    let admits = c.requires.admits in
    record {
      room = omega (arith, admits.size, sites_few c.args.k (g.N.Links.span c.args.network.now) admits.some);
      some = omega (arith, admits.source);
    }

pub invariant_of-exploration : goal.invariant_of-exploration
invariant_of-exploration g c =
    let admits = c.requires.admits in
    let sound = g.met.N.Links.sound c.args.network.now in
    let few : c.sites.result ≤ 256 = omega (arith, c.sites.ensures, sound.sites_few) in
    record {
      admitted = admits.limit;
      some = admits.some;
      any = omega (arith, admits.source, c.sites.ensures);
      few_sites = few;
      few = places_few c.sites.result c.args.k few admits.few;
      room = sites_few c.args.k c.sites.result admits.some;
      few_labels = admits.few;
    }

pub first_route-answer-requires-clause-free : goal.first_route-answer-requires-clause-free
first_route-answer-requires-clause-free g c p lt =
    frees_all g.M.Measure.kind c.args.slots.now c.list_links.new.slots c.requires.free c.list_links.ensures.labels p
