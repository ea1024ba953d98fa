use Rattle.labels.specs.Labels.{slot}
use Rattle.labels.specs.Tournament.{SameLabels, SameLists}
use Rattle.labels.proofs.Seeding.{Fresh}
use Rattle.routing.proofs.tournament.Tournament.seed_sites.Given as goal

abbrev pub invariant-loop-site : goal.invariant-loop-site
invariant-loop-site g l =
    let K = g.M.Measure.kind in
    record {
      fresh : Fresh (slot K l.slots) l.self.k l.site;
      labels : SameLabels (slot K l.initial.slots) (slot K l.slots);
      links : SameLists (slot K l.initial.slots) (slot K l.slots);
    }
