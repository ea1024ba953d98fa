use Rattle.std.proofs.Common.{◌≡◌, ℕ, ◌<◌, ◌∙◌}
use Rattle.labels.specs.Labels.{slot, table}
use Rattle.labels.specs.Tournament.{SameLabels}
use Rattle.labels.proofs.Seeding.{frees_all, seeded}
use Rattle.routing.proofs.tournament.Tournament.seed.Goals as goal

pub returns : goal.returns
returns g c =
    let K = g.M.Measure.kind in
    let self = c.args.self.now in
    let sites = c.seed_sites.ensures in
    let nodes = c.seed_nodes.ensures in
    let xs = c.args.slots.now in
    let ys = c.seed_nodes.new.slots in
    let unused : (s : ℕ) → s < self.sites → (slot K ys s).used ≡ 0 = λ s lt. nodes.used s ∙ sites.unused s lt in
    let labels : SameLabels (slot K xs) (slot K ys) = λ p. ((nodes.labels p).0 ∙ (sites.labels p).0, (nodes.labels p).1 ∙ (sites.labels p).1) in
    record {
      noted = seeded K self.limit (table K ys) (slot K ys) self.k self.sites self.some (frees_all K xs ys c.requires.free labels) (λ s lt. nodes.bests s ∙ sites.bests s lt) unused nodes.named nodes.inside;
      labels = labels;
      links = λ p. ((nodes.links p).0 ∙ (sites.links p).0, (nodes.links p).1 ∙ (sites.links p).1);
      unused = unused;
    }
