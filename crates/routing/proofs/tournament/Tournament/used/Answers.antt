use Rattle.std.proofs.Common.{ap, arith}
use Rattle.std.proofs.lemmas.List.{get_or_default}
use Rattle.labels.specs.Labels.{blank_slot}
use Rattle.labels.proofs.Nodes.{sites_few}
use Rattle.routing.proofs.tournament.Tournament.used.Goals as goal

pub returns : goal.returns
returns g c =
    let self = c.args.self.now in
    ap (λ y. y.used) (get_or_default c.args.slots.now c.args.site c.index-slots-site.result (blank_slot g.M.Measure.kind) (omega (arith, c.requires.size, c.requires.here, sites_few self.k self.sites self.some)))
