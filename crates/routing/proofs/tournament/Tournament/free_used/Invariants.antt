use Rattle.std.proofs.Common.{◌*◌}
use Rattle.labels.specs.Labels.{Frees, slot, table}
use Rattle.labels.specs.Tournament.{Unused}
use Rattle.routing.proofs.tournament.Tournament.free_used.Given as goal

abbrev pub invariant-loop-site : goal.invariant-loop-site
invariant-loop-site g l =
    let K = g.M.Measure.kind in
    Unused (table K l.slots) (slot K l.slots) l.self.k l.self.sites × Frees (table K l.slots) (l.site * l.self.k)
