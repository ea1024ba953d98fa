use Rattle.std.proofs.Common.{sym, ◌∙◌, arith}
use Rattle.labels.proofs.Scans.{dominated_here, fresh_here, used_few, used_past}
use Rattle.routing.proofs.tournament.Tournament.is_covered.Goals as goal

pub returns-clause-yes : goal.returns-clause-yes
returns-clause-yes g c some =
    let unused = c.requires.unused in
    let start = c.first_place-start in
    let used = c.used-used in
    let few = used_few unused c.args.site start.result used.result c.requires.here start.ensures.value used.ensures in
    dominated_here g.M.Measure.kind c.args.slots.now c.args.self.now.k c.args.site start.result used.result start.ensures.value few (omega (arith, few, start.ensures.room, c.requires.size)) (used_past unused c.args.site start.result used.result c.requires.here start.ensures.value used.ensures) c.args.value (sym c.is_dominated.ensures ∙ some)

pub returns-clause-no : goal.returns-clause-no
returns-clause-no g c none =
    let unused = c.requires.unused in
    let start = c.first_place-start in
    let used = c.used-used in
    let few = used_few unused c.args.site start.result used.result c.requires.here start.ensures.value used.ensures in
    fresh_here g.M.Measure.kind c.args.slots.now c.args.self.now.k c.args.site start.result used.result start.ensures.value few (omega (arith, few, start.ensures.room, c.requires.size)) (used_past unused c.args.site start.result used.result c.requires.here start.ensures.value used.ensures) c.args.value (sym c.is_dominated.ensures ∙ none)
