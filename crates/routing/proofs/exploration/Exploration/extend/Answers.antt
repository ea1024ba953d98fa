use Rattle.std.proofs.Common.{◌+◌, refl, ◌∙◌, arith}
use Rattle.labels.specs.Labels.{table}
use Rattle.labels.proofs.Finding.{opens_rests}
use Rattle.labels.proofs.Outgoing.{opens_past}
use Rattle.routing.proofs.exploration.Exploration.extend.Goals as goal

pub loop-i-init : goal.loop-i-init
loop-i-init g c =
    let self = c.args.self.now in
    let t = self.tournament in
    let first = c.first_link-i in
    (opens_past g.M.Measure.kind t.limit (g.N.Links.links self.network.now) t.k self.source self.destination (table g.M.Measure.kind c.args.slots.now) c.args.h c.args.site 0 first.result first.ensures.skips c.requires.opens, λ p. refl, c.requires.indexed, first.ensures.lands)

pub link_after-i-requires-clause-lands : goal.link_after-i-requires-clause-lands
link_after-i-requires-clause-lands g c few =
    c.loop-i.invariant.3 (omega (arith, few))

pub loop-i-preserved : goal.loop-i-preserved
loop-i-preserved g c =
    let self = c.args.self.now in
    let t = self.tournament in
    let next = c.link_after-i in
    let (opens, steady, indexed) = c.in_ok-extend_by.ensures.opens in
    (opens_past g.M.Measure.kind t.limit (g.N.Links.links self.network.now) t.k self.source self.destination (table g.M.Measure.kind c.extend_by.new.slots) c.args.h c.args.site (c.loop-i.i + 1) next.result next.ensures.skips opens, λ p. steady p ∙ c.loop-i.invariant.1 p, indexed, next.ensures.lands)

pub returns-clause-rests : goal.returns-clause-rests
returns-clause-rests g c =
    let self = c.args.self.now in
    let t = self.tournament in
    let (opens, steady, indexed, lands) = c.loop-i.invariant in
    (opens_rests t.limit (g.N.Links.links self.network.now) t.k self.source self.destination (table g.M.Measure.kind c.loop-i.slots) c.args.h c.args.site c.loop-i.i opens (omega arith), steady, indexed)
