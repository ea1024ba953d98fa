use Rattle.std.proofs.Common.{◌≡◌, ℕ, ◌+◌, get_or, drop, sym, ap, ◌∙◌, subst, arith}
use Rattle.catalogue.specs.Walks.{Holds}
use Rattle.catalogue.proofs.Walking.{Onward, onward_more, onward_stops, onward_all}
use Rattle.catalogue.proofs.walks.follow.Goals as goal

pub returns-in_err-link : goal.returns-in_err-link
returns-in_err-link g c =
    let none = sym c.in_err-link.was ∙ c.link.ensures in
    rw c.from_residual.ensures (onward_stops g.M.Measure.kind _ _ c.loop-leg.site _ c.loop-leg.value _ c.loop-leg.leg-index (omega arith) (λ u v h. cc (none, h)) c.loop-leg.invariant)

pub returns-then-link-site : goal.returns-then-link-site
returns-then-link-site g c =
    let link = sym c.in_ok-link.was ∙ c.link.ensures in
    onward_stops g.M.Measure.kind _ _ c.loop-leg.site _ c.loop-leg.value _ c.loop-leg.leg-index (omega arith)
    (λ u v h. let z : c.in_ok-link.link ≡ record { start = c.loop-leg.site; end = u; value = v } = cc (link, h) in c.if-link-site.true (ap (λ x. x.start) z)) c.loop-leg.invariant

pub loop-leg-preserved : goal.loop-leg-preserved
loop-leg-preserved g c =
    let links = g.N.Links.links c.args.network.now in
    let leg = get_or c.args.legs.now c.loop-leg.leg-index 0 in
    let link = c.in_ok-link.link in
    let held : Holds links leg c.loop-leg.site link.end link.value = subst (λ (x : ℕ). Holds links leg x link.end link.value) c.if-link-site.false (sym c.link.ensures ∙ c.in_ok-link.was) in
    subst (λ (v : g.row.M.Denot). Onward g.M.Measure.kind links c.args.source g.M.Measure.kind.empty c.args.legs.now link.end v (drop (c.loop-leg.leg-index + 1) c.args.legs.now))
    (sym c.extended-value.ensures)
    (onward_more g.M.Measure.kind links c.args.source c.loop-leg.site link.end _ c.loop-leg.value link.value c.args.legs.now c.loop-leg.leg-index (omega arith) held c.loop-leg.invariant)

pub returns : goal.returns
returns g c = onward_all g.M.Measure.kind _ _ _ _ _ _ c.loop-leg.leg-index (omega arith) c.loop-leg.invariant
