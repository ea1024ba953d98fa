use Rattle.std.proofs.Common.{ℕ, sym, ap, ◌∙◌, subst}
use Rattle.std.proofs.lemmas.List.{get_or_default}
use Rattle.catalogue.specs.Walks.{Holds, extend}
use Rattle.labels.specs.Labels.{blank_slot}
use Rattle.routing.proofs.exploration.Exploration.offered.Goals as goal

pub returns-then-within : goal.returns-then-within
returns-then-within g c =
    let K = g.M.Measure.kind in
    let cat = g.N.Links.links c.args.self.now.network.now in
    let link = c.in_ok-link.link in
    record {
      value = link.value;
      leads = subst (λ (s : ℕ). Holds cat c.args.i s link.end link.value) c.if-link-site.false (sym c.link.ensures ∙ c.in_ok-link.was);
      joined = c.extended-value.ensures ∙ ap (λ y. extend K y.label.value link.value) (get_or_default c.args.slots.now c.args.h _ (blank_slot K) c.requires);
      within = sym c.within.ensures ∙ c.if-within.true;
    }
