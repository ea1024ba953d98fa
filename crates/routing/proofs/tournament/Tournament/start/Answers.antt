use Rattle.std.proofs.Common.{refl, sym, ◌∙◌, subst}
use Rattle.measure.specs.Kind.{made_empty}
use Rattle.measure.specs.Ranks.{Fit}
use Rattle.labels.specs.Labels.{Starts, slot, table}
use Rattle.labels.proofs.Seeding.{frees_all}
use Rattle.labels.proofs.Turns.{starts_made}
use Rattle.labels.proofs.Putting.{begun_fits, begun_entered, begun_other, links_trans}
use Rattle.routing.proofs.tournament.Tournament.start.Goals as goal

pub enter-requires-clause-fits : goal.enter-requires-clause-fits
enter-requires-clause-fits g c =
    let K = g.M.Measure.kind in
    let laws = g.met.M.Measure.lawful in
    let self = c.args.self.now in
    let none = frees_all K c.args.slots.now c.seed.new.slots c.requires.free c.seed.ensures.labels in
    begun_fits K self.limit (slot K c.seed.new.slots) (slot K c.write.new.slots) (slot K c.use_first.new.slots) self.k self.sites c.args.site c.first_place-place.result _ c.first_place-place.ensures.value self.some c.requires.here none c.seed.ensures.noted c.seed.ensures.unused refl c.write.ensures c.use_first.ensures.labels c.use_first.ensures.winners c.use_first.ensures.here c.use_first.ensures.other (subst (Fit K self.limit) (sym c.empty.ensures) (record { made = made_empty; within = laws.empty_within self.limit self.admitted }))

pub enter-requires-clause-entered : goal.enter-requires-clause-entered
enter-requires-clause-entered g c =
    let K = g.M.Measure.kind in
    let laws = g.met.M.Measure.lawful in
    let self = c.args.self.now in
    let none = frees_all K c.args.slots.now c.seed.new.slots c.requires.free c.seed.ensures.labels in
    begun_entered K self.limit (slot K c.seed.new.slots) (slot K c.write.new.slots) (slot K c.use_first.new.slots) self.k self.sites c.args.site c.first_place-place.result _ c.first_place-place.ensures.value self.some c.requires.here none c.seed.ensures.noted c.seed.ensures.unused refl c.write.ensures c.use_first.ensures.labels c.use_first.ensures.winners c.use_first.ensures.here c.use_first.ensures.other

pub returns-clause-starts : goal.returns-clause-starts
returns-clause-starts g c =
    let K = g.M.Measure.kind in
    let laws = g.met.M.Measure.lawful in
    let self = c.args.self.now in
    let none = frees_all K c.args.slots.now c.seed.new.slots c.requires.free c.seed.ensures.labels in
    subst (Starts K (table K c.enter.new.slots)) c.first_place-place.ensures.value
    (starts_made K c.empty.result c.empty.ensures ((c.enter.ensures.labels c.first_place-place.result).0 ∙ (c.use_first.ensures.labels c.first_place-place.result).0 ∙ c.write.ensures.here)
    (λ p ne. (c.enter.ensures.labels p).0 ∙ begun_other K self.limit (slot K c.seed.new.slots) (slot K c.write.new.slots) (slot K c.use_first.new.slots) self.k self.sites c.args.site c.first_place-place.result _ c.first_place-place.ensures.value self.some c.requires.here none c.seed.ensures.noted c.seed.ensures.unused refl c.write.ensures c.use_first.ensures.labels c.use_first.ensures.winners c.use_first.ensures.here c.use_first.ensures.other p ne) none)

pub returns-clause-links : goal.returns-clause-links
returns-clause-links g c =
    let K = g.M.Measure.kind in
    let X = slot K c.seed.new.slots in
    let Z = slot K c.use_first.new.slots in
    let end = slot K c.enter.new.slots in
    links_trans (slot K c.args.slots.now) X end c.seed.ensures.links (links_trans X Z end (links_trans X (slot K c.write.new.slots) Z c.write.ensures.links c.use_first.ensures.links) c.enter.ensures.links)
