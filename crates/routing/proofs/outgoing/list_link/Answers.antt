use Rattle.std.proofs.Common.{sym, ◌∙◌}
use Rattle.labels.specs.Labels.{slot}
use Rattle.labels.proofs.Outgoing.{listed_empty, listed_more}
use Rattle.routing.proofs.outgoing.list_link.Goals as goal

pub returns-in_default-clause-listed : goal.returns-in_default-clause-listed
returns-in_default-clause-listed g c =
    listed_empty (g.N.Links.links c.args.network.now) (slot g.M.Measure.kind c.args.slots.now) (g.N.Links.span c.args.network.now) c.args.place c.requires.listed (sym c.link.ensures ∙ c.in_default.is)

pub returns-in-Some-clause-listed : goal.returns-in-Some-clause-listed
returns-in-Some-clause-listed g c =
    let K = g.M.Measure.kind in
    let network = c.args.network.now in
    let link = c.in-Some.link in
    let after = c.note_link.ensures in
    let here = sym c.link.ensures ∙ c.in-Some.is in
    let sound = (g.met.N.Links.sound network).each c.args.place link.start link.end link.value here in
    listed_more (g.N.Links.links network) (slot K c.args.slots.now) (g.N.Links.span network) c.args.place c.requires.listed (slot K c.note_link.new.slots)
    link.start link.end link.value sound.start_in here after.first after.next after.firsts after.nexts
