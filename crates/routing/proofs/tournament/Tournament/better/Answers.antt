use Rattle.std.proofs.Common.{◌∙◌}
use Rattle.labels.specs.Labels.{table, Waits}
use Rattle.labels.proofs.Standing.{better_idle, better_other, better_before, better_stays}
use Rattle.labels.proofs.Climbing.{read_queued, read_rank}
use Rattle.routing.proofs.tournament.Tournament.better.Goals as goal

pub returns-then-not-is_waiting : goal.returns-then-not-is_waiting
returns-then-not-is_waiting g c =
    let K = g.M.Measure.kind in
    let self = c.args.self.now in
    let xs = c.args.slots.now in
    better_idle g.met.M.Measure.lawful self.limit self.admitted (table K xs) c.requires.fits c.args.a c.args.b
    (read_queued K xs c.args.b c.index-slots-b.result c.requires.right c.index-slots-b.is c.is_waiting.result c.is_waiting.ensures ∙ c.if-not-is_waiting.true)

pub returns-then-not-is_waiting-2 : goal.returns-then-not-is_waiting-2
returns-then-not-is_waiting-2 g c =
    let K = g.M.Measure.kind in
    let self = c.args.self.now in
    let xs = c.args.slots.now in
    better_other g.met.M.Measure.lawful self.limit self.admitted (table K xs) c.requires.fits c.args.a c.args.b
    (read_queued K xs c.args.a c.index-slots-a.result c.requires.left c.index-slots-a.is c.is_waiting-2.result c.is_waiting-2.ensures ∙ c.if-not-is_waiting-2.true)

pub returns-then-outranks : goal.returns-then-outranks
returns-then-outranks g c =
    let K = g.M.Measure.kind in
    let self = c.args.self.now in
    let xs = c.args.slots.now in
    let b : Waits (table K xs) c.args.b = read_queued K xs c.args.b c.index-slots-b.result c.requires.right c.index-slots-b.is c.is_waiting.result c.is_waiting.ensures ∙ c.if-not-is_waiting.false in
    let a : Waits (table K xs) c.args.a = read_queued K xs c.args.a c.index-slots-a.result c.requires.left c.index-slots-a.is c.is_waiting-2.result c.is_waiting-2.ensures ∙ c.if-not-is_waiting-2.false in
    let rank = read_rank K xs self.limit c.requires.shares c.args.b c.args.a c.index-slots-b.result c.index-slots-a.result c.requires.right c.requires.left c.index-slots-b.is c.index-slots-a.is b a c.outranks.result c.outranks.ensures in
    better_before g.met.M.Measure.lawful self.limit self.admitted (table K xs) c.requires.fits c.args.a c.args.b a b (rank ∙ c.if-outranks.true)

pub returns-else-outranks : goal.returns-else-outranks
returns-else-outranks g c =
    let K = g.M.Measure.kind in
    let self = c.args.self.now in
    let xs = c.args.slots.now in
    let b : Waits (table K xs) c.args.b = read_queued K xs c.args.b c.index-slots-b.result c.requires.right c.index-slots-b.is c.is_waiting.result c.is_waiting.ensures ∙ c.if-not-is_waiting.false in
    let a : Waits (table K xs) c.args.a = read_queued K xs c.args.a c.index-slots-a.result c.requires.left c.index-slots-a.is c.is_waiting-2.result c.is_waiting-2.ensures ∙ c.if-not-is_waiting-2.false in
    let rank = read_rank K xs self.limit c.requires.shares c.args.b c.args.a c.index-slots-b.result c.index-slots-a.result c.requires.right c.requires.left c.index-slots-b.is c.index-slots-a.is b a c.outranks.result c.outranks.ensures in
    better_stays g.met.M.Measure.lawful self.limit self.admitted (table K xs) c.requires.fits c.args.a c.args.b a (rank ∙ c.if-outranks.false)
