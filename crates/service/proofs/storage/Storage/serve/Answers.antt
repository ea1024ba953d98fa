use Rattle.std.proofs.Common.{◌≡◌, length, ap, ◌∙◌, arith, rules}
use Rattle.std.proofs.lemmas.List.{length-map}
use Rattle.labels.specs.Labels.{freed}
use Rattle.book.specs.Stores.{memory_of}
use Rattle.service.specs.Services.{room_of}
use Rattle.service.proofs.Printing.{prints_day}
use Rattle.service.proofs.storage.Storage.serve.Goals as goal

pub returns : goal.returns
returns g c =
    let held = c.args.self.now in
    let room : length c.new-workspace.result.slots.now ≡ length held.labels.now = ap length c.new-workspace.ensures.labels ∙ length-map held.labels.now freed in
    prints_day c.args.sizes _ _ _ _ c.read_input.new.buffer c.in_ok-got.got (room_of c.args.sizes.walks c.new-workspace.result.slots.now held.reply.now)
    (memory_of c.open-catalogue.result c.open-book.result) c.serve_day.result c.in_ok-got.ensures (omega arith) (search rules) (search rules) c.serve_day.ensures
