use Rattle.std.proofs.Common.{◌≤◌, sym, ◌∙◌, arith}
use Rattle.cards.specs.Books.{leg_count}
use Rattle.book.proofs.Endings.{legs_fit}
use Rattle.book.proofs.entries.read.Goals as goal

pub legs-requires-clause-few : goal.legs-requires-clause-few
legs-requires-clause-few g c =
    let few : leg_count c.in_ok-it.it.answer ≤ c.args.book.now.sites = legs_fit g.M.Measure.kind c.args.card c.in_ok-it.it c.args.book.now.sound (sym c.in_ok-it.was ∙ c.filled.ensures) in
    omega (arith, c.leg_count-legs.ensures)
