use Rattle.line.proofs.Lengths.{route_short}
use Rattle.line.proofs.Reply.put.Goals as goal

pub returns-in-Route-clause-short : goal.returns-in-Route-clause-short
returns-in-Route-clause-short g c few =
    let value = c.in-Route.value in
    let delay = rw c.number.ensures at c.number_word-in-Route.ensures.short in
    let price = rw c.number-in-Route.ensures at c.number_word-in-Route-2.ensures.short in
    let class = rw c.number-in-Route-2.ensures at c.number_word-in-Route-3.ensures.short in
    rw c.in-Route.is (
    route_short c.in-Route.mark c.in-Route.ratio value.first.first.number value.first.second.number value.second.number c.args.legs.now
    c.share_word.ensures.short delay price class c.number_word-in-Route-4.ensures.short c.type_inv.legs few)
