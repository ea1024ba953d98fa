use Rattle.std.proofs.Common.{◌≡◌, ℕ, ◌*◌, min, List, length, take, ap, ◌∙◌, arith}
use Rattle.book.proofs.Fronts.{drop_min}
use Rattle.book.proofs.row_of.Goals as goal

pub returns : goal.returns
returns c =
    let start : c.min-start.result ≡ min (c.args.card * c.args.width) (length c.args.rows.now) = omega arith in
    c.front.ensures ∙ ap (λ (xs : List ℕ). take c.args.width xs) (drop_min (c.args.card * c.args.width) c.min-start.result c.args.rows.now start)
