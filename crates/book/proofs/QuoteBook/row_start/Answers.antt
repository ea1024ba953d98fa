use Rattle.std.proofs.Common.{ℕ, ◌+◌, ◌*◌, ◌≤◌, length, refl, ap, subst, arith}
use Rattle.cards.proofs.Rows.{row_within}
use Rattle.book.proofs.QuoteBook.row_start.Goals as goal

pub returns : goal.returns
returns g c =
    let cards = length c.args.self.now.cards.now in
    let rows = length c.args.self.now.rows.now in
    let w = c.width.result in
    let inside : c.args.card * w + w ≤ rows = omega (arith, row_within c.args.card w cards (cards * w) c.requires refl, c.width.ensures.fits) in
    record {
      value = ap (λ (x : ℕ). c.args.card * x) c.width.ensures.value;
      fits = subst (λ (x : ℕ). c.args.card * w + x ≤ rows) c.width.ensures.value inside;
    }
