use Rattle.std.proofs.Common.{◌≡◌, length, get_or, sym, ap, ◌∙◌, arith}
use Rattle.records.specs.Feed.{body_length, refusal_of}
use Rattle.records.proofs.Readings.{reads_refused, reads_nothing}
use Rattle.records.proofs.RoundTrip.{reads_part}
use Rattle.feed.proofs.read_none.Goals as goal

pub returns-in-Some : goal.returns-in-Some
returns-in-Some c =
    let e : get_or c.args.part.now 0 0 ≡ c.in-Some.kind.now = ap (λ xs. get_or xs 0 0) c.in-Some.ensures.cases.0 in
    reads_part c.type_inv.part
    (reads_refused c.args.part.now c.args.place (length c.in-Some.body.now) (omega (arith, c.in-Some.ensures))
    (λ n b. omega (arith, c.requires n b, c.in-Some.ensures))
    (c.refusal_at-why.ensures ∙ ap (λ k. refusal_of (body_length k) (length c.in-Some.body.now) c.args.place) (sym e)))

pub returns-in-None : goal.returns-in-None
returns-in-None c = reads_part c.type_inv.part (reads_nothing c.args.part.now c.args.place (omega (arith, c.in-None.ensures)))
