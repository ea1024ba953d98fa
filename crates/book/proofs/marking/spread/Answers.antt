use Rattle.std.proofs.Common.{◌≡◌, ◌+◌, ◌≤◌, Bool, true, false, cond, List, set, Option, refl, sym, ap, ◌∙◌, subst, arith}
use mir.Val.{bool_byte}
use Rattle.catalogue.specs.Places.{at}
use Rattle.cards.specs.declared.Card.{Card}
use Rattle.cards.specs.Books.{Book, with_cards}
use Rattle.cards.specs.Doubts.{lapsed, fell, strikes}
use Rattle.doubt.specs.News.{rule_of}
use Rattle.doubt.proofs.Spreading.{Partly, partly_more, partly_all, partly_count}
use Rattle.book.specs.Stores.{book_of}
use Rattle.book.proofs.Booked.{same_book}
use Rattle.book.proofs.marking.spread.Goals as goal

one_or_none : (b : Bool) → bool_byte b ≡ cond b 1 0
one_or_none true = refl
one_or_none false = refl

one_at_most : (b : Bool) → bool_byte b ≤ 1
one_at_most true = omega arith
one_at_most false = omega arith

pub overflow_add-count : goal.overflow_add-count
overflow_add-count g c =
    let below : c.loop-place.count ≤ c.loop-place.place =
    partly_count (rule_of g.M.Measure.kind c.args.news) (book_of c.args.book.now) c.loop-place.book.cards.now c.loop-place.place c.loop-place.count c.loop-place.invariant.partly in
    let one = one_at_most c.mark_card.result in
    omega arith

pub loop-place-preserved : goal.loop-place-preserved
loop-place-preserved g c =
    let rule = rule_of g.M.Measure.kind c.args.news in
    let b = book_of c.args.book.now in
    let cards = c.loop-place.book.cards.now in
    let place = c.loop-place.place in
    let inv = c.loop-place.invariant in
    let now_is : book_of c.loop-place.book ≡ with_cards b cards = same_book c.args.book.now c.loop-place.book.sites inv.sites inv.rows in
    let after = c.mark_card.ensures.cards
    ∙ ap (λ (x : Book g.row.M.Denot g.row.M-Limit.Denot). set cards place (lapsed (strikes rule x place) (at cards place))) now_is in
    let fallen = c.mark_card.ensures.fell ∙ ap (λ (x : Book g.row.M.Denot g.row.M-Limit.Denot). fell (strikes rule x place) (at cards place)) now_is in
    record {
      partly = subst (λ (xs : List (Option (Card g.row.M.Denot g.row.M-Limit.Denot))). Partly rule b xs (place + 1) (c.loop-place.count + c.from-count.result)) (sym after)
          (partly_more rule b cards place c.loop-place.count c.mark_card.result _ (omega (arith, inv.partly.places)) fallen (ap (λ n. c.loop-place.count + n) (c.from-count.ensures ∙ one_or_none c.mark_card.result)) inv.partly);
      rows = c.mark_card.ensures.rows ∙ inv.rows;
      sites = c.mark_card.ensures.sites ∙ inv.sites;
      same = (c.mark_card.ensures.same.0 ∙ inv.same.0, c.mark_card.ensures.same.1 ∙ inv.same.1);
    }

pub returns : goal.returns
returns g c =
    let inv = c.loop-place.invariant in
    record {
      spread = record {
        doubted = partly_all (rule_of g.M.Measure.kind c.args.news) (book_of c.args.book.now) c.loop-place.book.cards.now c.loop-place.place c.loop-place.count
            c.loop-place-test.false c.loop-place.auto.place-end inv.partly;
        rest = same_book c.args.book.now c.loop-place.book.sites inv.sites inv.rows;
      };
      same = inv.same;
    }
