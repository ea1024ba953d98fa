use Rattle.std.proofs.Common.{◌≡◌, ℕ, Some, None, Option, set, refl, sym, ap, ◌∙◌}
use Rattle.catalogue.specs.Places.{at}
use Rattle.cards.specs.declared.Card.{Card}
use Rattle.cards.specs.declared.MarkEvent.{MarkEvent}
use Rattle.cards.specs.Books.{Book}
use Rattle.cards.specs.Doubts.{Rule, strikes, lapsed, fell, event_of, marked, next}
use Rattle.doubt.specs.News.{rule_of, struck_in, struck_at, after, falls}
use Rattle.book.specs.Stores.{book_of}
use Rattle.book.proofs.Sounding.{sound_after}
use Rattle.book.proofs.marking.mark_card.Goals as goal
use Rattle.book.proofs.marking.mark_card.Goals.{then-is_struck, else-is_struck}

module _ {V L : Type 0} (rule : Rule V L) (b : Book V L) (c : ℕ) (event : MarkEvent) where
  -- the event at a card place, and what it leaves there
  after_is : (x : Option (Card V L)) → event ≡ event_of (struck_in rule b c x) → after event x ≡ lapsed (strikes rule b c) x
  after_is None e = refl
  after_is (Some card) e = ap (λ v. Some (marked card (next card.mark v))) e

  falls_is : (x : Option (Card V L)) → event ≡ event_of (struck_in rule b c x) → falls event x ≡ fell (strikes rule b c) x
  falls_is None e = refl
  falls_is (Some card) e = ap (λ v. falls v (Some card)) e

pub returns : goal.returns
returns g c =
    let rule = rule_of g.M.Measure.kind c.args.news in
    let b = book_of c.args.book.now in
    let place = c.args.place in
    let event : c.if-is_struck.event ≡ event_of (struck_at rule b place) = elim c.if-is_struck.branch [
      | then-is_struck w ↦ w.event-is ∙ ap event_of (sym w.if-is_struck.true ∙ c.is_struck.ensures)
      | else-is_struck w ↦ w.event-is ∙ ap event_of (sym w.if-is_struck.false ∙ c.is_struck.ensures)
    ] in
    record {
      cards = c.write_place.ensures ∙ ap (λ (x : Option (Card g.row.M.Denot g.row.M-Limit.Denot)). set b.cards place x)
          (c.after_news.ensures ∙ ap (after c.if-is_struck.event) c.card-was.ensures
          ∙ after_is rule b place c.if-is_struck.event (at b.cards place) event);
      fell = c.falls.ensures ∙ ap (falls c.if-is_struck.event) c.card-was.ensures
          ∙ falls_is rule b place c.if-is_struck.event (at b.cards place) event;
      rows = refl;
      sites = refl;
      same = (refl, refl);
    }

pub invariant_of-book : goal.invariant_of-book
invariant_of-book g c =
    let q = c.args.book.now in
    let place = c.args.place in
    let wrote = c.write_place.ensures ∙ ap (λ (x : Option (Card g.row.M.Denot g.row.M-Limit.Denot)). set q.cards.now place x)
    (c.after_news.ensures ∙ ap (after c.if-is_struck.event) c.card-was.ensures) in
    record { sound = sound_after q.sound place c.if-is_struck.event c.write_place.new.places c.requires wrote }
