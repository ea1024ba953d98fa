use Rattle.std.proofs.Common.{arith, ℕ, ◌+◌, ◌*◌, ◌≤◌, length, Some, Option, Result, sym, refl, ap, ◌∙◌, subst}
use lib.Seq.{paste}
use Rattle.std.proofs.lemmas.Result.{err_from_is_err_and}
use Rattle.report.specs.declared.Refusal.{Refusal}
use Rattle.catalogue.specs.declared.routes.Route.{Route}
use Rattle.catalogue.specs.Asks.{row_with}
use Rattle.cards.specs.Books.{Book, card_of}
use Rattle.book.specs.Stores.{network_of, book_of}
use Rattle.book.specs.Answers.{CardAnswer}
use Rattle.book.proofs.Booked.{same_book, refiled}
use Rattle.book.proofs.Refusing.{exits}
use Rattle.routing.proofs.Refusing.{admits}
use Rattle.cards.specs.declared.Card.{Card}
use Rattle.cards.specs.Books.{SoundCard}
use Rattle.report.proofs.Clearing.{some_same}
use Rattle.book.proofs.Sounding.{sound_write, found_few}
use Rattle.book.proofs.answers.answer_card.Goals as goal

pub returns-in_err-answer : goal.returns-in_err-answer
returns-in_err-answer g c =
    let q = c.args.book.now in
    let told = c.in_err-answer.ensures in
    let (site, full, crowded, rows) = told.answer in
    let after : Book g.row.M.Denot g.row.M-Limit.Denot =
    record { width = q.sites; cards = q.cards.now; rows = c.find_in_row.new.rows } in
    record {
      same = told.same;
      labels = told.labels;
      answer = subst (λ (r : Result (Option (Route g.row.M.Denot)) Refusal). CardAnswer g.M.Measure.kind (network_of c.args.catalogue.now) c.args.k c.args.ask c.args.mark (book_of q) c.args.card r after)
          (sym (exits (err_from_is_err_and c.from_residual.result c.from_residual.ensures.1))) (site, full, crowded, same_book q q.sites refl rows);
      places = (refl, refl);
    }

pub returns : goal.returns
returns g c =
    let q = c.args.book.now in
    let b = book_of q in
    let card = c.args.card in
    let w = b.width in
    let told = c.in_ok-answer.ensures in
    let (legs, found, few, rows) = told.answer in
    let start = c.row_start-start.ensures in
    let inside : card * w + w ≤ length b.rows = subst (λ (s : ℕ). s + w ≤ length b.rows) start.value start.fits in
    let left = rows ∙ ap (λ (s : ℕ). paste b.rows s (row_with legs c.width-width.result) c.width-width.result) start.value
    ∙ ap (λ (n : ℕ). paste b.rows (card * w) (row_with legs n) n) c.width-width.ensures.value in
    let room : length legs ≤ w = subst (λ (n : ℕ). length legs ≤ n) c.width-width.ensures.value few in
    record {
      same = told.same;
      labels = told.labels;
      answer = (legs, found, refiled q q.sites card (Some (card_of c.args.ask c.in_ok-answer.answer c.args.mark)) legs refl c.write_place.ensures left);
      places = (refl, refl);
    }

pub invariant_of-book-2 : goal.invariant_of-book-2
invariant_of-book-2 g c =
    let K = g.M.Measure.kind in
    let q = c.args.book.now in
    let n = network_of c.args.catalogue.now in
    let ask = c.args.ask in
    let adm = admits K n.sites (length c.args.workspace.now.slots.now) c.args.k ask q.sites c.requires.unrefused in
    let (legs, found, room, rows) = c.in_ok-answer.ensures.answer in
    let sound = c.args.catalogue.now.sound in
    let card = card_of ask c.in_ok-answer.answer c.args.mark in
    let fit : SoundCard K q.sites card = record {
      source_in = omega (arith, adm.source, adm.fits);
      destination_in = omega (arith, adm.destination, adm.fits);
      admitted = adm.limit;
      short = found_few K n ask q.sites sound adm.source adm.fits c.in_ok-answer.answer legs found;
      few = found_few K n ask 256 sound adm.source sound.sites_few c.in_ok-answer.answer legs found;
    } in
    record { sound = sound_write q.sound c.args.card (Some card) c.write_place.new.places c.find_in_row.new.rows c.requires.inside c.write_place.ensures c.find_in_row.auto.rows (λ x e. subst (λ (y : Card g.row.M.Denot g.row.M-Limit.Denot). SoundCard K q.sites y) (some_same e) fit) }
