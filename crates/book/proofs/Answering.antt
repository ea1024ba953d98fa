-- What routing says, where its row is a part of the rows.
use Rattle.std.proofs.Common.{◌≡◌, ℕ, ◌+◌, ◌<◌, ◌≤◌, Bool, true, not, List, [], ◌∷◌, ◌++◌, length, take, drop, is_some, Some, None, Ok, Err, Option, Result, sym, refl, ap, ◌∙◌, subst, append_assoc, arith, length-append}
use lib.ListN.{length-replicate}
use lib.Seq.{paste}
use Rattle.std.proofs.lemmas.List.{take-take, drop-drop, take-append-drop}
use Rattle.std.proofs.lemmas.Bool.{not-false, leb-false, eqb-true, cond-false, le-ltb, or_from, lt-leb}
use Rattle.measure.specs.Kind.{Kind}
use Rattle.report.specs.declared.Refusal.{Refusal}
use Rattle.report.specs.declared.Refusal.TheVariants.{CardEmpty}
use Rattle.catalogue.specs.declared.routes.Ask.{Ask}
use Rattle.catalogue.specs.declared.routes.Route.{Route}
use Rattle.catalogue.specs.Asks.{row_with}
use Rattle.routing.specs.Searching.{route_causes, Answered}
use Rattle.report.specs.declared.Mark.TheVariants.{Standing, Doubtful}
use Rattle.report.specs.Refusals.{topmost, unless, filled_or}
use Rattle.catalogue.specs.Places.{at}
use Rattle.labels.specs.declared.Slot.{Slot}
use Rattle.cards.specs.declared.Card.{Card}
use Rattle.cards.specs.Books.{Network, Book, SoundBook}
use Rattle.labels.specs.Workspaces.{AllFree}
use Rattle.cards.specs.Calls.{differ, quote_causes, recheck_causes, Quoted, quoted, quote_full, Rechecked, rechecked, recheck_full}
use Rattle.report.proofs.Clearing.{cleared}
use Rattle.book.proofs.Refusing.{first_passed, unless_tells, filled_refused, filled_passed}
use Rattle.book.specs.Answers.{RowAnswer, CardAnswer}

-- a part written back where it came from
pub paste_back : (rows row : List ℕ) (start width : ℕ) → start + width ≤ length rows → row ≡ take width (drop start rows) → paste rows start row width ≡ rows
paste_back rows row start width fits is =
    append_assoc (take start rows) (take width row) (drop (start + width) rows)
    ∙ ap (λ xs. take start rows ++ xs) (
    ap (λ xs. take width xs ++ drop (start + width) rows) is ∙ ap (λ xs. xs ++ drop (start + width) rows) (take-take width width (drop start rows) (omega arith))
    ∙ ap (λ xs. take width (drop start rows) ++ xs) (sym (drop-drop width start rows)) ∙ take-append-drop width (drop start rows))
    ∙ take-append-drop start rows

-- legs that have a row of the width have room in it
row_room : (legs row : List ℕ) (width : ℕ) → row ≡ row_with legs width → length row ≡ width → length legs ≤ width
row_room legs row width is long = let h = simp (length-append, length-replicate) at (ap length is) in omega arith

module _ {V L : Type 0} (K : Kind V L) (n : Network V) (k : ℕ) (ask : Ask L) (rows row row' rows' : List ℕ) (start width : ℕ) where
  pub row_answered : start + width ≤ length rows → row ≡ take width (drop start rows) → length row ≡ width → length row' ≡ width → rows' ≡ paste rows start row' width →
      (r : Result (Option (Route V)) Refusal) → Answered K n.links k ask row row' r → RowAnswer K n k ask rows start width r rows'
  row_answered fits is long long' put (Ok answer) (legs, found, left) =
      let own : row' ≡ row_with legs width = left ∙ ap (row_with legs) long in
      (legs, found, row_room legs row' width own long', put ∙ ap (λ xs. paste rows start xs width) own)
  row_answered fits is long long' put (Err why) (site, full, crowded, left) =
      (site, full, crowded, put ∙ ap (λ xs. paste rows start xs width) left ∙ paste_back rows row start width fits is)

-- an outcome at what equals its answer and the quote book that it leaves
pub moved : {V L : Type 0} (P : Result (Option (Route V)) Refusal → Book V L → List (Slot V) → Type 0) {r r' : Result (Option (Route V)) Refusal} {b b' : Book V L} {labels : List (Slot V)} → r' ≡ r → b' ≡ b → P r b labels → P r' b' labels
moved P {r} {r'} {b} {b'} {labels} er eb h = subst (λ x. P x b' labels) (sym er) (subst (λ x. P r x labels) (sym eb) h)

module _ {V L : Type 0} {K : Kind V L} {n : Network V} {b : Book V L} {labels : List (Slot V)} {card : ℕ} where
  pub quoted_so : {ask : Ask L} {k : ℕ} (r : Result (Option (Route V)) Refusal) {b' : Book V L} {labels' : List (Slot V)} → topmost (quote_causes K n b (length labels) card ask k) ≡ None →
      AllFree K labels' → CardAnswer K n k ask Standing b card r b' → Quoted K n b labels card ask k r b' labels'
  quoted_so {ask} {k} (Ok answer) {labels' = labels'} free empty (legs, found, is) = moved (Quoted K n b labels card ask k) refl is (quoted answer legs labels' free found empty)
  quoted_so {ask} {k} (Err why) {labels' = labels'} free empty (site, full, crowded, is) = moved (Quoted K n b labels card ask k) (ap Err full) is (quote_full site labels' free crowded empty)

  pub rechecked_so : {k : ℕ} (it : Card V L) (r : Result (Option (Route V)) Refusal) {b' : Book V L} {labels' : List (Slot V)} → topmost (recheck_causes n b (length labels) card k) ≡ None →
      at b.cards card ≡ Some it → it.mark ≡ Doubtful → AllFree K labels' → CardAnswer K n k it.ask Standing b card r b' → Rechecked K n b labels card k r b' labels'
  rechecked_so {k} it (Ok answer) {labels' = labels'} free here doubtful empty (legs, found, is) = moved (Rechecked K n b labels card k) refl is (rechecked it answer legs labels' free here doubtful found empty)
  rechecked_so {k} it (Err why) {labels' = labels'} free here doubtful empty (site, full, crowded, is) = moved (Rechecked K n b labels card k) (ap Err full) is (recheck_full it site labels' free here doubtful crowded empty)

module _ {V L : Type 0} (n : Network V) (b : Book V L) (card room k : ℕ) (sites : ◌≡◌ {A = Result (Unit {0}) Refusal} (Ok tt) (unless (topmost (differ n b ∷ [])) (Ok tt))) where
  -- the causes of a recheck, the number of sites aside
  abbrev rest : List (Bool × Refusal)
  rest = drop 1 (recheck_causes n b room card k)

  same : topmost (recheck_causes n b room card k) ≡ topmost rest
  same = first_passed (differ n b) rest sites

  recheck_some : topmost rest ≡ None → is_some (at b.cards card) ≡ true
  recheck_some e = not-false _ (cleared rest e).1.0

  pub recheck_why : (why : Refusal) → Err why ≡ unless (topmost rest) (filled_or CardEmpty (at b.cards card)) → topmost (recheck_causes n b room card k) ≡ Some why
  recheck_why why e = same ∙ filled_refused (topmost rest) CardEmpty (at b.cards card) why recheck_some e

  -- what a recheck that is not refused knows of its card
  pub record Rechecks (it : Card V L) : Type 0 where
    pub unrefused : topmost (recheck_causes n b room card k) ≡ None
    pub here : at b.cards card ≡ Some it
    pub inside : card < length b.cards

  pub rechecks : (it : Card V L) → Ok it ≡ unless (topmost rest) (filled_or CardEmpty (at b.cards card)) → Rechecks it
  rechecks it e =
      let (none, here) = filled_passed (topmost rest) CardEmpty (at b.cards card) it e in
      let no = cleared (recheck_causes n b room card k) (same ∙ none) in
      record { unrefused = same ∙ none; here = here; inside = leb-false _ _ no.1.0 }

  -- what is asked of routing there: the card is of a sound quote book
  pub recheck_free : (K : Kind V L) (it : Card V L) → SoundBook K b.width b.cards b.rows → Ok it ≡ unless (topmost rest) (filled_or CardEmpty (at b.cards card)) →
      topmost (route_causes K n.sites room k it.ask b.width) ≡ None
  recheck_free K it sound e =
      let known = rechecks it e in
      let no = cleared (recheck_causes n b room card k) known.unrefused in
      let width : b.width ≡ n.sites = eqb-true _ _ (not-false _ no.0) in
      let wide : n.sites ≤ b.width = omega (arith, width) in
      let fit = sound.each card it known.here in
      let from : it.ask.source < n.sites = omega (arith, width, fit.source_in) in
      let to : it.ask.destination < n.sites = omega (arith, width, fit.destination_in) in
      cond-false _ _ _ (or_from _ _ (lt-leb _ _ from) (lt-leb _ _ to)) ∙ cond-false _ _ _ (ap not fit.admitted) ∙ cond-false _ _ _ no.1.1.1.0 ∙ cond-false _ _ _ (le-ltb _ _ wide)

module _ {V L : Type 0} (K : Kind V L) (n : Network V) (b : Book V L) (card room k : ℕ) (sites : ◌≡◌ {A = Result (Unit {0}) Refusal} (Ok tt) (unless (topmost (differ n b ∷ [])) (Ok tt))) where
  -- what is asked of routing where a quote is not refused
  pub quote_free : (ask : Ask L) → ◌≡◌ {A = Result (Unit {0}) Refusal} (Ok tt) (unless (topmost (drop 1 (quote_causes K n b room card ask k))) (Ok tt)) → topmost (route_causes K n.sites room k ask b.width) ≡ None
  quote_free ask e =
      let causes = drop 1 (quote_causes K n b room card ask k) in
      let no = cleared (quote_causes K n b room card ask k) (first_passed (differ n b) causes sites ∙ unless_tells (topmost causes) (Ok tt) e) in
      let width : b.width ≡ n.sites = eqb-true _ _ (not-false _ no.0) in
      let wide : n.sites ≤ b.width = omega (arith, width) in
      cond-false _ _ _ no.1.1.0 ∙ cond-false _ _ _ no.1.1.1.0 ∙ cond-false _ _ _ no.1.1.1.1.1.0 ∙ cond-false _ _ _ (le-ltb _ _ wide)
