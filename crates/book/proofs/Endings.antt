-- How a quote, a discard and a reading end, put together from what their parts say.
use Rattle.std.proofs.Common.{◌≡◌, ℕ, ◌+◌, ◌≤◌, true, false, ltb, List, [], ◌∷◌, length, drop, set, is_ok, Some, None, Ok, Err, Option, Result, refl, sym, ap, ◌∙◌, subst, arith, length-take}
use lib.Seq.{paste}
use Rattle.std.specs.Option.{option_map}
use Rattle.std.proofs.lemmas.Option.{some_pair_parts}
use Rattle.std.proofs.lemmas.Bool.{cond-true, cond-false}
use Rattle.measure.specs.Kind.{Kind}
use Rattle.report.specs.declared.Mark.{Mark}
use Rattle.report.specs.declared.Mark.TheVariants.{Standing, Doubtful}
use Rattle.report.specs.declared.Refusal.{Refusal}
use Rattle.report.specs.declared.Refusal.TheVariants.{CardEmpty, ReplyTooShort}
use Rattle.report.specs.Refusals.{topmost, unless, filled_or}
use Rattle.catalogue.specs.Places.{at}
use Rattle.catalogue.specs.declared.routes.Ask.{Ask}
use Rattle.catalogue.specs.declared.routes.Route.{Route}
use Rattle.labels.specs.declared.Slot.{Slot}
use Rattle.cards.specs.declared.Card.{Card}
use Rattle.cards.specs.Books.{Network, Book, with_card, leg_count, legs_at, SoundBook}
use Rattle.labels.specs.Workspaces.{AllFree}
use Rattle.cards.specs.Calls.{differ, quote_causes, Quoted, quote_refused, recheck_causes, Rechecked, recheck_refused, still_standing, discard_causes, Discarded, discard_refused, discarded, legs_of, Shown, read_refused, shown}
use Rattle.book.specs.Answers.{CardAnswer, Refiled}
use Rattle.book.proofs.Answering.{quoted_so, rechecked_so, recheck_why, rechecks}
use Rattle.book.proofs.Refusing.{first_refused, first_passed, unless_tells, filled_refused, filled_passed, card_some, topmost_first, topmost_then}

-- what the checks answer: of the sites, of a quote, of a recheck, and of the card
abbrev pub sites_answer : {V L : Type 0} → Network V → Book V L → Result (Unit {0}) Refusal
sites_answer n b = unless (topmost (differ n b ∷ [])) (Ok tt)

abbrev quote_answer : {V L : Type 0} → Kind V L → Network V → Book V L → ℕ → ℕ → Ask L → ℕ → Result (Unit {0}) Refusal
quote_answer K n b room card ask k = unless (topmost (drop 1 (quote_causes K n b room card ask k))) (Ok tt)

abbrev recheck_answer : {V L : Type 0} → Network V → Book V L → ℕ → ℕ → ℕ → Result (Card V L) Refusal
recheck_answer n b room card k = unless (topmost (drop 1 (recheck_causes n b room card k))) (filled_or CardEmpty (at b.cards card))

abbrev card_answer : {V L : Type 0} → Book V L → ℕ → Result (Card V L) Refusal
card_answer b card = unless (topmost (discard_causes b card)) (filled_or CardEmpty (at b.cards card))

module _ {V L : Type 0} {K : Kind V L} {n : Network V} {b : Book V L} {labels : List (Slot V)} {card k : ℕ} {ask : Ask L} where
  pub quote_sites : {why : Refusal} → Err why ≡ sites_answer n b → Quoted K n b labels card ask k (Err why) b labels
  quote_sites {why} e = quote_refused why (first_refused (differ n b) (drop 1 (quote_causes K n b (length labels) card ask k)) why e)

  pub quote_checks : {why : Refusal} → Ok tt ≡ sites_answer n b → Err why ≡ quote_answer K n b (length labels) card ask k →
      Quoted K n b labels card ask k (Err why) b labels
  quote_checks {why} e h =
      let cs = drop 1 (quote_causes K n b (length labels) card ask k) in
      quote_refused why (first_passed (differ n b) cs e ∙ unless_tells (topmost cs) (Err why) h)

  pub quote_done : {r : Result (Option (Route V)) Refusal} {b' : Book V L} {labels' : List (Slot V)} → Ok tt ≡ sites_answer n b →
      Ok tt ≡ quote_answer K n b (length labels) card ask k → AllFree K labels' → CardAnswer K n k ask Standing b card r b' →
      Quoted K n b labels card ask k r b' labels'
  quote_done {r} e h empty answer =
      let cs = drop 1 (quote_causes K n b (length labels) card ask k) in
      quoted_so r (first_passed (differ n b) cs e ∙ unless_tells (topmost cs) (Ok tt) h) empty answer

module _ {V L : Type 0} {K : Kind V L} {n : Network V} {b : Book V L} {labels : List (Slot V)} {card k : ℕ} where
  pub recheck_sites : {why : Refusal} → Err why ≡ sites_answer n b → Rechecked K n b labels card k (Err why) b labels
  recheck_sites {why} e = recheck_refused why (first_refused (differ n b) (drop 1 (recheck_causes n b (length labels) card k)) why e)

  pub recheck_checks : {why : Refusal} → Ok tt ≡ sites_answer n b → Err why ≡ recheck_answer n b (length labels) card k → Rechecked K n b labels card k (Err why) b labels
  recheck_checks {why} e h = recheck_refused why (recheck_why n b card (length labels) k e why h)

  pub recheck_standing : {answer : Option (Route V)} → Ok tt ≡ sites_answer n b → is_ok (recheck_answer n b (length labels) card k) ≡ true →
      option_map {U = Mark × Option (Route V)} (λ (c : Card V L). (c.mark, c.answer)) (at b.cards card) ≡ Some (Standing, answer) → Rechecked K n b labels card k (Ok answer) b labels
  recheck_standing {answer} e ok held = go (recheck_answer n b (length labels) card k) refl ok
    where
      go : (r : Result (Card V L) Refusal) → r ≡ recheck_answer n b (length labels) card k → is_ok r ≡ true → Rechecked K n b labels card k (Ok answer) b labels
      go (Ok it) h ok =
          let known = rechecks n b card (length labels) k e it h in
          let parts : ◌≡◌ {A = Option (Mark × Option (Route V))} (Some (it.mark, it.answer)) (Some (Standing, answer)) =
          sym (ap (option_map {U = Mark × Option (Route V)} (λ (c : Card V L). (c.mark, c.answer))) known.here) ∙ held in
          let (marks, answers) = some_pair_parts it.mark Standing it.answer answer parts in
          subst (λ a. Rechecked K n b labels card k (Ok a) b labels) answers (still_standing it known.unrefused known.here marks)
      go (Err why) h ok = cc

  pub recheck_done : {ask : Ask L} {r : Result (Option (Route V)) Refusal} {b' : Book V L} {labels' : List (Slot V)} → Ok tt ≡ sites_answer n b →
      is_ok (recheck_answer n b (length labels) card k) ≡ true → option_map {U = Mark × Ask L} (λ (c : Card V L). (c.mark, c.ask)) (at b.cards card) ≡ Some (Doubtful, ask) →
      AllFree K labels' → CardAnswer K n k ask Standing b card r b' → Rechecked K n b labels card k r b' labels'
  recheck_done {ask} {r} {b'} {labels'} e ok held empty found = go (recheck_answer n b (length labels) card k) refl ok
    where
      go : (c : Result (Card V L) Refusal) → c ≡ recheck_answer n b (length labels) card k → is_ok c ≡ true → Rechecked K n b labels card k r b' labels'
      go (Ok it) h ok =
          let known = rechecks n b card (length labels) k e it h in
          let parts : ◌≡◌ {A = Option (Mark × Ask L)} (Some (it.mark, it.ask)) (Some (Doubtful, ask)) =
          sym (ap (option_map {U = Mark × Ask L} (λ (c : Card V L). (c.mark, c.ask))) known.here) ∙ held in
          let (marks, asks) = some_pair_parts it.mark Doubtful it.ask ask parts in
          rechecked_so it r known.unrefused known.here marks empty (subst (λ a. CardAnswer K n k a Standing b card r b') (sym asks) found)
      go (Err why) h ok = cc

-- a book that is filed anew
refiled_is : {V L : Type 0} {b b' : Book V L} {card : ℕ} {what : Option (Card V L)} {legs : List ℕ} → Refiled b card what legs b' → b' ≡ with_card b card what legs
refiled_is {V} {L} {b} {b'} {card} {what} {legs} h =
    let of : ℕ → List (Option (Card V L)) → List ℕ → Book V L = λ (w : ℕ) (cs : List (Option (Card V L))) (rows : List ℕ). record { width = w; cards = cs; rows = rows } in
    ap (λ w. of w b'.cards b'.rows) h.width ∙ ap (λ cs. of b.width cs b'.rows) h.cards ∙ ap (λ rows. of b.width (set b.cards card what) rows) h.rows

-- the card that is there
there : {V L A : Type 0} (b : Book V L) (card : ℕ) → is_ok (card_answer b card) ≡ true → ((it : Card V L) → topmost (discard_causes b card) ≡ None → at b.cards card ≡ Some it → A) → A
there {V} {L} {A} b card ok then = go (card_answer b card) refl ok
  where
    go : (r : Result (Card V L) Refusal) → r ≡ card_answer b card → is_ok r ≡ true → A
    go (Ok it) e ok = let p = filled_passed (topmost (discard_causes b card)) CardEmpty (at b.cards card) it e in then it p.0 p.1
    go (Err why) e ok = cc

module _ {V L : Type 0} {b : Book V L} {card : ℕ} where
  pub discard_checks : {why : Refusal} → Err why ≡ card_answer b card → Discarded b card (Err why) b
  discard_checks {why} e = discard_refused why (filled_refused (topmost (discard_causes b card)) CardEmpty (at b.cards card) why (card_some b card) e)

  pub discard_done : {b' : Book V L} → is_ok (card_answer b card) ≡ true → Refiled b card None [] b' → Discarded b card (Ok tt) b'
  discard_done {b'} ok h = there b card ok (λ it free here. subst (Discarded b card (Ok tt)) (sym (refiled_is h)) (discarded free))

module _ {V L : Type 0} {b : Book V L} {card start : ℕ} {reply : List ℕ} where
  pub read_checks : {why : Refusal} → Err why ≡ card_answer b card → Shown b card start reply (Err why) reply
  read_checks {why} e =
      read_refused why (topmost_first (discard_causes b card) ((ltb (length reply) (start + legs_of (at b.cards card)), ReplyTooShort) ∷ []) why
      (filled_refused (topmost (discard_causes b card)) CardEmpty (at b.cards card) why (card_some b card) e))

  pub read_short : is_ok (card_answer b card) ≡ true → ltb (length reply) (start + legs_of (at b.cards card)) ≡ true → Shown b card start reply (Err ReplyTooShort) reply
  read_short ok short =
      there b card ok (λ it free here. read_refused ReplyTooShort
      (topmost_then (discard_causes b card) ((ltb (length reply) (start + legs_of (at b.cards card)), ReplyTooShort) ∷ []) free ∙ cond-true _ _ _ short))

  pub read_done : {mark : Mark} {answer : Option (Route V)} {reply' : List ℕ} → is_ok (card_answer b card) ≡ true →
      option_map {U = Mark × Option (Route V)} (λ (c : Card V L). (c.mark, c.answer)) (at b.cards card) ≡ Some (mark, answer) → ltb (length reply) (start + leg_count answer) ≡ false →
      reply' ≡ paste reply start (legs_at b card answer) (length (legs_at b card answer)) → Shown b card start reply (Ok (mark, answer)) reply'
  read_done {mark} {answer} {reply'} ok held room left = there b card ok go
    where
      go : (it : Card V L) → topmost (discard_causes b card) ≡ None → at b.cards card ≡ Some it → Shown b card start reply (Ok (mark, answer)) reply'
      go it free here =
          let known : ◌≡◌ {A = Option (Mark × Option (Route V))} (Some (it.mark, it.answer)) (Some (mark, answer)) = sym (ap (option_map {U = Mark × Option (Route V)} (λ (c : Card V L). (c.mark, c.answer))) here) ∙ held in
          let (marks, answers) = some_pair_parts it.mark mark it.answer answer known in
          let fits : ltb (length reply) (start + legs_of (at b.cards card)) ≡ false = ap (λ o. ltb (length reply) (start + legs_of o)) here ∙ ap (λ a. ltb (length reply) (start + leg_count a)) answers ∙ room in
          let at_it : Shown b card start reply (Ok (it.mark, it.answer)) (paste reply start (legs_at b card it.answer) (length (legs_at b card it.answer))) =
          shown it (topmost_then (discard_causes b card) ((ltb (length reply) (start + legs_of (at b.cards card)), ReplyTooShort) ∷ []) free ∙ cond-false _ _ _ fits) here in
          let at_mark : Shown b card start reply (Ok (mark, it.answer)) (paste reply start (legs_at b card it.answer) (length (legs_at b card it.answer))) =
          subst (λ m. Shown b card start reply (Ok (m, it.answer)) (paste reply start (legs_at b card it.answer) (length (legs_at b card it.answer)))) marks at_it in
          subst (Shown b card start reply (Ok (mark, answer))) (sym left)
          (subst (λ a. Shown b card start reply (Ok (mark, a)) (paste reply start (legs_at b card a) (length (legs_at b card a)))) answers at_mark)

-- the legs of a filled card have room in its row
pub legs_fit : {V L : Type 0} (K : Kind V L) {w : ℕ} {cards : List (Option (Card V L))} {rows : List ℕ} (card : ℕ) (it : Card V L) → SoundBook K w cards rows →
    Ok it ≡ card_answer (record { width = w; cards = cards; rows = rows }) card → leg_count it.answer ≤ w
legs_fit {V} {L} K {w} {cards} {rows} card it sound e =
    let b : Book V L = record { width = w; cards = cards; rows = rows } in
    let fit = sound.each card it (filled_passed (topmost (discard_causes b card)) CardEmpty (at cards card) it e).1 in
    omega (arith, fit.short)

-- how a quote ends, a discard, and a reading
pub ruleset quotes = (quote_sites, quote_checks, quote_done)

pub ruleset rechecks_end = (recheck_sites, recheck_checks, recheck_standing, recheck_done)

pub ruleset discards = (discard_checks, discard_done)

pub ruleset reads = (read_checks, read_short, read_done, length-take)
