-- The law over whole runs.
use Rattle.std.proofs.Common.{◌≡◌, ℕ, zero, suc, ◌+◌, ◌*◌, ◌<◌, ◌≤◌, Bool, true, false, not, eqb, List, [], ◌∷◌, ◌++◌, length, take, drop, replicate, is_some, Some, None, Ok, Err, Option, Result, sym, refl, ap, ◌∙◌, subst, ⊎_elim, arith}
use lib.ListN.{length-replicate}
use lib.Seq.{paste}
use Rattle.std.proofs.lemmas.List.{get_or_past}
use Rattle.std.proofs.lemmas.Bool.{both_ways, or_parts, ltb-false, not-false, eqb-true, cond-false, cases_lt, lt-leb, le-ltb}
use Rattle.measure.specs.Kind.{Kind}
use Rattle.measure.specs.Laws.{Laws}
use Rattle.report.specs.declared.Mark.{Mark}
use Rattle.report.specs.declared.Mark.TheVariants.{Standing}
use Rattle.report.specs.declared.Refusal.{Refusal}
use Rattle.report.specs.declared.Refusal.TheVariants.{LabelsFull}
use Rattle.report.specs.Refusals.{topmost, unless, number}
use Rattle.catalogue.specs.declared.Link.{Link}
use Rattle.catalogue.specs.Places.{at}
use Rattle.catalogue.specs.Walks.{Holds}
use Rattle.catalogue.specs.Routes.{Crowded}
use Rattle.catalogue.specs.declared.routes.Ask.{Ask}
use Rattle.catalogue.specs.declared.routes.Route.{Route}
use Rattle.cards.specs.declared.Card.{Card}
use Rattle.cards.specs.declared.Call.{Call}
use Rattle.cards.specs.Books.{Network, Book, opened_network, row_at, leg_count, legs_in, legs_at}
use Rattle.cards.specs.Calls.{offer_causes, change_causes, withdraw_causes, quote_causes, recheck_causes, discard_causes, legs_of, read_causes}
use Rattle.cards.specs.Calls.{offer_refused, offered, Changed, change_refused, changed, withdraw_refused, withdrawn}
use Rattle.cards.specs.Calls.{quote_refused, quote_full, quoted, recheck_refused, still_standing, recheck_full, rechecked, discard_refused, discarded, Shown, read_refused, shown}
use Rattle.cards.specs.Runs.{Memory, Lent, Outcome, by_offer, by_change, by_withdrawal, by_quote, by_recheck, by_discard, by_reading, Reply, counted, showing, Event, event, present, asked, Sought, sought_by, sought, Happened, opened, and_then, Reads, Promised, Continues}
use Rattle.report.proofs.Clearing.{none_some, Each, cleared, reported}
use Rattle.cards.proofs.Rows.{pasted}
use Rattle.cards.proofs.Standing.{Stands, best_of}
use Rattle.cards.proofs.Keeping.{Filed, Kept, After, right, offer_keeps, change_keeps, withdraw_keeps, quote_keeps, recheck_keeps, discard_keeps, read_keeps}

-- Every run keeps what is true.
module _ {V L : Type 0} {K : Kind V L} (laws : Laws K) where
  step : {catalogue : List (Option (Link V))} {ask : ℕ → Option (Ask L)} {m m' : Memory V L} {l l' : Lent V} {call : Call V L} {reply : Reply V} →
      Kept K catalogue ask m.network m.book → Outcome K m l call reply m' l' → After K catalogue ask call reply m'.network m'.book
  step kept (by_offer o) = offer_keeps laws kept o
  step kept (by_change o) = change_keeps laws kept o
  step kept (by_withdrawal o) = withdraw_keeps laws kept o
  step kept (by_quote o) = quote_keeps laws kept o
  step kept (by_recheck o) = recheck_keeps laws kept o
  step kept (by_discard o) = discard_keeps laws kept o
  step kept (by_reading o) = read_keeps laws kept o

none_at : {A : Type 0} (n c : ℕ) → at {A = A} (replicate n None) c ≡ None
none_at zero c = refl
none_at (suc n) zero = refl
none_at (suc n) (suc c) = none_at n c

opens : (b : Bool) (why : Refusal) → ◌≡◌ {A = Result (Unit {0}) Refusal} (unless (topmost ((b, why) ∷ [])) (Ok tt)) (Ok tt) → b ≡ false
opens true why e = let z : ◌≡◌ {A = ℕ} 0 1 = cc in absurd (omega arith)
opens false why e = refl

module _ {V L : Type 0} {K : Kind V L} (laws : Laws K) where
  pub kept : {places : ℕ} {history : List (Event V L)} {m : Memory V L} → Happened K places history m → Kept K (present places history) (λ c. asked c history) m.network m.book
  kept {places} (opened sites cards rows e e') =
      let size = or_parts _ _ (opens _ _ e) in
      let few = or_parts _ _ (or_parts _ _ size.0).0 in
      let book = or_parts _ _ (opens _ _ e') in
      record {
        links = refl;
        sound = record {
          sites_few = ltb-false _ _ few.1;
          places_some = λ some. rw length-replicate (ltb-false _ _ (or_parts _ _ size.0).1);
          places_few = λ some. rw length-replicate (ltb-false _ _ size.1);
          each = λ p s t c has. absurd (none_some (sym (none_at _ p) ∙ has));
        };
        rows = eqb-true _ _ (not-false _ book.1) ∙ ap (λ n. n * sites) (sym (length-replicate cards None));
        cards = λ c. subst (λ o. Filed K (opened_network sites places) None o (row_at sites rows c)) (sym (none_at cards c)) refl;
      }
  kept (and_then before outcome) = step laws (kept before) outcome

-- Where a site is called full, it is so: no cause in the tables says it, so only a search does.
abbrev Plain : List (Bool × Refusal) → Type 0
Plain = Each (λ c. eqb (number c.1) 16 ≡ false)

module _ {V : Type 0} {site : ℕ} where
  not_full : (cs : List (Bool × Refusal)) {why : Refusal} → Plain cs → topmost cs ≡ Some why → ◌≡◌ {A = Reply V} (Err why) (Err (LabelsFull site)) → ⊥
  not_full cs {why} plain top e =
      let same : why ≡ LabelsFull site = cc in
      both_ways _ (reported (λ r. eqb (number r) 16 ≡ false) cs why plain top) (ap (λ r. eqb (number r) 16) same)

read_plain : {V L : Type 0} {b : Book V L} {card start site : ℕ} {reply reply' : List ℕ} {r : Result (Mark × Option (Route V)) Refusal} →
    Shown b card start reply r reply' → showing {V = V} r ≡ Err (LabelsFull site) → ⊥
read_plain {b = b} {card = card} {start = start} {reply = reply} (read_refused why top) e = not_full (read_causes b (length reply) card start) (refl, (refl, (refl, tt))) top e
read_plain (shown it top here) e = cc

-- what was sought, and that the site has too many walks to hold
abbrev Over : {V L : Type 0} → Kind V L → List (Option (Link V)) → Option (Sought L) → ℕ → Type 0
Over {L = L} K links sought site = (goal : Sought L) × (sought ≡ Some goal) × Crowded K goal.ask.limit (Holds links) goal.k goal.ask.source site

module _ {V L : Type 0} {K : Kind V L} where
  change_plain : {n : Network V} {b : Book V L} {place : ℕ} {value : V} {r : Result ℕ Refusal} {n' : Network V} {b' : Book V L} {site : ℕ} →
      Changed K n b place value r n' b' → counted {V = V} r ≡ Err (LabelsFull site) → ⊥
  change_plain {n} {b = b} {place = place} {value = value} (change_refused why top) e =
      not_full (change_causes K n b place value) (refl, (refl, (refl, (refl, tt)))) top e
  change_plain (changed old count cards top here d) e = cc

  full_at : (before : List (Event V L)) {catalogue : List (Option (Link V))} {m m' : Memory V L} {l l' : Lent V} {call : Call V L} {reply : Reply V} (site : ℕ) →
      Kept K catalogue (λ c. asked c before) m.network m.book → Outcome K m l call reply m' l' → reply ≡ Err (LabelsFull site) →
      Over K m.network.links (sought before call) site
  full_at before {m = m} site now (by_offer {place = place} {link = link} (offer_refused why top)) e =
      absurd (not_full (offer_causes K m.network m.book place link) (refl, (refl, (refl, (refl, (refl, (refl, tt)))))) top e)
  full_at before site now (by_offer (offered count cards top d)) e = cc
  full_at before site now (by_change o) e = absurd (change_plain o e)
  full_at before {m = m} site now (by_withdrawal {place = place} (withdraw_refused why top)) e =
      absurd (not_full (withdraw_causes m.network m.book place) (refl, (refl, (refl, tt))) top e)
  full_at before site now (by_withdrawal (withdrawn count cards top d)) e = cc
  full_at before {m = m} {l = l} site now (by_quote {card = card} {k = k} {ask = ask} (quote_refused why top)) e =
      absurd (not_full (quote_causes K m.network m.book (length l.labels) card ask k) (refl, (refl, (refl, (refl, (refl, (refl, tt)))))) top e)
  full_at before {m = m} site now (by_quote {k = k} {ask = ask} (quote_full there labels' top crowded free)) e =
      let same : there ≡ site = cc in
      (record { ask = ask; k = k }, refl, subst (Crowded K ask.limit (Holds m.network.links) k ask.source) same crowded)
  full_at before site now (by_quote (quoted answer legs labels' top found free)) e = cc
  full_at before {m = m} {l = l} site now (by_recheck {card = card} {k = k} (recheck_refused why top)) e =
      absurd (not_full (recheck_causes m.network m.book (length l.labels) card k) (refl, (refl, (refl, (refl, tt)))) top e)
  full_at before site now (by_recheck (still_standing it top here stands)) e = cc
  full_at before {m = m} site now (by_recheck {card = card} {k = k} (recheck_full it there labels' top here doubtful crowded free)) e =
      let same : there ≡ site = cc in
      (record { ask = it.ask; k = k }, ap (sought_by k) (right now card it here).asked, subst (Crowded K it.ask.limit (Holds m.network.links) k it.ask.source) same crowded)
  full_at before site now (by_recheck (rechecked it answer legs labels' top here doubtful found free)) e = cc
  full_at before {m = m} site now (by_discard {card = card} (discard_refused why top)) e =
      absurd (not_full (discard_causes m.book card) (refl, (refl, tt)) top e)
  full_at before site now (by_discard (discarded top)) e = cc
  full_at before site now (by_reading o) e = absurd (read_plain o e)

  -- an earlier part of a history happened too
  earlier : {places : ℕ} (later before : List (Event V L)) {m : Memory V L} → Happened K places (later ++ before) m → (then : Memory V L) × Happened K places before then
  earlier [] before {m = m} h = (m, h)
  earlier (e ∷ later) before (and_then h outcome) = earlier later before h

  latest : {places : ℕ} (e : Event V L) (before : List (Event V L)) {m : Memory V L} → Happened K places (e ∷ before) m →
      (then : Memory V L) × (l : Lent V) × (l' : Lent V) × Happened K places before then × Outcome K then l e.call e.reply m l'
  latest e before (and_then {before = then} {l = l} {l' = l'} h outcome) = (then, l, l', h, outcome)

-- What a reading that succeeds tells: the card, and the legs that it leaves in the reply.
abbrev Told : {V L : Type 0} → Book V L → ℕ → ℕ → List ℕ → List ℕ → Result (Mark × Option (Route V)) Refusal → Type 0
Told b card start reply reply' (Err why) = Unit {0}
Told {V} {L} b card start reply reply' (Ok held) =
    (it : Card V L) × (at b.cards card ≡ Some it) × (it.mark ≡ held.0) × (it.answer ≡ held.1) × (start + leg_count it.answer ≤ length reply)
    × (reply' ≡ paste reply start (legs_at b card it.answer) (length (legs_at b card it.answer)))

told : {V L : Type 0} {b : Book V L} {card start : ℕ} {reply reply' : List ℕ} {r : Result (Mark × Option (Route V)) Refusal} → Shown b card start reply r reply' → Told b card start reply reply' r
told (read_refused why top) = tt
told {b = b} {card = card} {start = start} {reply = reply} (shown it top here) =
    (it, here, refl, refl, ltb-false _ _ (rw here at (cleared (read_causes b (length reply) card start) top).1.1.0), refl)

-- a standing card has as many legs in its row as its answer says
own_count : {V L : Type 0} {K : Kind V L} {links : List (Option (Link V))} {ask : Ask L} (row : List ℕ) (answer : Option (Route V)) → Stands K links ask answer (legs_in row answer) → leg_count answer ≡ length (legs_in row answer)
own_count row None st = refl
own_count row (Some route) st = st.own.count

module _ {V L : Type 0} {K : Kind V L} {catalogue : List (Option (Link V))} {ask : ℕ → Option (Ask L)} (m : Memory V L) (now : Kept K catalogue ask m.network m.book) where
  -- what is read of a standing card is so
  standing : (card : ℕ) (answer : Option (Route V)) (legs : List ℕ) → Reads m card Standing answer legs → (it : Ask L) × (ask card ≡ Some it) × Stands K catalogue it answer legs
  standing card answer legs (start, reply, reply', reading, e) =
      let (it, here, stands, same, room, left) = told reading in
      let f = right now card it here in
      let st = f.stands stands in
      let own = legs_at m.book card it.answer in
      let count = own_count (row_at m.book.width m.book.rows card) it.answer st in
      let back : legs ≡ own =
      e ∙ ap (λ a. take (leg_count a) (drop start reply')) (sym same) ∙ ap (λ xs. take (leg_count it.answer) (drop start xs)) left
      ∙ ap (λ k. take k (drop start (paste reply start own (length own)))) count ∙ pasted (length own) start reply own (omega arith) refl in (
        it.ask,
        f.asked,
        subst (λ links. Stands K links it.ask answer legs) now.links
            (subst (λ a. Stands K m.network.links it.ask a legs) same (subst (Stands K m.network.links it.ask it.answer) (sym back) st)),
      )

  -- a card that was asked something can be read
  readable_at : (card : ℕ) (it : Ask L) → ask card ≡ Some it → (mark : Mark) × (answer : Option (Route V)) × (legs : List ℕ) × Reads m card mark answer legs
  readable_at card it was = go (at m.book.cards card) refl (now.cards card)
    where
      go : (o : Option (Card V L)) → at m.book.cards card ≡ o → Filed K m.network (ask card) o (row_at m.book.width m.book.rows card) →
          (mark : Mark) × (answer : Option (Route V)) × (legs : List ℕ) × Reads m card mark answer legs
      go None here f = absurd (none_some (sym f ∙ was))
      go (Some c) here f =
          let reply = replicate (leg_count c.answer) 0 in
          let inside : card < length m.book.cards =
          ⊎_elim (λ lt. lt) (λ past. absurd (none_some (sym (get_or_past m.book.cards card None past) ∙ here))) (cases_lt card (length m.book.cards)) in
          let fit : 0 + legs_of (at m.book.cards card) ≤ length reply = rw (here, length-replicate) (omega arith) in
          let free : topmost (read_causes m.book (length reply) card 0) ≡ None =
          cond-false _ _ _ (lt-leb _ _ inside) ∙ cond-false _ _ _ (ap (λ o. not (is_some o)) here) ∙ cond-false _ _ _ (le-ltb _ _ fit) in
          (c.mark, c.answer, _, (0, reply, _, shown c free here, refl))

-- After every history, what a standing card says is so, a site was full wherever that was answered, and every filled card can be read.
pub promise : {V L : Type 0} {K : Kind V L} (laws : Laws K) (places : ℕ) (history : List (Event V L)) (m : Memory V L) → Happened K places history m → Promised K places history m
promise {K = K} laws places history m happened = record {
  route = λ card route legs reads. let s = standing m now card (Some route) legs reads in (s.0, s.1, best_of (present places history) s.0 route legs s.2);
  none = λ card legs reads. let s = standing m now card None legs reads in (s.0, s.1, s.2.beaten);
  full = λ later before call site e.
      let (after, h) = earlier later (event call (Err (LabelsFull site)) ∷ before) (subst (λ x. Happened K places x m) e happened) in
      let (then, l, l', first, outcome) = latest (event call (Err (LabelsFull site))) before h in
      let past = kept laws first in
      subst (λ links. Over K links (sought before call) site) past.links (full_at before site past outcome refl);
  readable = readable_at m now;
}
  where
    now : Kept K (present places history) (λ c. asked c history) m.network m.book
    now = kept laws happened

-- Every outcome of a call continues every run.
pub continues : {V L : Type 0} {K : Kind V L} (laws : Laws K) {m m' : Memory V L} {l l' : Lent V} {call : Call V L} {reply : Reply V} → Outcome K m l call reply m' l' → Continues K m call reply m'
continues laws {m' = m'} {call = call} {reply = reply} outcome places history happened =
    let on = and_then happened outcome in (on, promise laws places (event call reply ∷ history) m' on)
