-- Each call keeps what is true of a catalogue and its quote book.
use Rattle.std.proofs.Common.{◌≡◌, ℕ, ◌+◌, ◌*◌, ◌<◌, ◌≤◌, Bool, true, false, eqb, List, [], length, set, Some, None, Option, Result, sym, refl, ap, ◌∙◌, subst, ⊎_elim, arith, length-set, get_or-set_other, get_or-set_same}
use lib.Seq.{length-paste}
use Rattle.std.proofs.lemmas.Bool.{both_ways, cases_eq, or_parts, leb-false, not-false, eqb-true, eqb-false, cond-true, cond-false, eq-eqb, ne_eqb}
use Rattle.measure.specs.Kind.{Kind, made_admitted}
use Rattle.measure.specs.Laws.{Laws}
use Rattle.report.specs.declared.Mark.{Mark}
use Rattle.report.specs.declared.Mark.TheVariants.{Standing, Doubtful}
use Rattle.report.specs.declared.Refusal.{Refusal}
use Rattle.catalogue.specs.declared.Link.{Link}
use Rattle.catalogue.specs.Places.{at}
use Rattle.catalogue.specs.Calls.{revalued}
use Rattle.catalogue.specs.Routes.{Sound, SoundLink}
use Rattle.catalogue.specs.declared.routes.Ask.{Ask}
use Rattle.catalogue.specs.declared.routes.Route.{Route}
use Rattle.catalogue.specs.Asks.{row_with}
use Rattle.labels.specs.declared.Slot.{Slot}
use Rattle.cards.specs.declared.Card.{Card}
use Rattle.cards.specs.declared.Call.{Call}
use Rattle.cards.specs.declared.Call.TheVariants.{Offer, Change, Withdraw, Quote, Recheck, Discard, Read}
use Rattle.cards.specs.Books.{Network, Book, with_links, with_cards, with_card, row_at, legs_in, legs_at}
use Rattle.cards.specs.Doubts.{Rule, next, event_of, is_standing, lapsed, strikes, Doubted, struck_by_offer, struck_by_change, struck_by_withdrawal}
use Rattle.cards.specs.Calls.{offer_causes, change_causes, withdraw_causes, quote_causes, recheck_causes, discard_causes, standing_card}
use Rattle.cards.specs.Calls.{Offered, offer_refused, offered, Changed, change_refused, changed, Withdrawn, withdraw_refused, withdrawn}
use Rattle.cards.specs.Calls.{Quoted, quote_refused, quote_full, quoted, Rechecked, recheck_refused, still_standing, recheck_full, rechecked, Discarded, discard_refused, discarded, Shown, read_refused, shown}
use Rattle.cards.specs.Runs.{Reply, counted, answered, emptied, showing, unless_refused, revalue, relinked, reasked}
use Rattle.report.proofs.Clearing.{some_same, none_some, none_of, cleared}
use Rattle.cards.proofs.Rows.{row_length, row_within, other_rows, own_row}
use Rattle.catalogue.proofs.Keeping.{sound_set}
use Rattle.cards.proofs.Standing.{Stands, found_stands, found_short, offer_stands, withdraw_stands, change_stands}

-- a card that was asked this, with its row: where it stands, it says what is so
pub record Right {V L : Type 0} (K : Kind V L) (n : Network V) (ask : Option (Ask L)) (card : Card V L) (row : List ℕ) : Type 0 where
  pub asked : ask ≡ Some card.ask
  pub admitted : K.limit_admitted card.ask.limit ≡ true
  pub begins : card.ask.source < n.sites
  pub stands : card.mark ≡ Standing → Stands K n.links card.ask card.answer (legs_in row card.answer)

-- an empty card place was asked nothing
abbrev pub Filed : {V L : Type 0} → Kind V L → Network V → Option (Ask L) → Option (Card V L) → List ℕ → Type 0
Filed K n ask None row = ask ≡ None
Filed K n ask (Some card) row = Right K n ask card row

-- the card place c of a book
abbrev pub Place : {V L : Type 0} → Kind V L → (ℕ → Option (Ask L)) → Network V → Book V L → ℕ → Type 0
Place K ask n b c = Filed K n (ask c) (at b.cards c) (row_at b.width b.rows c)

-- where the catalogue should hold these links, and each card have been asked this
pub record Kept {V L : Type 0} (K : Kind V L) (catalogue : List (Option (Link V))) (ask : ℕ → Option (Ask L)) (n : Network V) (b : Book V L) : Type 0 where
  pub links : n.links ≡ catalogue
  pub sound : Sound K n.sites n.links
  pub rows : length b.rows ≡ length b.cards * b.width
  pub cards : (c : ℕ) → Place K ask n b c

-- the same after a call with this reply
abbrev pub After : {V L : Type 0} → Kind V L → List (Option (Link V)) → (ℕ → Option (Ask L)) → Call V L → Reply V → Network V → Book V L → Type 0
After K catalogue ask call reply n b =
    Kept K (unless_refused reply (relinked call catalogue) catalogue) (λ c. unless_refused reply (reasked c call (ask c)) (ask c)) n b

-- a card that stands after news stood before, and was not struck
still : (mark : Mark) (struck : Bool) → next mark (event_of struck) ≡ Standing → (struck ≡ false) × (mark ≡ Standing)
still Standing true e = absurd (both_ways false refl (ap is_standing e))
still Standing false e = (refl, refl)
still Doubtful true e = absurd (both_ways false refl (ap is_standing e))
still Doubtful false e = absurd (both_ways false refl (ap is_standing e))

module _ {V L : Type 0} {K : Kind V L} {catalogue : List (Option (Link V))} {ask : ℕ → Option (Ask L)} {n : Network V} {b : Book V L} (kept : Kept K catalogue ask n b) where
  pub right : (c : ℕ) (card : Card V L) → at b.cards c ≡ Some card → Right K n (ask c) card (row_at b.width b.rows c)
  right c card here = subst (λ o. Filed K n (ask c) o (row_at b.width b.rows c)) here (kept.cards c)

  -- news of a link
  renewed : (after catalogue' : List (Option (Link V))) (rule : Rule V L) (cards : List (Option (Card V L))) (count : ℕ) →
      after ≡ catalogue' → Sound K n.sites after → Doubted rule b cards count →
      ((card : Card V L) (legs : List ℕ) → K.limit_admitted card.ask.limit ≡ true → rule legs card ≡ false →
      Stands K n.links card.ask card.answer legs → Stands K after card.ask card.answer legs) →
      Kept K catalogue' ask (with_links n after) (with_cards b cards)
  renewed after catalogue' rule cards count eq sound' d goes_on = record {
    links = eq;
    sound = sound';
    rows = kept.rows ∙ ap (λ m. m * b.width) (sym d.places);
    cards = λ c. subst (λ o. Filed K (with_links n after) (ask c) o (row_at b.width b.rows c)) (sym (d.each c)) (go c (at b.cards c) (kept.cards c));
  }
    where
      go : (c : ℕ) (o : Option (Card V L)) → Filed K n (ask c) o (row_at b.width b.rows c) →
          Filed K (with_links n after) (ask c) (lapsed (strikes rule b c) o) (row_at b.width b.rows c)
      go c None f = f
      go c (Some card) f = record {
        asked = f.asked;
        admitted = f.admitted;
        begins = f.begins;
        stands = λ e. let was = still card.mark (strikes rule b c card) e in goes_on card (legs_at b c card.answer) f.admitted was.0 (f.stands was.1);
      }

  -- a card is filed, or discarded
  refiled : (ask' : ℕ → Option (Ask L)) (c : ℕ) (o : Option (Card V L)) (legs : List ℕ) → c < length b.cards → length legs ≤ b.width →
      ((d : ℕ) → (d ≡ c → ⊥) → ask' d ≡ ask d) → Filed K n (ask' c) o (row_with legs b.width) → Kept K catalogue ask' n (with_card b c o legs)
  refiled ask' c o legs lt fits others own = record {
    links = kept.links;
    sound = kept.sound;
    rows = length-paste b.rows (c * b.width) (row_with legs b.width) b.width inside (omega (arith, whole)) ∙ kept.rows ∙ ap (λ m. m * b.width) (sym (length-set b.cards c o));
    cards = λ d. ⊎_elim (λ same. subst (Place K ask' n (with_card b c o legs)) (sym same) here) (λ ne. there d ne) (cases_eq d c);
  }
    where
      whole : length (row_with legs b.width) ≡ b.width
      whole = row_length legs b.width fits

      inside : c * b.width + b.width ≤ length b.rows
      inside = row_within c b.width (length b.cards) (length b.rows) lt kept.rows

      here : Place K ask' n (with_card b c o legs) c
      here =
          subst (λ x. Filed K n (ask' c) x (row_at b.width (with_card b c o legs).rows c)) (sym (get_or-set_same b.cards c o None lt))
          (subst (Filed K n (ask' c) o) (sym (own_row b.width c b.rows (row_with legs b.width) inside whole)) own)

      there : (d : ℕ) → (d ≡ c → ⊥) → Place K ask' n (with_card b c o legs) d
      there d ne =
          subst (λ x. Filed K n (ask' d) x (row_at b.width (with_card b c o legs).rows d)) (sym (get_or-set_other b.cards c d o None ne))
          (subst (Filed K n (ask' d) (at b.cards d)) (sym (other_rows b.width c d b.rows (row_with legs b.width) inside whole ne))
          (subst (λ a. Filed K n a (at b.cards d) (row_at b.width b.rows d)) (sym (others d ne)) (kept.cards d)))

-- what each call leaves is right
module _ {V L : Type 0} {K : Kind V L} (laws : Laws K) {catalogue : List (Option (Link V))} {ask : ℕ → Option (Ask L)} {n : Network V} {b : Book V L} (kept : Kept K catalogue ask n b) where
  pub offer_keeps : {place : ℕ} {link : Link V} {r : Result ℕ Refusal} {n' : Network V} {b' : Book V L} →
      Offered K n b place link r n' b' → After K catalogue ask (Offer place link) (counted r) n' b'
  offer_keeps (offer_refused why e) = kept
  offer_keeps {place} {link} (offered count cards e d) =
      let no = cleared (offer_causes K n b place link) e in
      let lt = leb-false _ _ no.1.0 in
      let ends = or_parts _ _ no.1.1.0 in
      let fit : SoundLink K n.sites link.start link.end link.value = record {
        start_in = leb-false _ _ ends.0;
        end_in = leb-false _ _ ends.1;
        ends_apart = eqb-false _ _ no.1.1.1.0;
        admitted = not-false _ no.1.1.1.1.0;
      } in
      let sound' = sound_set n.links place (Some link) n.sites lt kept.sound
      (λ s t c is. subst (λ (z : Link V). SoundLink K n.sites z.start z.end z.value) (some_same is) fit) in
      renewed kept _ _ (struck_by_offer K link.value) cards count (ap (λ ls. set ls place (Some link)) kept.links) sound' d
      (λ card legs adm calm. offer_stands laws n.sites n.links place lt kept.sound card.ask adm card.answer legs link sound' (none_of _ no.1.1.1.1.1.0) calm)

  pub change_keeps : {place : ℕ} {value : V} {r : Result ℕ Refusal} {n' : Network V} {b' : Book V L} →
      Changed K n b place value r n' b' → After K catalogue ask (Change place value) (counted r) n' b'
  change_keeps (change_refused why e) = kept
  change_keeps {place} {value} (changed old count cards e here d) =
      let no = cleared (change_causes K n b place value) e in
      let lt = leb-false _ _ no.1.0 in
      let adm = not-false _ no.1.1.0 in
      let was = kept.sound.each place old.start old.end old.value here in
      let fit : SoundLink K n.sites old.start old.end value = record { start_in = was.start_in; end_in = was.end_in; ends_apart = was.ends_apart; admitted = adm } in
      let sound' = sound_set n.links place (Some (revalued old value)) n.sites lt kept.sound
      (λ s t c is. subst (λ (z : Link V). SoundLink K n.sites z.start z.end z.value) (some_same is) fit) in
      renewed kept _ _ (struck_by_change K place old.value value) cards count
      (ap (λ o. set n.links place (revalue value o)) (sym here) ∙ ap (λ ls. set ls place (revalue value (at ls place))) kept.links) sound' d
      (λ card legs adm' calm. change_stands laws n.sites n.links place lt kept.sound card.ask adm' card.answer legs old value sound' (made_admitted adm) here calm)

  pub withdraw_keeps : {place : ℕ} {r : Result ℕ Refusal} {n' : Network V} {b' : Book V L} →
      Withdrawn K n b place r n' b' → After K catalogue ask (Withdraw place) (counted r) n' b'
  withdraw_keeps (withdraw_refused why e) = kept
  withdraw_keeps {place} (withdrawn count cards e d) =
      let no = cleared (withdraw_causes n b place) e in
      let lt = leb-false _ _ no.1.0 in
      let sound' = sound_set n.links place None n.sites lt kept.sound (λ s t c is. absurd (none_some is)) in
      renewed kept _ _ (struck_by_withdrawal K place) cards count (ap (λ ls. set ls place None) kept.links) sound' d
      (λ card legs adm calm. withdraw_stands laws n.sites n.links place lt kept.sound card.ask adm card.answer legs sound' calm)

  pub quote_keeps : {labels labels' : List (Slot V)} {card : ℕ} {want : Ask L} {k : ℕ} {r : Result (Option (Route V)) Refusal} {b' : Book V L} →
      Quoted K n b labels card want k r b' labels' → After K catalogue ask (Quote card want k) (answered r) n b'
  quote_keeps (quote_refused why e) = kept
  quote_keeps (quote_full site labels' e crowded free) = kept
  quote_keeps {labels} {card = card} {want = want} {k = k} (quoted answer legs labels' e found free) =
      let no = cleared (quote_causes K n b (length labels) card want k) e in
      let inside = leb-false _ _ (or_parts _ _ no.1.1.0).0 in
      refiled kept (λ c. reasked {V = V} c (Quote card want k) (ask c)) card (Some (standing_card want answer)) legs (leb-false _ _ no.1.0)
      (found_short K n want b.width kept.sound inside (eqb-true _ _ (not-false _ no.0)) answer legs found)
      (λ d ne. cond-false (eqb d card) _ _ (ne_eqb d card ne))
      (record {
        asked = cond-true (eqb card card) _ _ (eq-eqb card card refl);
        admitted = not-false _ no.1.1.1.0;
        begins = inside;
        stands = λ e. found_stands K n want b.width kept.sound answer legs found;
      })

  pub recheck_keeps : {labels labels' : List (Slot V)} {card k : ℕ} {r : Result (Option (Route V)) Refusal} {b' : Book V L} →
      Rechecked K n b labels card k r b' labels' → After K catalogue ask (Recheck card k) (answered r) n b'
  recheck_keeps (recheck_refused why e) = kept
  recheck_keeps (still_standing it e here stands) = kept
  recheck_keeps (recheck_full it site labels' e here doubtful crowded free) = kept
  recheck_keeps {labels} {card = card} {k = k} (rechecked it answer legs labels' e here doubtful found free) =
      let no = cleared (recheck_causes n b (length labels) card k) e in
      let f = right kept card it here in
      refiled kept ask card (Some (standing_card it.ask answer)) legs (leb-false _ _ no.1.0)
      (found_short K n it.ask b.width kept.sound f.begins (eqb-true _ _ (not-false _ no.0)) answer legs found)
      (λ d ne. refl)
      (record {
        asked = f.asked;
        admitted = f.admitted;
        begins = f.begins;
        stands = λ e. found_stands K n it.ask b.width kept.sound answer legs found;
      })

  pub discard_keeps : {card : ℕ} {r : Result (Unit {0}) Refusal} {b' : Book V L} → Discarded b card r b' → After K catalogue ask (Discard card) (emptied r) n b'
  discard_keeps (discard_refused why e) = kept
  discard_keeps {card} (discarded e) =
      let no = cleared (discard_causes b card) e in
      refiled kept (λ c. reasked {V = V} c (Discard card) (ask c)) card None [] (leb-false _ _ no.0) (omega arith)
      (λ d ne. cond-false (eqb d card) _ _ (ne_eqb d card ne))
      (cond-true (eqb card card) _ _ (eq-eqb card card refl))

  pub read_keeps : {card start : ℕ} {reply reply' : List ℕ} {r : Result (Mark × Option (Route V)) Refusal} → Shown b card start reply r reply' → After K catalogue ask (Read card start) (showing r) n b
  read_keeps (read_refused why e) = kept
  read_keeps (shown it e here) = kept
