-- Each call leaves a sound catalogue sound.
use Rattle.std.proofs.Common.{◌≡◌, ℕ, ◌+◌, ◌<◌, ◌≤◌, arith, Bool, true, false, cond, ◌⊎◌, List, [], ◌∷◌, length, set, replicate, zero, suc, is_some, Some, None, Ok, Err, Option, Result, sym, refl, ap, ◌∙◌, subst, inl, inr, ⊎_elim, length-set, get_or-set_other, get_or-set_same}
use Rattle.std.proofs.lemmas.Bool.{both_ways, cases_eq, cases_lt, or_parts, leb-false, not-false, eqb-false}
use Rattle.measure.specs.Kind.{Kind}
use Rattle.report.specs.declared.Refusal.{Refusal}
use Rattle.report.specs.declared.Refusal.TheVariants.{LinkEmpty}
use Rattle.report.specs.Refusals.{topmost, unless, filled_or}
use Rattle.report.proofs.Clearing.{some_same, none_some, cleared}
use Rattle.catalogue.specs.declared.Link.{Link}
use Rattle.catalogue.specs.Places.{at, EmptyFrom}
use Rattle.catalogue.specs.Walks.{Holds}
use Rattle.catalogue.specs.Calls.{store_causes, stored, replace_causes, replaced, revalued, remove_causes, removed}
use Rattle.catalogue.specs.Routes.{Sound, SoundLink}

-- what is so where a call is refused, and where it is carried out, is so
either : {A B : Type 0} (P : B → Type 0) (f : A → B) (b : B) (o : Option Refusal) (r : Result A Refusal) → P b → (o ≡ None → (a : A) → r ≡ Ok a → P (f a)) → P (elim (unless o r) [ Ok a ↦ f a | Err _ ↦ b ])
either P f b (Some why) r kept done = kept
either P f b None (Ok a) kept done = done refl a refl
either P f b None (Err why) kept done = kept

filled_some : {A : Type 0} (why : Refusal) (o : Option A) (a : A) → filled_or why o ≡ Ok a → o ≡ Some a
filled_some why (Some x) a e = cc
filled_some why None a e = absurd (let z : Err why ≡ Ok a = e in cc)

module _ {V : Type 0} (links : List (Option (Link V))) (place : ℕ) (y : Option (Link V)) where
  -- a link that stands somewhere after a write stood there before, or is what was written
  pub holds_set : place < length links → (p s t : ℕ) (c : V) → Holds (set links place y) p s t c →
      Holds links p s t c ⊎ ((p ≡ place) × (y ≡ Some (record { start = s; end = t; value = c })))
  holds_set lt p s t c has =
      ⊎_elim
      (λ e. inr (e, sym (get_or-set_same links place y None lt) ∙ subst (λ x. Holds (set links place y) x s t c) e has))
      (λ ne. inl (sym (get_or-set_other links place p y None ne) ∙ has))
      (cases_eq p place)

  -- a sound catalogue is so after a link that may stand in it is written
  pub sound_set : {L : Type 0} {K : Kind V L} (sites : ℕ) → place < length links → Sound K sites links →
      ((s t : ℕ) (c : V) → y ≡ Some (record { start = s; end = t; value = c }) → SoundLink K sites s t c) → Sound K sites (set links place y)
  sound_set sites lt sound new = record {
    sites_few = sound.sites_few;
    places_some = λ some. rw length-set (sound.places_some some);
    places_few = λ some. rw length-set (sound.places_few some);
    each = λ p s t c has. ⊎_elim (sound.each p s t c) (λ h. new s t c h.1) (holds_set lt p s t c has);
  }

module _ {V L : Type 0} (K : Kind V L) (sites : ℕ) (links : List (Option (Link V))) (place : ℕ) (sound : Sound K sites links) where
  pub sound_stored : (link : Link V) → Sound K sites (stored K sites links place link)
  sound_stored link =
      either (Sound K sites) (λ (_ : Unit {0}). set links place (Some link)) links (topmost (store_causes K sites links place link)) (Ok tt) sound
      (λ e a is.
      let no = cleared (store_causes K sites links place link) e in
      let lt = leb-false _ _ no.0 in
      let ends = or_parts _ _ no.1.0 in
      let fit : SoundLink K sites link.start link.end link.value = record {
        start_in = leb-false _ _ ends.0;
        end_in = leb-false _ _ ends.1;
        ends_apart = eqb-false _ _ no.1.1.0;
        admitted = not-false _ no.1.1.1.0;
      } in
      sound_set links place (Some link) sites lt sound (λ s t c is. subst (λ (z : Link V). SoundLink K sites z.start z.end z.value) (some_same is) fit))

  pub sound_replaced : (value : V) → Sound K sites (replaced K links place value)
  sound_replaced value =
      either (Sound K sites) (λ (old : Link V). set links place (Some (revalued old value))) links (topmost (replace_causes K links place value)) (filled_or LinkEmpty (at links place)) sound
      (λ e old is.
      let no = cleared (replace_causes K links place value) e in
      let lt = leb-false _ _ no.0 in
      let adm = not-false _ no.1.0 in
      let was = sound.each place old.start old.end old.value (filled_some LinkEmpty (at links place) old is) in
      let fit : SoundLink K sites old.start old.end value = record { start_in = was.start_in; end_in = was.end_in; ends_apart = was.ends_apart; admitted = adm } in
      sound_set links place (Some (revalued old value)) sites lt sound (λ s t c is. subst (λ (z : Link V). SoundLink K sites z.start z.end z.value) (some_same is) fit))

  pub sound_removed : Sound K sites (removed links place)
  sound_removed =
      either (Sound K sites) (λ (old : Link V). set links place None) links (topmost (remove_causes links place)) (filled_or LinkEmpty (at links place)) sound
      (λ e old is.
      let no = cleared (remove_causes links place) e in
      let lt = leb-false _ _ no.0 in
      sound_set links place None sites lt sound (λ s t c is. absurd (none_some is)))

module _ {V L : Type 0} {K : Kind V L} {sites : ℕ} {links after : List (Option (Link V))} (sound : Sound K sites links) (place : ℕ) where
  pub stores : (link : Link V) → after ≡ stored K sites links place link → Sound K sites after
  stores link e = subst (Sound K sites) (sym e) (sound_stored K sites links place sound link)

  pub replaces : (value : V) → after ≡ replaced K links place value → Sound K sites after
  replaces value e = subst (Sound K sites) (sym e) (sound_replaced K sites links place sound value)

  pub removes : after ≡ removed links place → Sound K sites after
  removes e = subst (Sound K sites) (sym e) (sound_removed K sites links place sound)

-- No link stands at the place n or after it: so it is after each call, where n is past the place of a link that was stored.
module _ {V : Type 0} {links : List (Option (Link V))} {n : ℕ} (rest : EmptyFrom links n) (place : ℕ) where
  empty_set : (y : Option (Link V)) (m : ℕ) → n ≤ m → place < length links → (is_some y ≡ true → place < m) → EmptyFrom (set links place y) m
  empty_set y m more lt inside = record {
    none = λ p le. ⊎_elim
        (λ e. ap (λ x. is_some (at (set links place y) x)) e ∙ ap is_some (get_or-set_same links place y None lt) ∙ not_here p le y inside e)
        (λ ne. ap is_some (get_or-set_other links place p y None ne) ∙ rest.none p (omega arith))
        (cases_eq p place);
  }
    where
      not_here : (p : ℕ) → m ≤ p → (y : Option (Link V)) → (is_some y ≡ true → place < m) → p ≡ place → is_some y ≡ false
      not_here p le None inside e = refl
      not_here p le (Some link) inside e = let lt = inside refl in absurd (omega arith)

  empty_still : (m : ℕ) → n ≤ m → EmptyFrom links m
  empty_still m more = record { none = λ p le. rest.none p (omega arith) }

  pub empty_stored : {L : Type 0} {after : List (Option (Link V))} (K : Kind V L) (sites : ℕ) (link : Link V) (m : ℕ) → after ≡ stored K sites links place link → n ≤ m → place < m → EmptyFrom after m
  empty_stored K sites link m e more past = subst (λ xs. EmptyFrom xs m) (sym e)
      (either (λ xs. EmptyFrom xs m) (λ (_ : Unit {0}). set links place (Some link)) links (topmost (store_causes K sites links place link)) (Ok tt) (empty_still m more)
      (λ free a is. empty_set (Some link) m more (leb-false _ _ (cleared (store_causes K sites links place link) free).0) (λ _. past)))

  pub empty_replaced : {L : Type 0} {after : List (Option (Link V))} (K : Kind V L) (value : V) → after ≡ replaced K links place value → EmptyFrom after n
  empty_replaced K value e = subst (λ xs. EmptyFrom xs n) (sym e)
      (either (λ xs. EmptyFrom xs n) (λ (old : Link V). set links place (Some (revalued old value))) links (topmost (replace_causes K links place value)) (filled_or LinkEmpty (at links place)) rest
      (λ free old is.
      let no = cleared (replace_causes K links place value) free in
      empty_set (Some (revalued old value)) n (omega arith) (leb-false _ _ no.0) (λ _. there old (filled_some LinkEmpty (at links place) old is))))
    where
      there : (old : Link V) → at links place ≡ Some old → place < n
      there old here = ⊎_elim (λ lt. lt) (λ le. absurd (both_ways (is_some (at links place)) (rest.none place le) (ap is_some here))) (cases_lt place n)

  pub empty_removed : {after : List (Option (Link V))} → after ≡ removed links place → EmptyFrom after n
  empty_removed e = subst (λ xs. EmptyFrom xs n) (sym e)
      (either (λ xs. EmptyFrom xs n) (λ (old : Link V). set links place None) links (topmost (remove_causes links place)) (filled_or LinkEmpty (at links place)) rest
      (λ free old is. empty_set None n (omega arith) (leb-false _ _ (cleared (remove_causes links place) free).0) (λ some. absurd (both_ways false refl some))))

-- at an empty place, in a catalogue just opened
none_there : (A : Type 0) (n p : ℕ) → is_some (at {A = A} (replicate n None) p) ≡ false
none_there A zero p = refl
none_there A (suc n) zero = refl
none_there A (suc n) (suc p) = none_there A n p

pub empty_opened : {A : Type 0} {places : List (Option A)} (n : ℕ) → places ≡ replicate n None → EmptyFrom places 0
empty_opened {A} n is = record { none = λ p le. ap (λ xs. is_some (at xs p)) is ∙ none_there A n p }

pub ruleset storing = (stores, empty_stored)
