-- A quote book is as its calls make it.
use Rattle.std.proofs.Common.{◌≡◌, ℕ, suc, zero, ◌*◌, ◌<◌, ◌≤◌, List, length, replicate, set, Some, None, Option, sym, refl, ap, ◌∙◌, subst, ⊎_elim, arith, length-set, get_or-set_other, get_or-set_same}
use lib.ListN.{length-replicate}
use Rattle.std.proofs.lemmas.Bool.{cases_eq}
use Rattle.measure.specs.Kind.{Kind}
use Rattle.catalogue.specs.Places.{at}
use Rattle.catalogue.specs.Walks.{Holds}
use Rattle.catalogue.specs.Routes.{Sound}
use Rattle.catalogue.proofs.Short.{short}
use Rattle.catalogue.specs.declared.routes.Ask.{Ask}
use Rattle.catalogue.specs.declared.routes.Route.{Route}
use Rattle.catalogue.specs.Routes.{Found}
use Rattle.cards.specs.declared.Card.{Card}
use Rattle.cards.specs.declared.MarkEvent.{MarkEvent}
use Rattle.cards.specs.Books.{Network, leg_count, SoundCard, SoundBook}
use Rattle.report.proofs.Clearing.{some_same, none_some}
use Rattle.doubt.specs.News.{after}

none_at : {A : Type 0} (n c : ℕ) → at {A = A} (replicate n None) c ≡ None
none_at zero c = refl
none_at (suc n) zero = refl
none_at (suc n) (suc c) = none_at n c

-- a quote book with no cards
pub sound_empty : {V L : Type 0} (K : Kind V L) (sites n : ℕ) (cards : List (Option (Card V L))) (rows : List ℕ) → (0 < sites → length rows ≡ n * sites) → cards ≡ replicate n None → SoundBook K sites cards rows
sound_empty K sites n cards rows whole is = record {
  whole = λ some. whole some ∙ ap (λ m. m * sites) (sym (ap length is ∙ length-replicate n None));
  each = λ c card here. absurd (none_some (sym (none_at n c) ∙ ap (λ xs. at xs c) (sym is) ∙ here));
}

module _ {V L : Type 0} {K : Kind V L} {sites : ℕ} {cards : List (Option (Card V L))} {rows : List ℕ} (sound : SoundBook K sites cards rows) where
  -- another card at a place, and other numbers in as many rows
  pub sound_write : (c : ℕ) (y : Option (Card V L)) (cards' : List (Option (Card V L))) (rows' : List ℕ) → c < length cards → cards' ≡ set cards c y → length rows' ≡ length rows →
      ((card : Card V L) → y ≡ Some card → SoundCard K sites card) → SoundBook K sites cards' rows'
  sound_write c y cards' rows' lt is long new =
      subst (λ xs. SoundBook K sites xs rows') (sym is) (record {
        whole = λ some. long ∙ sound.whole some ∙ ap (λ m. m * sites) (sym (length-set cards c y));
        each = λ d card here. ⊎_elim
            (λ e. new card (sym (get_or-set_same cards c y None lt) ∙ subst (λ x. at (set cards c y) x ≡ Some card) e here))
            (λ ne. sound.each d card (sym (get_or-set_other cards c d y None ne) ∙ here))
            (cases_eq d c);
      })

  after_sound : (event : MarkEvent) (x : Option (Card V L)) → ((card : Card V L) → x ≡ Some card → SoundCard K sites card) → (card : Card V L) → after event x ≡ Some card → SoundCard K sites card
  after_sound event None was card e = absurd (none_some e)
  after_sound event (Some it) was card e =
      let s = was it refl in
      subst (λ (x : Card V L). SoundCard K sites x) (some_same e) (record { source_in = s.source_in; destination_in = s.destination_in; admitted = s.admitted; short = s.short; few = s.few })

  -- news at a place
  pub sound_after : (c : ℕ) (event : MarkEvent) (cards' : List (Option (Card V L))) → c < length cards → cards' ≡ set cards c (after event (at cards c)) → SoundBook K sites cards' rows
  sound_after c event cards' lt is = sound_write c (after event (at cards c)) cards' rows lt is refl (after_sound event (at cards c) (λ card. sound.each c card))

-- what was found has fewer legs than there are sites, or any more of them
pub found_few : {V L : Type 0} (K : Kind V L) (n : Network V) (ask : Ask L) (width : ℕ) → Sound K n.sites n.links → ask.source < n.sites → n.sites ≤ width →
    (answer : Option (Route V)) (legs : List ℕ) → Found K n.links ask answer legs → leg_count answer < width
found_few K n ask width sound inside wide None legs f = omega arith
found_few K n ask width sound inside wide (Some route) legs f =
    let best = f.2 in
    let h = short K (Holds n.links) n.sites (λ p s t c has. (sound.each p s t c has).end_in) legs ask.source ask.destination K.empty route.value best.walk best.simple inside in
    omega (arith, f.0)
