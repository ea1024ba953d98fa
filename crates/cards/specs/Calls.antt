-- The seven calls on a catalogue and its quote book: why each is refused, and all that it answers and leaves.
use Rattle.std.specs.Prelude.{◌≡◌, ℕ, ◌+◌, Bool, not, List, [], ◌∷◌, length, is_some, Some, None, Ok, Err, Option, Result, ◌==◌, nat_le, nat_lt, slice_set}
use Rattle.std.proofs.Math.Seq.{paste}
use Rattle.measure.specs.Kind.{Kind}
use Rattle.report.specs.declared.Mark.{Mark}
use Rattle.report.specs.declared.Mark.TheVariants.{Standing, Doubtful}
use Rattle.report.specs.declared.Refusal.{Refusal}
use Rattle.report.specs.declared.Refusal.TheVariants.{SitesDiffer, NoSuchCard, NoSuchSite, LimitNotAdmitted, CardFilled, CardEmpty, WorkspaceSize, ReplyTooShort, LabelsFull}
use Rattle.report.specs.Refusals.{topmost}
use Rattle.catalogue.specs.declared.Link.{Link}
use Rattle.catalogue.specs.Places.{at}
use Rattle.catalogue.specs.Calls.{store_causes, replace_causes, remove_causes, revalued}
use Rattle.catalogue.specs.Asks.{ends_out, limit_out}
use Rattle.catalogue.specs.Routes.{Found, Overfull}
use Rattle.catalogue.specs.declared.routes.Ask.{Ask}
use Rattle.catalogue.specs.declared.routes.Route.{Route}
use Rattle.labels.specs.declared.Slot.{Slot}
use Rattle.labels.specs.Workspaces.{ill_sized, AllFree}
use Rattle.cards.specs.declared.Card.{Card}
use Rattle.cards.specs.Books.{Network, Book, with_links, with_cards, card_of, with_card, leg_count, legs_at}
use Rattle.cards.specs.Doubts.{Doubted, struck_by_offer, struck_by_change, struck_by_withdrawal}

-- Why a call is refused: its causes in the order of the table of refusals, each with whether it holds. The topmost that holds is reported.

-- the quote book and the catalogue differ in their number of sites
abbrev pub differ : {V L : Type 0} → Network V → Book V L → Bool × Refusal
differ n b = (not (b.width == n.sites), SitesDiffer)

-- there is no such card place
abbrev pub no_card : {V L : Type 0} → Book V L → ℕ → Bool × Refusal
no_card b card = (nat_le (length b.cards) card, NoSuchCard)

-- the card place is empty
abbrev pub card_empty : {V L : Type 0} → Book V L → ℕ → Bool × Refusal
card_empty b card = (not (is_some (at b.cards card)), CardEmpty)

-- why an offer is refused
abbrev pub offer_causes : {V L : Type 0} → Kind V L → Network V → Book V L → ℕ → Link V → List (Bool × Refusal)
offer_causes K n b place link = differ n b ∷ store_causes K n.sites n.links place link

-- why a change is refused
abbrev pub change_causes : {V L : Type 0} → Kind V L → Network V → Book V L → ℕ → V → List (Bool × Refusal)
change_causes K n b place value = differ n b ∷ replace_causes K n.links place value

-- why a withdrawal is refused
abbrev pub withdraw_causes : {V L : Type 0} → Network V → Book V L → ℕ → List (Bool × Refusal)
withdraw_causes n b place = differ n b ∷ remove_causes n.links place

-- `room` is how many labels the workspace has
abbrev pub quote_causes : {V L : Type 0} → Kind V L → Network V → Book V L → ℕ → ℕ → Ask L → ℕ → List (Bool × Refusal)
quote_causes K n b room card ask k =
    differ n b ∷ no_card b card ∷ (ends_out n.sites ask, NoSuchSite) ∷ (limit_out K ask, LimitNotAdmitted) ∷ (is_some (at b.cards card), CardFilled)
    ∷ (ill_sized n.sites room k, WorkspaceSize) ∷ []

-- why a recheck is refused: what the card was asked was right when it was filled, and is not looked at again
abbrev pub recheck_causes : {V L : Type 0} → Network V → Book V L → ℕ → ℕ → ℕ → List (Bool × Refusal)
recheck_causes n b room card k = differ n b ∷ no_card b card ∷ card_empty b card ∷ (ill_sized n.sites room k, WorkspaceSize) ∷ []

-- why a discard is refused
abbrev pub discard_causes : {V L : Type 0} → Book V L → ℕ → List (Bool × Refusal)
discard_causes b card = no_card b card ∷ card_empty b card ∷ []

-- how many legs are to be copied of what stands at a card place
abbrev pub legs_of : {V L : Type 0} → Option (Card V L) → ℕ
legs_of None = 0
legs_of (Some card) = leg_count card.answer

-- `room` is how many numbers the reply has
abbrev pub read_causes : {V L : Type 0} → Book V L → ℕ → ℕ → ℕ → List (Bool × Refusal)
read_causes b room card start = no_card b card ∷ card_empty b card ∷ (nat_lt room (start + legs_of (at b.cards card)), ReplyTooShort) ∷ []

-- a standing card that was asked this, with this answer
abbrev pub standing_card : {V L : Type 0} → Ask L → Option (Route V) → Card V L
standing_card ask answer = card_of ask answer Standing

-- The full outcome of each call: one way for each way that it can end. What a call leaves stands after its answer; whatever is not named
-- there is only looked at.

-- an offer: the answer, and the catalogue and the quote book afterwards
pub data Offered {V L : Type 0} (K : Kind V L) (n : Network V) (b : Book V L) (place : ℕ) (link : Link V) : Result ℕ Refusal → Network V → Book V L → Type 0 where
  offer_refused : (why : Refusal) → topmost (offer_causes K n b place link) ≡ Some why → Offered K n b place link (Err why) n b
  offered : (count : ℕ) (cards : List (Option (Card V L))) → topmost (offer_causes K n b place link) ≡ None →
      Doubted (struck_by_offer K link.value) b cards count →
      Offered K n b place link (Ok count) (with_links n (slice_set n.links place (Some link))) (with_cards b cards)

-- a change
pub data Changed {V L : Type 0} (K : Kind V L) (n : Network V) (b : Book V L) (place : ℕ) (value : V) : Result ℕ Refusal → Network V → Book V L → Type 0 where
  change_refused : (why : Refusal) → topmost (change_causes K n b place value) ≡ Some why → Changed K n b place value (Err why) n b
  changed : (old : Link V) (count : ℕ) (cards : List (Option (Card V L))) → topmost (change_causes K n b place value) ≡ None →
      at n.links place ≡ Some old → Doubted (struck_by_change K place old.value value) b cards count →
      Changed K n b place value (Ok count) (with_links n (slice_set n.links place (Some (revalued old value)))) (with_cards b cards)

-- a withdrawal
pub data Withdrawn {V L : Type 0} (K : Kind V L) (n : Network V) (b : Book V L) (place : ℕ) : Result ℕ Refusal → Network V → Book V L → Type 0 where
  withdraw_refused : (why : Refusal) → topmost (withdraw_causes n b place) ≡ Some why → Withdrawn K n b place (Err why) n b
  withdrawn : (count : ℕ) (cards : List (Option (Card V L))) → topmost (withdraw_causes n b place) ≡ None →
      Doubted (struck_by_withdrawal K place) b cards count →
      Withdrawn K n b place (Ok count) (with_links n (slice_set n.links place None)) (with_cards b cards)

-- a quote: the answer, and the quote book and the workspace afterwards
pub data Quoted {V L : Type 0} (K : Kind V L) (n : Network V) (b : Book V L) (labels : List (Slot V)) (card : ℕ) (ask : Ask L) (k : ℕ) : Result (Option (Route V)) Refusal → Book V L → List (Slot V) → Type 0 where
  quote_refused : (why : Refusal) → topmost (quote_causes K n b (length labels) card ask k) ≡ Some why → Quoted K n b labels card ask k (Err why) b labels
  quote_full : (site : ℕ) (labels' : List (Slot V)) → topmost (quote_causes K n b (length labels) card ask k) ≡ None →
      Overfull K n.links ask k site → AllFree K labels' → Quoted K n b labels card ask k (Err (LabelsFull site)) b labels'
  quoted : (answer : Option (Route V)) (legs : List ℕ) (labels' : List (Slot V)) → topmost (quote_causes K n b (length labels) card ask k) ≡ None →
      Found K n.links ask answer legs → AllFree K labels' →
      Quoted K n b labels card ask k (Ok answer) (with_card b card (Some (standing_card ask answer)) legs) labels'

-- a recheck: likewise; a standing card is only looked at
pub data Rechecked {V L : Type 0} (K : Kind V L) (n : Network V) (b : Book V L) (labels : List (Slot V)) (card k : ℕ) : Result (Option (Route V)) Refusal → Book V L → List (Slot V) → Type 0 where
  recheck_refused : (why : Refusal) → topmost (recheck_causes n b (length labels) card k) ≡ Some why → Rechecked K n b labels card k (Err why) b labels
  still_standing : (it : Card V L) → topmost (recheck_causes n b (length labels) card k) ≡ None →
      at b.cards card ≡ Some it → it.mark ≡ Standing → Rechecked K n b labels card k (Ok it.answer) b labels
  recheck_full : (it : Card V L) (site : ℕ) (labels' : List (Slot V)) → topmost (recheck_causes n b (length labels) card k) ≡ None →
      at b.cards card ≡ Some it → it.mark ≡ Doubtful → Overfull K n.links it.ask k site → AllFree K labels' →
      Rechecked K n b labels card k (Err (LabelsFull site)) b labels'
  rechecked : (it : Card V L) (answer : Option (Route V)) (legs : List ℕ) (labels' : List (Slot V)) → topmost (recheck_causes n b (length labels) card k) ≡ None →
      at b.cards card ≡ Some it → it.mark ≡ Doubtful → Found K n.links it.ask answer legs → AllFree K labels' →
      Rechecked K n b labels card k (Ok answer) (with_card b card (Some (standing_card it.ask answer)) legs) labels'

-- a discard: the answer, and the quote book afterwards
pub data Discarded {V L : Type 0} (b : Book V L) (card : ℕ) : Result (Unit {0}) Refusal → Book V L → Type 0 where
  discard_refused : (why : Refusal) → topmost (discard_causes b card) ≡ Some why → Discarded b card (Err why) b
  discarded : topmost (discard_causes b card) ≡ None → Discarded b card (Ok tt) (with_card b card None [])

-- a reading: the answer, and the reply afterwards, with the legs from the start place on
pub data Shown {V L : Type 0} (b : Book V L) (card start : ℕ) (reply : List ℕ) : Result (Mark × Option (Route V)) Refusal → List ℕ → Type 0 where
  read_refused : (why : Refusal) → topmost (read_causes b (length reply) card start) ≡ Some why → Shown b card start reply (Err why) reply
  shown : (it : Card V L) → topmost (read_causes b (length reply) card start) ≡ None → at b.cards card ≡ Some it →
      Shown b card start reply (Ok (it.mark, it.answer)) (paste reply start (legs_at b card it.answer) (length (legs_at b card it.answer)))
