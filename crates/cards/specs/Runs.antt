-- Histories of calls on a catalogue and its quote book, and what holds after each.
use Rattle.std.specs.Prelude.{true, ◌≡◌, ℕ, Bool, false, cond, List, [], ◌∷◌, ◌++◌, length, take, drop, replicate, Some, None, Ok, Err, Option, Result, ◌==◌, slice_set}
use Rattle.measure.specs.Kind.{Kind}
use Rattle.measure.specs.Ratios.{AtMost, equal}
use Rattle.report.specs.declared.Mark.{Mark}
use Rattle.report.specs.declared.Mark.TheVariants.{Standing}
use Rattle.report.specs.declared.Refusal.{Refusal}
use Rattle.report.specs.declared.Refusal.TheVariants.{LabelsFull}
use Rattle.catalogue.specs.declared.Link.{Link}
use Rattle.catalogue.specs.Calls.{size_answer, revalued}
use Rattle.catalogue.specs.Places.{at}
use Rattle.catalogue.specs.Walks.{Holds, Walk}
use Rattle.catalogue.specs.Routes.{Outside, Crowded}
use Rattle.catalogue.specs.declared.routes.Ask.{Ask}
use Rattle.catalogue.specs.declared.routes.Route.{Route}
use Rattle.labels.specs.declared.Slot.{Slot}
use Rattle.cards.specs.declared.Call.{Call}
use Rattle.cards.specs.declared.Call.TheVariants.{Offer, Change, Withdraw, Quote, Recheck, Discard, Read}
use Rattle.cards.specs.declared.Answer.{Answer}
use Rattle.cards.specs.declared.Answer.TheVariants.{Counted, Held}
use Rattle.cards.specs.Books.{Network, Book, book_size_answer, opened_network, opened_book, leg_count}
use Rattle.cards.specs.Calls.{offer_causes, change_causes, withdraw_causes, quote_causes, recheck_causes, discard_causes, read_causes, Offered, Changed, Withdrawn, Quoted, Rechecked, Discarded, Shown}

-- a catalogue and its quote book
pub record Memory (V L : Type 0) : Type 0 where
  pub network : Network V
  pub book : Book V L

-- the memory of these two
abbrev pub memory : {V L : Type 0} → Network V → Book V L → Memory V L
memory n b = record { network = n; book = b }

-- what a call answers, or why it was turned down
abbrev pub Reply : Type 0 → Type 0
Reply V = Result (Answer V) Refusal

-- What each call's own answer is as a reply: an offer, a change and a withdrawal answer their count.
abbrev pub counted : {V : Type 0} → Result ℕ Refusal → Reply V
counted (Ok count) = Ok (Counted count)
counted (Err why) = Err why

-- a quote and a recheck that were carried out answer a standing card
abbrev pub answered : {V : Type 0} → Result (Option (Route V)) Refusal → Reply V
answered (Ok answer) = Ok (Held Standing answer)
answered (Err why) = Err why

-- a discard that was carried out answers 0
abbrev pub emptied : {V : Type 0} → Result (Unit {0}) Refusal → Reply V
emptied (Ok done) = Ok (Counted 0)
emptied (Err why) = Err why

-- a reading answers mark and answer
abbrev pub showing : {V : Type 0} → Result (Mark × Option (Route V)) Refusal → Reply V
showing (Ok held) = Ok (Held held.0 held.1)
showing (Err why) = Err why

-- What the caller lends to one call: the labels of a workspace, and the numbers of a reply.
pub record Lent (V : Type 0) : Type 0 where
  pub labels : List (Slot V)
  pub reply : List ℕ

-- these labels and these numbers, lent to one call
abbrev pub lent : {V : Type 0} → List (Slot V) → List ℕ → Lent V
lent labels reply = record { labels = labels; reply = reply }

-- why a call, whichever it is, is refused before it begins: its causes, each with whether it holds
abbrev pub causes_of : {V L : Type 0} → Kind V L → Memory V L → Lent V → Call V L → List (Bool × Refusal)
causes_of K m l (Offer place link) = offer_causes K m.network m.book place link
causes_of K m l (Change place value) = change_causes K m.network m.book place value
causes_of K m l (Withdraw place) = withdraw_causes m.network m.book place
causes_of K m l (Quote card ask k) = quote_causes K m.network m.book (length l.labels) card ask k
causes_of K m l (Recheck card k) = recheck_causes m.network m.book (length l.labels) card k
causes_of K m l (Discard card) = discard_causes m.book card
causes_of K m l (Read card start) = read_causes m.book (length l.reply) card start

-- The full outcome of a call, whichever it is: what it answers, and the memory and what was lent afterwards.
pub data Outcome {V L : Type 0} (K : Kind V L) (m : Memory V L) (l : Lent V) : Call V L → Reply V → Memory V L → Lent V → Type 0 where
  by_offer : {place : ℕ} {link : Link V} {r : Result ℕ Refusal} {n : Network V} {b : Book V L} →
      Offered K m.network m.book place link r n b → Outcome K m l (Offer place link) (counted r) (memory n b) l
  by_change : {place : ℕ} {value : V} {r : Result ℕ Refusal} {n : Network V} {b : Book V L} →
      Changed K m.network m.book place value r n b → Outcome K m l (Change place value) (counted r) (memory n b) l
  by_withdrawal : {place : ℕ} {r : Result ℕ Refusal} {n : Network V} {b : Book V L} →
      Withdrawn K m.network m.book place r n b → Outcome K m l (Withdraw place) (counted r) (memory n b) l
  by_quote : {card k : ℕ} {ask : Ask L} {r : Result (Option (Route V)) Refusal} {b : Book V L} {labels : List (Slot V)} →
      Quoted K m.network m.book l.labels card ask k r b labels →
      Outcome K m l (Quote card ask k) (answered r) (memory m.network b) (lent labels l.reply)
  by_recheck : {card k : ℕ} {r : Result (Option (Route V)) Refusal} {b : Book V L} {labels : List (Slot V)} →
      Rechecked K m.network m.book l.labels card k r b labels →
      Outcome K m l (Recheck card k) (answered r) (memory m.network b) (lent labels l.reply)
  by_discard : {card : ℕ} {r : Result (Unit {0}) Refusal} {b : Book V L} →
      Discarded m.book card r b → Outcome K m l (Discard card) (emptied r) (memory m.network b) l
  by_reading : {card start : ℕ} {r : Result (Mark × Option (Route V)) Refusal} {reply : List ℕ} →
      Shown m.book card start l.reply r reply → Outcome K m l (Read card start) (showing r) m (lent l.labels reply)

-- One call and what it answered. A history has its latest event first.
pub record Event (V L : Type 0) : Type 0 where
  pub call : Call V L
  pub reply : Reply V

-- this call, with this answer
abbrev pub event : {V L : Type 0} → Call V L → Reply V → Event V L
event call reply = record { call = call; reply = reply }

-- one thing where the call was refused, another where it was not
abbrev pub unless_refused : {V A : Type 0} → Reply V → A → A → A
unless_refused (Ok answer) done stays = done
unless_refused (Err why) done stays = stays

-- what stands at a link place once its link was given this value
abbrev pub revalue : {V : Type 0} → V → Option (Link V) → Option (Link V)
revalue value None = None
revalue value (Some old) = Some (revalued old value)

-- what a call that is not refused makes of the links
abbrev pub relinked : {V L : Type 0} → Call V L → List (Option (Link V)) → List (Option (Link V))
relinked (Offer place link) links = slice_set links place (Some link)
relinked (Change place value) links = slice_set links place (revalue value (at links place))
relinked (Withdraw place) links = slice_set links place None
relinked (Quote card ask k) links = links
relinked (Recheck card k) links = links
relinked (Discard card) links = links
relinked (Read card start) links = links

-- The present catalogue: what the arguments of the offers, changes and withdrawals that were not refused make, in order, of the empty one.
abbrev pub present : {V L : Type 0} → ℕ → List (Event V L) → List (Option (Link V))
present places [] = replicate places None
present places (e ∷ before) = unless_refused e.reply (relinked e.call (present places before)) (present places before)

-- What a card was asked: the ends and the limit of the quote that filled it; nothing where it is empty.
abbrev pub reasked : {V L : Type 0} → ℕ → Call V L → Option (Ask L) → Option (Ask L)
reasked c (Offer place link) was = was
reasked c (Change place value) was = was
reasked c (Withdraw place) was = was
reasked c (Quote card ask k) was = cond (c == card) (Some ask) was
reasked c (Recheck card k) was = was
reasked c (Discard card) was = cond (c == card) None was
reasked c (Read card start) was = was

-- what the card at the place c was asked, after a history
abbrev pub asked : {V L : Type 0} → ℕ → List (Event V L) → Option (Ask L)
asked c [] = None
asked c (e ∷ before) = unless_refused e.reply (reasked c e.call (asked c before)) (asked c before)

-- What a call would look for after a history, and with how many labels a site.
pub record Sought (L : Type 0) : Type 0 where
  pub ask : Ask L
  pub k : ℕ

-- this is looked for with k labels a site
abbrev pub sought_by : {L : Type 0} → ℕ → Option (Ask L) → Option (Sought L)
sought_by k None = None
sought_by k (Some ask) = Some (record { ask = ask; k = k })

-- what the call looks for after a history, if it looks for anything
abbrev pub sought : {V L : Type 0} → List (Event V L) → Call V L → Option (Sought L)
sought before (Offer place link) = None
sought before (Change place value) = None
sought before (Withdraw place) = None
sought before (Quote card ask k) = sought_by k (Some ask)
sought before (Recheck card k) = sought_by k (asked card before)
sought before (Discard card) = None
sought before (Read card start) = None

-- The history happened to a catalogue of so many places and the quote book that was opened with it, and left this memory. Sizes that
-- opening refuses are not opened. Each call may bring another workspace and another reply.
pub data Happened {V L : Type 0} (K : Kind V L) (places : ℕ) : List (Event V L) → Memory V L → Type 0 where
  opened : (sites cards : ℕ) (rows : List ℕ) → size_answer sites places ≡ Ok tt → book_size_answer sites cards (length rows) ≡ Ok tt →
      Happened K places [] (memory (opened_network sites places) (opened_book sites cards rows))
  and_then : {history : List (Event V L)} {before after : Memory V L} {l l' : Lent V} {call : Call V L} {reply : Reply V} →
      Happened K places history before → Outcome K before l call reply after l' → Happened K places (event call reply ∷ history) after

-- The legs are a walk among these links that joins the ends of what was asked within its limit, with the route's value, ratio and number
-- of legs, and every walk that joins these ends within this limit has at least that ratio, and at an equal ratio no earlier value.
pub record NoBetter {V L : Type 0} (K : Kind V L) (links : List (Option (Link V))) (ask : Ask L) (route : Route V) (legs : List ℕ) : Type 0 where
  pub walk : Walk K (Holds links) ask.source legs ask.destination route.value
  pub within : K.within route.value ask.limit ≡ true
  pub ratio : route.ratio ≡ K.ratio route.value ask.limit
  pub count : route.legs ≡ length legs
  pub least : (other : List ℕ) (w : V) → Walk K (Holds links) ask.source other ask.destination w → K.within w ask.limit ≡ true →
      AtMost route.ratio (K.ratio w ask.limit)
  pub first : (other : List ℕ) (w : V) → Walk K (Holds links) ask.source other ask.destination w → K.within w ask.limit ≡ true →
      equal route.ratio (K.ratio w ask.limit) ≡ true → K.before w route.value ≡ false

-- what a reading of the card would return now, given room: its mark and answer, and the legs that it would leave in the reply
abbrev pub Reads : {V L : Type 0} → Memory V L → ℕ → Mark → Option (Route V) → List ℕ → Type 0
Reads m card mark answer legs =
    (start : ℕ) × (reply : List ℕ) × (reply' : List ℕ) × Shown m.book card start reply (Ok (mark, answer)) reply'
    × (legs ≡ take (leg_count answer) (drop start reply'))

-- What holds after a history that left this memory.
pub record Promised {V L : Type 0} (K : Kind V L) (places : ℕ) (history : List (Event V L)) (m : Memory V L) : Type 0 where
  -- a standing card with a route: in the present catalogue there is no better one for what the card was asked
  pub route : (card : ℕ) (route : Route V) (legs : List ℕ) → Reads m card Standing (Some route) legs →
      (ask : Ask L) × (asked card history ≡ Some ask) × NoBetter K (present places history) ask route legs
  -- a standing card with none: every walk in the present catalogue that joins the card's ends is outside its limit
  pub none : (card : ℕ) (legs : List ℕ) → Reads m card Standing None legs →
      (ask : Ask L) × (asked card history ≡ Some ask) × Outside K ask.limit (Holds (present places history)) ask.source ask.destination
  -- whenever a call answered that the k labels of a site are full, the catalogue as it then was had k + 1 walks from the source to that
  -- site within the limit that was asked for, none dominating another
  pub full : (later before : List (Event V L)) (call : Call V L) (site : ℕ) → history ≡ later ++ (event call (Err (LabelsFull site)) ∷ before) →
      (goal : Sought L) × (sought before call ≡ Some goal)
      × Crowded K goal.ask.limit (Holds (present places before)) goal.k goal.ask.source site
  -- each filled card can be read, so that the first two say something of it
  pub readable : (card : ℕ) (ask : Ask L) → asked card history ≡ Some ask →
      (mark : Mark) × (answer : Option (Route V)) × (legs : List ℕ) × Reads m card mark answer legs

-- What a call with this outcome adds to any run: the run goes on by one event, and the promise holds after it.
abbrev pub Continues : {V L : Type 0} → Kind V L → Memory V L → Call V L → Reply V → Memory V L → Type 0
Continues {V} {L} K before call reply after =
    (places : ℕ) (history : List (Event V L)) → Happened K places history before →
    Happened K places (event call reply ∷ history) after × Promised K places (event call reply ∷ history) after
