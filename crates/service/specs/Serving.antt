-- What becomes of a record.
use Rattle.std.specs.Prelude.{◌≡◌, ℕ, ◌<◌, ◌≤◌, List, length, Some, None, Ok, Err, Option}
use Rattle.measure.specs.declared.pair.Pair.{Pair}
use Rattle.measure.specs.Scalars.{Sum, Worst}
use Rattle.measure.specs.Products.{trunk, trunk_limit, trunk_kind}
use Rattle.catalogue.specs.declared.Link.{Link}
use Rattle.records.specs.declared.Measures.{Measures}
use Rattle.records.specs.declared.Record.{Record}
use Rattle.records.specs.declared.Record.TheVariants as RecordVariants
use Rattle.catalogue.specs.declared.routes.Ask.{Ask}
use Rattle.cards.specs.declared.Call.{Call}
use Rattle.cards.specs.declared.Call.TheVariants.{Offer, Change, Withdraw, Quote, Recheck, Discard, Read}
use Rattle.cards.specs.declared.Answer.TheVariants.{Counted, Held}
use Rattle.cards.specs.Runs.{Reply, Memory, Lent, Outcome}
use Rattle.line.specs.declared.Reply.{Reply as Printed}
use Rattle.line.specs.declared.Reply.TheVariants as LineVariants

-- delay, price and class
abbrev pub TrunkValue : Type 0
TrunkValue = Pair (Pair Sum Sum) Worst

-- a limit for each of them
abbrev pub TrunkLimits : Type 0
TrunkLimits = Pair (Pair ℕ ℕ) ℕ

-- a record's measures as a value
abbrev pub value_of : Measures → TrunkValue
value_of m = trunk m.delay m.price m.class

-- a record's limits as a limit
abbrev pub limit_of : Measures → TrunkLimits
limit_of m = trunk_limit m.delay m.price m.class

-- the link of an offer
abbrev pub link_of : ℕ → ℕ → Measures → Link TrunkValue
link_of start end m = record { start = start; end = end; value = value_of m }

-- what a quote asks
abbrev pub ask_of : ℕ → ℕ → Measures → Ask TrunkLimits
ask_of source destination limits = record { source = source; destination = destination; limit = limit_of limits }

-- the call that a record asks for, with k labels a site
abbrev pub call_of : Record → ℕ → Call TrunkValue TrunkLimits
call_of (RecordVariants.Offer link start end m) k = Offer link (link_of start end m)
call_of (RecordVariants.Change link m) k = Change link (value_of m)
call_of (RecordVariants.Withdraw link) k = Withdraw link
call_of (RecordVariants.Quote card source destination limits) k = Quote card (ask_of source destination limits) k
call_of (RecordVariants.Recheck card) k = Recheck card k
call_of (RecordVariants.Discard card) k = Discard card
call_of (RecordVariants.Read card) k = Read card 0

-- the card that is read once a quote or a recheck was carried out
abbrev pub held_card : Reply TrunkValue → ℕ → Option ℕ
held_card (Ok (Counted count)) card = None
held_card (Ok (Held mark answer)) card = Some card
held_card (Err why) card = None

-- the card that is read after the call of a record, if one is
abbrev pub card_read : Record → Reply TrunkValue → Option ℕ
card_read (RecordVariants.Offer link start end m) reply = None
card_read (RecordVariants.Change link m) reply = None
card_read (RecordVariants.Withdraw link) reply = None
card_read (RecordVariants.Quote card source destination limits) reply = held_card reply card
card_read (RecordVariants.Recheck card) reply = held_card reply card
card_read (RecordVariants.Discard card) reply = None
card_read (RecordVariants.Read card) reply = None

-- the call, and where it answered what a card holds, a reading of that card: two steps of a run at the most
abbrev pub ReadThen : Memory TrunkValue TrunkLimits → Lent TrunkValue → Reply TrunkValue → Option ℕ → Reply TrunkValue → Memory TrunkValue TrunkLimits → Lent TrunkValue → Type 0
ReadThen m l first None reply m' l' = (reply ≡ first) × (m' ≡ m) × (l' ≡ l)
ReadThen m l first (Some card) reply m' l' = Outcome trunk_kind m l (Read card 0) reply m' l'

-- a record is served: its call, and the reading after it, lead from one memory to the other
pub record Served (m : Memory TrunkValue TrunkLimits) (l : Lent TrunkValue) (r : Record) (k : ℕ) (reply : Reply TrunkValue) (m' : Memory TrunkValue TrunkLimits) (l' : Lent TrunkValue) : Type 0 where
  pub first : Reply TrunkValue
  pub between : Memory TrunkValue TrunkLimits
  pub left : Lent TrunkValue
  pub call : Outcome trunk_kind m l (call_of r k) first between left
  pub reading : ReadThen between left first (card_read r first) reply m' l'

-- what is printed of a reply, and how many legs its route has
abbrev pub printed : Reply TrunkValue → Printed × ℕ
printed (Ok (Counted count)) = (LineVariants.Counted count, 0)
printed (Ok (Held mark None)) = (LineVariants.NoRoute mark, 0)
printed (Ok (Held mark (Some route))) = (LineVariants.Route mark route.ratio route.value, route.legs)
printed (Err why) = (LineVariants.Refused why, 0)

-- the legs that are printed of a reply are among these numbers, and fewer than 256
pub record Legible (reply : Reply TrunkValue) (numbers : List ℕ) : Type 0 where
  pub within : (printed reply).1 ≤ length numbers
  pub few : (printed reply).1 < 256
