-- What is answered of a card can be printed.
use Rattle.std.proofs.Common.{◌≡◌, ℕ, ◌+◌, ◌≤◌, List, length, Some, None, Ok, Err, Option, Result, refl, sym, ◌∙◌, arith, length-take}
use Rattle.std.proofs.lemmas.List.Edits.{length-paste}
use Rattle.std.proofs.lemmas.Bool.{ltb-false}
use Rattle.measure.specs.Products.{trunk_kind}
use Rattle.report.specs.declared.Mark.{Mark}
use Rattle.report.specs.declared.Refusal.{Refusal}
use Rattle.records.specs.declared.Record.{Record}
use Rattle.records.specs.declared.Record.TheVariants as RecordVariants
use Rattle.catalogue.specs.declared.routes.Route.{Route}
use Rattle.cards.specs.declared.Answer.TheVariants.{Held}
use Rattle.cards.specs.declared.Call.{Call}
use Rattle.cards.specs.declared.Call.TheVariants.{Read}
use Rattle.cards.specs.Books.{Book, SoundBook, leg_count, legs_at}
use Rattle.cards.specs.Calls.{read_causes, Shown, read_refused, shown}
use Rattle.cards.specs.Runs.{Reply, Memory, Lent, Outcome, by_offer, by_change, by_withdrawal, by_quote, by_recheck, by_discard, by_reading, counted, emptied, showing}
use Rattle.report.proofs.Clearing.{cleared, none_some}
use Rattle.service.specs.declared.serving.Service.{Service}
use Rattle.service.specs.Services.{Performed}
use Rattle.service.specs.Serving.{TrunkValue, TrunkLimits, call_of, card_read, printed, Legible}

-- a quote book as its calls make it
abbrev SoundIn : Memory TrunkValue TrunkLimits → Type 0
SoundIn m = SoundBook trunk_kind m.book.width m.book.cards m.book.rows

printed_count : (mark : Mark) (answer : Option (Route TrunkValue)) → (printed (Ok (Held mark answer))).1 ≡ leg_count answer
printed_count mark None = refl
printed_count mark (Some route) = refl

-- a reply that is printed with no legs
bare : {reply : Reply TrunkValue} {numbers : List ℕ} → (printed reply).1 ≡ 0 → Legible reply numbers
bare e = record { within = omega arith; few = omega arith }

counted_bare : (r : Result ℕ Refusal) → (printed (counted r)).1 ≡ 0
counted_bare (Ok count) = refl
counted_bare (Err why) = refl

emptied_bare : (r : Result (Unit {0}) Refusal) → (printed (emptied r)).1 ≡ 0
emptied_bare (Ok done) = refl
emptied_bare (Err why) = refl

shown_legible : {b : Book TrunkValue TrunkLimits} {card start : ℕ} {numbers numbers' : List ℕ} {r : Result (Mark × Option (Route TrunkValue)) Refusal} →
    SoundBook trunk_kind b.width b.cards b.rows → Shown b card start numbers r numbers' → Legible (showing r) numbers'
shown_legible sound (read_refused why top) = bare refl
shown_legible {b} {card} {start} {numbers} sound (shown it top here) =
    let count = printed_count it.mark it.answer in
    let own = legs_at b card it.answer in
    let room : start + leg_count it.answer ≤ length numbers = ltb-false _ _ (rw here at (cleared (read_causes b (length numbers) card start) top).1.1.0) in
    let short : length own ≤ leg_count it.answer = simp length-take (omega arith) in
    let same = length-paste numbers start own (length own) (omega arith) (omega arith) in
    let few = (sound.each card it here).few in
    record { within = omega arith; few = omega arith }

-- a call of a record leaves the legs that it answers, where no reading comes after it
other_legible : {m m' : Memory TrunkValue TrunkLimits} {l l' : Lent TrunkValue} (r : Record) (k : ℕ) {reply : Reply TrunkValue} → SoundIn m' →
    Outcome trunk_kind m l (call_of r k) reply m' l' → card_read r reply ≡ None → Legible reply l'.reply
other_legible (RecordVariants.Offer link start end measures) k sound (by_offer {r = r} o) none = bare (counted_bare r)
other_legible (RecordVariants.Change link measures) k sound (by_change {r = r} o) none = bare (counted_bare r)
other_legible (RecordVariants.Withdraw link) k sound (by_withdrawal {r = r} o) none = bare (counted_bare r)
other_legible (RecordVariants.Quote card source destination limits) k sound (by_quote {r = Ok answer} o) none = absurd (none_some (sym none))
other_legible (RecordVariants.Quote card source destination limits) k sound (by_quote {r = Err why} o) none = bare refl
other_legible (RecordVariants.Recheck card) k sound (by_recheck {r = Ok answer} o) none = absurd (none_some (sym none))
other_legible (RecordVariants.Recheck card) k sound (by_recheck {r = Err why} o) none = bare refl
other_legible (RecordVariants.Discard card) k sound (by_discard {r = r} o) none = bare (emptied_bare r)
other_legible (RecordVariants.Read card) k sound (by_reading o) none = shown_legible sound o

reading_legible : {m m' : Memory TrunkValue TrunkLimits} {l l' : Lent TrunkValue} {card start : ℕ} {reply : Reply TrunkValue} → SoundIn m' →
    Outcome trunk_kind m l (Read card start) reply m' l' → Legible reply l'.reply
reading_legible sound (by_reading o) = shown_legible sound o

-- how the serving of a record ends: with a reading, or with a call that has none after it
module _ (s s' : Service) (reply : Reply TrunkValue) where
  pub ends_reading : (card start : ℕ) → Performed s (Read card start) reply s' → Legible reply s'.reply.now
  ends_reading card start o = reading_legible s'.book.now.sound o

  pub ends_unread : (call : Call TrunkValue TrunkLimits) (r : Record) (k : ℕ) (read : Option ℕ) → Performed s call reply s' → call ≡ call_of r k → read ≡ card_read r reply → read ≡ None → Legible reply s'.reply.now
  ends_unread call r k read o is told none = other_legible r k s'.book.now.sound (rw is at o) (sym told ∙ none)

pub ruleset ends = (ends_reading, ends_unread)
