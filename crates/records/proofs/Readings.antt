-- What a feed's bytes say, at each way a reading can end.
use Rattle.std.proofs.Common.{◌≡◌, ℕ, suc, ◌+◌, ◌-◌, ◌<◌, ◌≤◌, List, [], ◌∷◌, length, get_or, take, drop, Some, None, Option, Ok, Err, Result, refl, arith}
use Rattle.std.proofs.lemmas.Grind.{common_steps}
use Rattle.report.specs.declared.Refusal.{Refusal}
use Rattle.records.specs.declared.Record.{Record}
use Rattle.records.specs.Feed.{body_length, refusal_of, record_of, reading_of, unread_of, Reads, Ahead}

-- a whole body, of any kind
pub reads_record : (bs : List ℕ) (place k n : ℕ) {r : Record} → get_or bs 0 0 ≡ k → body_length k ≡ Some n → n < length bs → r ≡ record_of k bs
    → Reads bs place (Ok (Some r)) (take (length bs - suc n) (drop (suc n) bs))
unfolding reading_of unread_of
reads_record [] place k n e b h q = grind (arith, common_steps)
reads_record (x ∷ body) place k n e b h q = grind (arith, common_steps)

-- a body that is not there to its end leaves nothing to read
pub reads_refused : (bs : List ℕ) (place present : ℕ) {why : Refusal} → length bs ≡ present + 1
    → ((n : ℕ) → body_length (get_or bs 0 0) ≡ Some n → present < n) → why ≡ refusal_of (body_length (get_or bs 0 0)) present place
    → Reads bs place (Err why) (take (length bs - length bs) (drop (length bs) bs))
unfolding reading_of unread_of
reads_refused [] place present l h q = grind (arith, common_steps)
reads_refused (x ∷ body) place present l h q = grind (arith, common_steps)

pub reads_nothing : (bs : List ℕ) (place : ℕ) → length bs ≡ 0 → Reads bs place (Ok None) bs
unfolding reading_of unread_of
reads_nothing [] place e = (refl, refl)
reads_nothing (x ∷ body) place e = absurd (omega arith)

-- after a record less is left than there was
shorter : (bs : List ℕ) (place : ℕ) (r : Record) → Ok (Some r) ≡ reading_of bs place → length (unread_of bs) < length bs
unfolding reading_of unread_of
shorter [] place r e = absurd cc
shorter (x ∷ body) place r e = grind (arith, common_steps)

-- what is left begins as far from the end as it is long
unread_from : (bs : List ℕ) → unread_of bs ≡ drop (length bs - length (unread_of bs)) bs
unfolding unread_of
unread_from [] = refl
unread_from (x ∷ body) = grind (arith, common_steps)

unread_within : (bs : List ℕ) → length (unread_of bs) ≤ length bs
unfolding unread_of
unread_within [] = omega arith
unread_within (x ∷ body) = grind (arith, common_steps)

pub reads_placed : (input : List ℕ) (start : ℕ) (rest : List ℕ) → rest ≡ unread_of (drop start input) → rest ≡ drop (length input - length rest) input
reads_placed input start rest u = grind (arith, common_steps, unread_from (drop start input))

pub reads_within : (input : List ℕ) (start : ℕ) (rest : List ℕ) → rest ≡ unread_of (drop start input) → length rest ≤ length input
reads_within input start rest u = grind (arith, common_steps, unread_within)

pub reads_ahead : (input : List ℕ) (start : ℕ) (reading : Result (Option Record) Refusal) (rest : List ℕ)
    → reading ≡ reading_of (drop start input) start → rest ≡ unread_of (drop start input) → Ahead reading (start + length rest) (length input)
reads_ahead input start (Ok (Some r)) rest e u = grind (arith, common_steps, shorter)
reads_ahead input start (Ok None) rest e u = tt
reads_ahead input start (Err why) rest e u = tt
