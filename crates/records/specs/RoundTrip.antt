-- Reading undoes writing, and writing undoes reading.
use Rattle.std.specs.Prelude.{◌≡◌, ℕ, ◌+◌, ◌-◌, ◌≤◌, List, ◌++◌, length, drop, Some, None, Option, Ok, Err, IfOk, Result}
use Rattle.report.specs.declared.Refusal.{Refusal}
use Rattle.records.specs.declared.Record.{Record}
use Rattle.records.specs.Feed.{reading_of, unread_of, Ahead}
use Rattle.records.specs.Write.{encode}

-- what a buffer holds after a write reads back as the record from the start place on, and what followed it is left
abbrev pub ReadsBack : Record → ℕ → List ℕ → Result ℕ Refusal → Type 0
ReadsBack r start buffer answer =
    IfOk answer (λ next. (reading_of (drop start buffer) start ≡ Ok (Some r)) × (unread_of (drop start buffer) ≡ drop next buffer))

-- a record that was read is written as the bytes that it was read from, which end where the rest begins
abbrev pub WritesBack : Result (Option Record) Refusal → List ℕ → List ℕ → Type 0
WritesBack (Ok (Some r)) bytes rest = bytes ≡ encode r ++ rest
WritesBack (Ok None) bytes rest = Unit {0}
WritesBack (Err why) bytes rest = Unit {0}

-- the reading of a part of a feed, and what it leaves unread; of every feed that has this part from the place on, the last three hold too
pub record ReadsPart (part : List ℕ) (place : ℕ) (reading : Result (Option Record) Refusal) (rest : List ℕ) : Type 0 where
  pub reads : reading ≡ reading_of part place
  pub leaves : rest ≡ unread_of part
  pub writes_back : WritesBack reading part rest
  pub placed : (input : List ℕ) → part ≡ drop place input → rest ≡ drop (length input - length rest) input
  pub within : (input : List ℕ) → part ≡ drop place input → length rest ≤ length input
  pub ahead : (input : List ℕ) → part ≡ drop place input → Ahead reading (place + length rest) (length input)
