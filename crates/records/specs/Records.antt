-- A feed's records in order.
use Rattle.std.specs.Prelude.{ℕ, zero, suc, ◌-◌, List, [], ◌∷◌, length, drop, Some, None, Option, Ok, Err, Result}
use Rattle.report.specs.declared.Refusal.{Refusal}
use Rattle.records.specs.declared.Record.{Record}
use Rattle.records.specs.Feed.{reading_of, unread_of}

-- what comes of a reading: a record and then the others, or nothing more at the feed's end, or the refusal as the last
abbrev pub come : Result (Option Record) Refusal → List (Result Record Refusal) → List (Result Record Refusal)
come (Ok (Some it)) others = Ok it ∷ others
come (Ok None) others = []
come (Err why) others = Err why ∷ []

-- the place where the record after the one at the start place begins
abbrev pub next_place : List ℕ → ℕ → ℕ
next_place feed start = length feed - length (unread_of (drop start feed))

-- what comes of so many readings, of which the first is at the start place
unfoldable pub come_first : ℕ → List ℕ → ℕ → List (Result Record Refusal)
come_first zero feed start = []
come_first (suc n) feed start = come (reading_of (drop start feed) start) (come_first n feed (next_place feed start))

-- the feed's records from the start place on, in order, and last the refusal of what cannot be read; there are no more than bytes
unfoldable pub records_from : List ℕ → ℕ → List (Result Record Refusal)
records_from feed start = come_first (length feed - start) feed start
