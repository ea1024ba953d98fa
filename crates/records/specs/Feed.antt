-- What a feed's bytes say. A record is one byte of kind, and then a body whose length the kind fixes; numbers are big-endian.
use Rattle.std.specs.Prelude.{◌≡◌, ℕ, ◌+◌, ◌-◌, ◌*◌, ◌<◌, Bool, false, cond, List, [], ◌∷◌, length, drop, Some, None, Option, Ok, Err, Result, ◌==◌, nat_le, slice_index}
use Rattle.report.specs.declared.Refusal.{Refusal}
use Rattle.report.specs.declared.Refusal.TheVariants.{UnknownKind, CutShort}
use Rattle.records.specs.declared.Measures.{Measures}
use Rattle.records.specs.declared.Record.{Record}
use Rattle.records.specs.declared.Record.TheVariants.{Offer, Change, Withdraw, Quote, Recheck, Discard, Read}

-- how many bytes the body of a kind has; none if it is the kind of no record
abbrev pub body_length : ℕ → Option ℕ
body_length kind =
    cond (kind == 1) (Some 18)
    (cond (kind == 2) (Some 14)
    (cond (kind == 3) (Some 2)
    (cond (kind == 4) (Some 18)
    (cond (kind == 5) (Some 2)
    (cond (kind == 6) (Some 2)
    (cond (kind == 7) (Some 2)
    None))))))

-- the number of 16 bits at place i
abbrev pub number16 : List ℕ → ℕ → ℕ
number16 bytes i = slice_index bytes i * 256 + slice_index bytes (i + 1)

-- the number of 32 bits at place i
abbrev pub number32 : List ℕ → ℕ → ℕ
number32 bytes i = slice_index bytes i * 16777216 + slice_index bytes (i + 1) * 65536 + slice_index bytes (i + 2) * 256 + slice_index bytes (i + 3)

-- the three measures from place i on
abbrev pub measures_at : List ℕ → ℕ → Measures
measures_at bytes i = record { delay = number32 bytes i; price = number32 bytes (i + 4); class = number32 bytes (i + 8) }

-- the record of a known kind; the kind stands at place 0, and the body from place 1 on
unfoldable pub record_of : ℕ → List ℕ → Record
record_of kind bytes =
    cond (kind == 1) (Offer (number16 bytes 1) (number16 bytes 3) (number16 bytes 5) (measures_at bytes 7))
    (cond (kind == 2) (Change (number16 bytes 1) (measures_at bytes 3))
    (cond (kind == 3) (Withdraw (number16 bytes 1))
    (cond (kind == 4) (Quote (number16 bytes 1) (number16 bytes 3) (number16 bytes 5) (measures_at bytes 7))
    (cond (kind == 5) (Recheck (number16 bytes 1))
    (cond (kind == 6) (Discard (number16 bytes 1))
    (Read (number16 bytes 1)))))))

-- the body of a known kind is there to its end
abbrev pub whole : Option ℕ → List ℕ → Bool
whole None body = false
whole (Some n) body = nat_le n (length body)

-- why no record is read: of a body that is cut short, so many bytes are missing
abbrev pub refusal_of : Option ℕ → ℕ → ℕ → Refusal
refusal_of None present place = UnknownKind place
refusal_of (Some n) present place = CutShort place (n - present)

-- what the bytes say: nothing where there are none; the first of them, the kind, stands at the place
unfoldable pub reading_of : List ℕ → ℕ → Result (Option Record) Refusal
reading_of [] place = Ok None
reading_of (kind ∷ body) place =
    cond (whole (body_length kind) body) (Ok (Some (record_of kind (kind ∷ body)))) (Err (refusal_of (body_length kind) (length body) place))

-- what follows the body
abbrev pub after : Option ℕ → List ℕ → List ℕ
after None body = []
after (Some n) body = drop n body

-- what is left to read after the record: nothing where there is none, or where it is cut short
unfoldable pub unread_of : List ℕ → List ℕ
unread_of [] = []
unread_of (kind ∷ body) = after (body_length kind) body

-- the reading, and what it leaves unread
abbrev pub Reads : List ℕ → ℕ → Result (Option Record) Refusal → List ℕ → Type 0
Reads bytes place reading rest = (reading ≡ reading_of bytes place) × (rest ≡ unread_of bytes)

-- where a record is read, the first number is below the second
abbrev pub Ahead : Result (Option Record) Refusal → ℕ → ℕ → Type 0
Ahead (Ok (Some it)) m n = m < n
Ahead (Ok None) m n = Unit {0}
Ahead (Err why) m n = Unit {0}
