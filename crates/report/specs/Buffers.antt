-- Bytes put into a buffer, from a start place on.
use Rattle.std.specs.Prelude.{◌≡◌, ℕ, ◌+◌, ◌<◌, ◌≤◌, List, ◌++◌, length, take, drop, Ok, Err, Result}
use Rattle.report.specs.declared.Refusal.{Refusal}
use Rattle.report.specs.declared.Refusal.TheVariants.{BufferTooShort}

-- the bytes stand from the start place on and all else is as it was, and the answer is the place after them; where they do not fit, nothing is changed
abbrev pub Put : List ℕ → ℕ → List ℕ → List ℕ → Result ℕ Refusal → Type 0
Put bytes start was is (Ok next) = (next ≡ start + length bytes) × (next ≤ length was) × (is ≡ take start was ++ (bytes ++ drop next was))
Put bytes start was is (Err why) = (why ≡ BufferTooShort) × (length was < start + length bytes) × (is ≡ was)
