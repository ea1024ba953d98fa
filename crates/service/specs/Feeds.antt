-- What is printed of a feed.
use Rattle.std.specs.Prelude.{◌≡◌, ℕ, ◌+◌, ◌-◌, Ok, Err, IfOk, Result, List, [], ◌++◌, length, take, drop, Some, None, Option}
use Rattle.std.specs.Io.KnownBytes.{Appends}
use Rattle.records.specs.declared.Record.{Record}
use Rattle.records.specs.Feed.{reading_of, unread_of}
use Rattle.report.specs.declared.Refusal.{Refusal}
use Rattle.cards.specs.Runs.{Reply, Memory, Lent}
use Rattle.line.specs.declared.Reply.TheVariants as LineVariants
use Rattle.line.specs.Lines.{line_of}
use Rattle.service.specs.Services.{Room, Lends}
use Rattle.service.specs.Serving.{TrunkValue, TrunkLimits, Served, printed}

-- the line of a reply: a route's legs are the first of the numbers that were lent for it
abbrev pub line_for : ℕ → Reply TrunkValue → List ℕ → List ℕ
line_for number reply numbers = line_of number (printed reply).0 (take (printed reply).1 numbers)

-- the record is served, whatever becomes of its line; where the writer failed, nothing is known of what it holds
abbrev pub PrintsRecord : {E : Type 0} → Memory TrunkValue TrunkLimits → Lent TrunkValue → ℕ → Record → ℕ → Option (List ℕ) → Option (List ℕ) → Memory TrunkValue TrunkLimits → Lent TrunkValue → Result (Unit {0}) E → Type 0
PrintsRecord m l number r k was is m' l' answer =
    (reply : Reply TrunkValue) × Served m l r k reply m' l' × IfOk answer (λ done. Appends was is (line_for number reply l'.reply))

-- The next record of the feed, which begins at the place, was served with so much lent to its call: its line, and the memory after it. It
-- comes after so many others.
pub record ServesNext (feed : List ℕ) (room : Room) (number start : ℕ) (before : Memory TrunkValue TrunkLimits) (line : List ℕ) (after : Memory TrunkValue TrunkLimits) : Type 0 where
  pub it : Record
  pub reply : Reply TrunkValue
  pub brought : Lent TrunkValue
  pub left : Lent TrunkValue
  pub reads : reading_of (drop start feed) start ≡ Ok (Some it)
  pub lends : Lends room brought
  pub serves : Served before brought it room.k reply after left
  pub prints : line ≡ line_for (number + 1) reply left.reply

-- what begins at the place cannot be read, and this is its line
pub record Unreadable (feed : List ℕ) (number start : ℕ) (line : List ℕ) : Type 0 where
  pub why : Refusal
  pub reads : reading_of (drop start feed) start ≡ Err why
  pub prints : line ≡ line_of (number + 1) (LineVariants.Refused why) []

-- So many records of the feed were served, one after the other: where the next one starts, the lines of those that were served, and the
-- memory after them.
pub data ServesFirst (feed : List ℕ) (room : Room) (m : Memory TrunkValue TrunkLimits) : ℕ → ℕ → List ℕ → Memory TrunkValue TrunkLimits → Type 0 where
  none_served : ServesFirst feed room m 0 0 [] m
  one_served : {number start : ℕ} {lines line : List ℕ} {before after : Memory TrunkValue TrunkLimits} →
      ServesFirst feed room m number start lines before → ServesNext feed room number start before line after →
      ServesFirst feed room m (number + 1) (length feed - length (unread_of (drop start feed))) (lines ++ line) after

-- The lines of a whole feed, and the memory after it: it ends with its last record, or with the line of one that cannot be read.
pub data LinesOf (feed : List ℕ) (room : Room) (m : Memory TrunkValue TrunkLimits) : List ℕ → Memory TrunkValue TrunkLimits → Type 0 where
  at_its_end : {number start : ℕ} {lines : List ℕ} {after : Memory TrunkValue TrunkLimits} →
      ServesFirst feed room m number start lines after → reading_of (drop start feed) start ≡ Ok None → LinesOf feed room m lines after
  unreadable : {number start : ℕ} {lines line : List ℕ} {after : Memory TrunkValue TrunkLimits} →
      ServesFirst feed room m number start lines after → Unreadable feed number start line → LinesOf feed room m (lines ++ line) after

-- The feed broke off, and this is the memory after it: at the line of a record that was served, or at that of what cannot be read.
pub data BreaksOff (feed : List ℕ) (room : Room) (m : Memory TrunkValue TrunkLimits) : Memory TrunkValue TrunkLimits → Type 0 where
  at_a_record : {number start : ℕ} {lines line : List ℕ} {before after : Memory TrunkValue TrunkLimits} →
      ServesFirst feed room m number start lines before → ServesNext feed room number start before line after → BreaksOff feed room m after
  at_unreadable : {number start : ℕ} {lines line : List ℕ} {after : Memory TrunkValue TrunkLimits} →
      ServesFirst feed room m number start lines after → Unreadable feed number start line → BreaksOff feed room m after

-- the lines of the feed are written behind what was written before; or it broke off, since the writer failed, and nothing is known of what
-- that holds
abbrev pub PrintsFeed : {E : Type 0} → List ℕ → Room → Memory TrunkValue TrunkLimits → Option (List ℕ) → Option (List ℕ) → Memory TrunkValue TrunkLimits → Result (Unit {0}) E → Type 0
PrintsFeed feed room m was is m' (Ok done) = (lines : List ℕ) × LinesOf feed room m lines m' × Appends was is lines
PrintsFeed feed room m was is m' (Err error) = BreaksOff feed room m m'
