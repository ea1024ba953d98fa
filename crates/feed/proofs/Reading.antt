-- What a reading of a feed gives, and where the next begins.
use Rattle.std.proofs.Common.{◌≡◌, ◌-◌, length, drop, Some, None, Option, Result, refl, ap, arith}
use Rattle.std.specs.Iterator.{YieldsFirst, MakesProgress, item_count}
use Rattle.std.specs.Result.{result_transpose}
use Rattle.std.specs.declared.iter.Iterator.{can_next-default}
use Rattle.report.specs.declared.Refusal.{Refusal}
use Rattle.records.specs.declared.Record.{Record}
use Rattle.records.specs.Feed.{reading_of, unread_of}
use Rattle.records.proofs.Records.{comes_first}
use Rattle.feed.specs.declared.Records.{Records}
use Rattle.feed.specs.Records.{unread}

-- where an item came first, fewer are left
fewer : (was is : Records) (item : Option (Result Record Refusal)) → YieldsFirst unread was item is → MakesProgress (λ _. Unit {0}) (item_count unread) was item is
fewer was is None h = record { on = λ _. tt; keeps = tt; rests = λ _. tt }
fewer was is (Some it) h = record { on = λ _. (tt, tt, omega (arith, ap length h)); keeps = tt; rests = λ _. tt }

-- the reading at the start place comes first, and the next begins where what that left unread does
module _ (was is : Records) (item : Option (Result Record Refusal)) where
  pub comes : item ≡ result_transpose (reading_of (drop was.start was.feed.now) was.start) → is.feed.now ≡ was.feed.now
      → is.start ≡ length was.feed.now - length (unread_of (drop was.start was.feed.now)) → YieldsFirst unread was item is
  comes e same n = rw same (comes_first was.feed.now was.start is.start refl refl e n)

  pub goes : item ≡ result_transpose (reading_of (drop was.start was.feed.now) was.start) → is.feed.now ≡ was.feed.now
      → is.start ≡ length was.feed.now - length (unread_of (drop was.start was.feed.now)) → MakesProgress (can_next-default Records (Result Record Refusal)) (item_count unread) was item is
  goes e same n = fewer was is item (comes e same n)

pub ruleset nexts = (comes, goes)
