use Rattle.std.proofs.Common.{◌≡◌, ℕ, ◌+◌, ◌≤◌, List, length}
use Rattle.std.specs.Io.KnownBytes.{Appends}
use Rattle.std.specs.Iterator.Adapters.{zip_first, zip_second}
use Rattle.records.specs.Records.{records_from}
use Rattle.feed.specs.Records.{unread}
use Rattle.service.specs.Services.{memory_in, room_in, SameService}
use Rattle.service.specs.Feeds.{ServesFirst}
use Rattle.service.proofs.serving.Service.serve_feed.Given as goal

abbrev pub invariant-loop-number : goal.invariant-loop-number
invariant-loop-number g l = record {
  same : SameService l.fn.self l.self;
  within : (zip_first l.number-iterator).start + length (unread (zip_second l.number-iterator)) ≤ length l.fn.feed + 1;
  served : (number : ℕ) × (start : ℕ) × (lines : List ℕ)
      × ((zip_first l.number-iterator).start ≡ number + 1)
      × (unread (zip_second l.number-iterator) ≡ records_from l.fn.feed start)
      × ServesFirst l.fn.feed (room_in l.fn.self) (memory_in l.fn.self) number start lines (memory_in l.self)
      × Appends (g.W.Write.contents l.fn.out) (g.W.Write.contents l.out) lines;
}
