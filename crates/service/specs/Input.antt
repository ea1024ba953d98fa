-- What is read of an input, and what a program prints of it.
use Rattle.std.specs.Prelude.{◌≡◌, ℕ, ◌*◌, ◌<◌, ◌≤◌, Ok, List, length, take, replicate, Option}
use Rattle.std.specs.Io.KnownBytes.{Consumes, IsAtEnd, Appends}
use Rattle.catalogue.specs.Calls.{size_answer}
use Rattle.cards.specs.Books.{book_size_answer, opened_network, opened_book}
use Rattle.cards.specs.Runs.{Memory, memory}
use Rattle.service.specs.declared.storage.Sizes.{Sizes}
use Rattle.service.specs.declared.storage.Storage.{Storage}
use Rattle.service.specs.Serving.{TrunkValue, TrunkLimits}
use Rattle.service.specs.Services.{Room}
use Rattle.service.specs.Feeds.{LinesOf}

-- these are the next bytes of the input, so many at the most, and where they are fewer, the input is at its end
pub record TakesUpTo (room : ℕ) (was is : Option (List ℕ)) (bytes : List ℕ) : Type 0 where
  pub fit : length bytes ≤ room
  pub next : Consumes was is bytes
  pub to_its_end : length bytes < room → IsAtEnd is

-- the first n bytes of the buffer are the next of the input; what is behind them is left open
abbrev pub Fills : Option (List ℕ) → Option (List ℕ) → List ℕ → ℕ → Type 0
Fills was is buffer n = (n ≤ length buffer) × TakesUpTo (length buffer) was is (take n buffer)

-- a program of sixteen sites, thirty-two link places, eight cards and eight walks a site, which reads up to 65,536 bytes
abbrev pub small : Sizes
small = record { sites = 16; places = 32; cards = 8; walks = 8; input = 65536 }

-- a program of 256 sites, 4,096 link places, 256 cards and 64 walks a site, which reads up to 67,108,864 bytes
abbrev pub large : Sizes
large = record { sites = 256; places = 4096; cards = 256; walks = 64; input = 67108864 }

-- a catalogue and a quote book of these sizes, just opened
abbrev pub opened_day : Sizes → Memory TrunkValue TrunkLimits
opened_day s = memory (opened_network s.sites s.places) (opened_book s.sites s.cards (replicate (s.cards * s.sites) 0))

-- a label for each site and walk, and a number for each site
abbrev pub day_room : Sizes → Room
day_room s = record { k = s.walks; labels = s.sites * s.walks; numbers = s.sites }

-- the lines of the feed are printed, as it is served on this memory with so much lent to its calls
abbrev pub PrintsDay : List ℕ → Room → Memory TrunkValue TrunkLimits → Option (List ℕ) → Option (List ℕ) → Type 0
PrintsDay feed room m was is = (lines : List ℕ) × (after : Memory TrunkValue TrunkLimits) × LinesOf feed room m lines after × Appends was is lines

-- the input's first bytes, as many as are read, are a feed, and its lines are printed
abbrev pub PrintsInput : Sizes → Option (List ℕ) → Option (List ℕ) → Option (List ℕ) → Option (List ℕ) → Type 0
PrintsInput s was is printed_before printed_after =
    (feed : List ℕ) × TakesUpTo s.input was is feed × PrintsDay feed (day_room s) (opened_day s) printed_before printed_after

-- the storage has these sizes, and opening does not refuse them
pub record LentFor (s : Sizes) (lent : Storage) : Type 0 where
  pub links : length lent.links.now ≡ s.places
  pub cards : length lent.cards.now ≡ s.cards
  pub rows : length lent.rows.now ≡ s.cards * s.sites
  pub labels : length lent.labels.now ≡ s.sites * s.walks
  pub reply : length lent.reply.now ≡ s.sites
  pub input : length lent.input.now ≡ s.input
  pub allowed : size_answer s.sites s.places ≡ Ok tt
  pub allowed_book : book_size_answer s.sites s.cards (s.cards * s.sites) ≡ Ok tt
