-- What a service holds, and what it lends to the calls that it carries out.
use Rattle.std.specs.Prelude.{◌≡◌, ℕ, List, length}
use Rattle.labels.specs.declared.Slot.{Slot}
use Rattle.measure.specs.Products.{trunk_kind}
use Rattle.cards.specs.declared.Call.{Call}
use Rattle.cards.specs.Runs.{Reply, Memory, Lent, lent, Outcome}
use Rattle.routing.specs.Lent.{labels_of, SameWorkspace}
use Rattle.catalogue.specs.Keeping.{SameLinks}
use Rattle.book.specs.Stores.{memory_of, SamePlaces}
use Rattle.service.specs.Serving.{TrunkValue, TrunkLimits}
use Rattle.service.specs.declared.serving.Service.{Service}

-- what the catalogue and the quote book hold
abbrev pub memory_in : Service → Memory TrunkValue TrunkLimits
memory_in s = memory_of s.catalogue.now s.book.now

-- what is lent to a call
abbrev pub lent_by : Service → Lent TrunkValue
lent_by s = lent (labels_of s.workspace.now) s.reply.now

-- How much is lent to each call: how many labels a site, and how many labels and numbers in all.
pub record Room : Type 0 where
  pub k : ℕ
  pub labels : ℕ
  pub numbers : ℕ

-- the room of these labels and numbers, with k labels a site
abbrev pub room_of : ℕ → List (Slot TrunkValue) → List ℕ → Room
room_of k labels numbers = record { k = k; labels = length labels; numbers = length numbers }

-- this much was lent
pub record Lends (room : Room) (l : Lent TrunkValue) : Type 0 where
  pub labels : length l.labels ≡ room.labels
  pub numbers : length l.reply ≡ room.numbers

-- how much a service lends to each call
abbrev pub room_in : Service → Room
room_in s = room_of s.k (labels_of s.workspace.now) s.reply.now

-- a call of a service had this full outcome
abbrev pub Performed : Service → Call TrunkValue TrunkLimits → Reply TrunkValue → Service → Type 0
Performed s call reply s' = Outcome trunk_kind (memory_in s) (lent_by s) call reply (memory_in s') (lent_by s')

-- a service has the same memory as before, whatever it holds, and lends as much of it
pub record SameService (s s' : Service) : Type 0 where
  pub catalogue : s'.catalogue.ghost_name ≡ s.catalogue.ghost_name
  pub book : s'.book.ghost_name ≡ s.book.ghost_name
  pub links : SameLinks s.catalogue.now s'.catalogue.now
  pub places : SamePlaces s.book.now s'.book.now
  pub workspace : s'.workspace.ghost_name ≡ s.workspace.ghost_name
  pub labels : SameWorkspace s.workspace.now s'.workspace.now
  pub reply : s'.reply.ghost_name ≡ s.reply.ghost_name
  pub room : room_in s' ≡ room_in s
