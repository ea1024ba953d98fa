-- What a catalogue holds, and in whose memory.
use Rattle.std.specs.Prelude.{◌≡◌, ℕ, List, Option}
use Rattle.catalogue.specs.declared.Catalogue.{Catalogue}
use Rattle.catalogue.specs.declared.Link.{Link}

-- how many sites it has
abbrev pub sites_of : {V L : Type 0} {g : _} → Catalogue V L g → ℕ
sites_of c = c.sites

-- the links by place
abbrev pub links_of : {V L : Type 0} {g : _} → Catalogue V L g → List (Option (Link V))
links_of c = c.links.now

-- the memory that was lent for the places, by the name of the borrow: its lender reads there what they hold in the end
abbrev pub links_lent : {V L : Type 0} {g : _} → Catalogue V L g → ℕ
links_lent c = c.links.ghost_name

-- the places are the same memory as before, whatever they hold
abbrev pub SameLinks : {V L : Type 0} {g : _} → Catalogue V L g → Catalogue V L g → Type 0
SameLinks was is = links_lent is ≡ links_lent was

-- as many sites as before, and the same memory
pub record Keeps {V L : Type 0} {g : _} (was is : Catalogue V L g) : Type 0 where
  pub sites : sites_of is ≡ sites_of was
  pub same : SameLinks was is
