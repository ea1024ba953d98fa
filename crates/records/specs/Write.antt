-- A record's bytes.
use Rattle.std.specs.Prelude.{ℕ, ◌/◌, ◌%◌, ◌^◌, ◌<◌, List, [], ◌∷◌, ◌++◌}
use Rattle.records.specs.declared.Measures.{Measures}
use Rattle.records.specs.declared.Record.{Record}
use Rattle.records.specs.declared.Record.TheVariants.{Offer, Change, Withdraw, Quote, Recheck, Discard, Read}

-- the bytes of a number of 16 bits
abbrev pub bytes16 : ℕ → List ℕ
bytes16 n = (n / 256 % 256) ∷ (n % 256) ∷ []

-- the bytes of a number of 32 bits
abbrev pub bytes32 : ℕ → List ℕ
bytes32 n = (n / 16777216 % 256) ∷ (n / 65536 % 256) ∷ (n / 256 % 256) ∷ (n % 256) ∷ []

-- the bytes of the three measures
abbrev pub measures_bytes : Measures → List ℕ
measures_bytes m = bytes32 m.delay ++ (bytes32 m.price ++ bytes32 m.class)

-- the bytes of a record: its kind, then its body
abbrev pub encode : Record → List ℕ
encode (Offer link start end m) = 1 ∷ (bytes16 link ++ (bytes16 start ++ (bytes16 end ++ measures_bytes m)))
encode (Change link m) = 2 ∷ (bytes16 link ++ measures_bytes m)
encode (Withdraw link) = 3 ∷ bytes16 link
encode (Quote card source destination limits) = 4 ∷ (bytes16 card ++ (bytes16 source ++ (bytes16 destination ++ measures_bytes limits)))
encode (Recheck card) = 5 ∷ bytes16 card
encode (Discard card) = 6 ∷ bytes16 card
encode (Read card) = 7 ∷ bytes16 card

-- a record's numbers fit their widths, as those of a record that a program holds do
abbrev pub FitMeasures : Measures → Type 0
FitMeasures m = (m.delay < 2 ^ 32) × (m.price < 2 ^ 32) × (m.class < 2 ^ 32)

-- the numbers of a record fit their widths
abbrev pub Fit : Record → Type 0
Fit (Offer link start end m) = (link < 2 ^ 16) × (start < 2 ^ 16) × (end < 2 ^ 16) × FitMeasures m
Fit (Change link m) = (link < 2 ^ 16) × FitMeasures m
Fit (Withdraw link) = link < 2 ^ 16
Fit (Quote card source destination limits) = (card < 2 ^ 16) × (source < 2 ^ 16) × (destination < 2 ^ 16) × FitMeasures limits
Fit (Recheck card) = card < 2 ^ 16
Fit (Discard card) = card < 2 ^ 16
Fit (Read card) = card < 2 ^ 16
