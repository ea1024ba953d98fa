-- Which queued label ranks first, kept by two kinds of notes: each site names the best place of its own, and a tournament between the n
-- sites names the best place of all. Its tree has the nodes 1 to 2 n - 1: the node j has the children 2 j and 2 j + 1, the node n + s is the
-- leaf of the site s, and an inner node names the better of the places that its children name. All of this serves the proof of routing.
use Rattle.std.specs.Prelude.{◌≡◌, ℕ, zero, suc, ◌+◌, ◌-◌, ◌*◌, ◌/◌, ◌<◌, ◌≤◌, false, cond, ◌⊎◌, nat_lt}
use Rattle.measure.specs.Kind.{Kind}
use Rattle.measure.specs.Ranks.{ranks}
use Rattle.labels.specs.declared.Label.{Label}
use Rattle.labels.specs.declared.Slot.{Slot}
use Rattle.labels.specs.Labels.{is_held, In, Held, Waits, Fits, Adds}

-- the place that the node j names
abbrev pub named : {V : Type 0} → (ℕ → Slot V) → ℕ → ℕ → ℕ
named W n j = cond (nat_lt j n) (W j).winner (W (j - n)).best

-- the node m levels above j
abbrev pub above : ℕ → ℕ → ℕ
above zero j = j
above (suc m) j = above m j / 2

-- i is a node above j
abbrev pub Above : ℕ → ℕ → Type 0
Above i j = (m : ℕ) × (above (suc m) j ≡ i)

module _ {V L : Type 0} (K : Kind V L) (l : L) (A : ℕ → Label V) where
  -- no queued label at b ranks before the one at a, which is queued if that is
  abbrev pub Precedes : ℕ → ℕ → Type 0
  Precedes a b = Waits A b → Waits A a × (ranks K l (A b).value (A a).value ≡ false)

  -- r is the better of the places a and b
  pub record Better (a b r : ℕ) : Type 0 where
    pub one : (r ≡ a) ⊎ (r ≡ b)
    pub left : Precedes r a
    pub right : Precedes r b

  -- b is the best place of the site s
  pub record SiteBest (k s b : ℕ) : Type 0 where
    pub at : In k s b
    pub first : (q : ℕ) → In k s q → Precedes b q

  -- every inner node names the better of the places that its children name
  abbrev pub Crowned : (ℕ → Slot V) → ℕ → Type 0
  Crowned W n = (i : ℕ) → 1 ≤ i → i < n → Better (named W n (2 * i)) (named W n (2 * i + 1)) (W i).winner

  -- so does every inner node that is not above j
  abbrev pub CrownedBut : (ℕ → Slot V) → ℕ → ℕ → Type 0
  CrownedBut W n j = (i : ℕ) → 1 ≤ i → i < n → (Above i j → ⊥) → Better (named W n (2 * i)) (named W n (2 * i + 1)) (W i).winner

  -- the share of every held label is its value's ratio
  abbrev pub Shares : (ℕ → Slot V) → Type 0
  Shares W = (p : ℕ) → Held A p → (W p).share ≡ K.ratio (A p).value l

-- every place past a site's first `used` ones is free
pub record Unused {V : Type 0} (A : ℕ → Label V) (W : ℕ → Slot V) (k n : ℕ) : Type 0 where
  pub low : (s : ℕ) → s < n → (W s).used ≤ k
  pub free : (s q : ℕ) → s < n → s * k + (W s).used ≤ q → q < s * k + k → is_held (A q).state ≡ false

-- every inner node names a place
abbrev pub Inside : {V : Type 0} → (ℕ → Slot V) → ℕ → ℕ → Type 0
Inside W k n = (i : ℕ) → 1 ≤ i → i < n → (W i).winner < n * k

module _ {V L : Type 0} (K : Kind V L) (l : L) (A : ℕ → Label V) (W : ℕ → Slot V) (k n : ℕ) where
  -- what the notes say of each place by itself
  pub record Grounds : Type 0 where
    pub unused : Unused A W k n
    pub inside : Inside W k n
    pub shares : Shares K l A W

  -- the notes are right for the labels A
  pub record Noted : Type 0 where
    pub grounds : Grounds
    pub bests : (s : ℕ) → s < n → SiteBest K l A k s (W s).best
    pub crowned : Crowned K l A W n

  -- the notes are right but for what follows from the labels of the site t
  pub record NotedBut (t : ℕ) : Type 0 where
    pub grounds : Grounds
    pub bests : (s : ℕ) → s < n → (s ≡ t → ⊥) → SiteBest K l A k s (W s).best
    pub crowned : CrownedBut K l A W n (n + t)

  -- the notes are right but for the nodes above j
  pub record NotedUnder (j : ℕ) : Type 0 where
    pub grounds : Grounds
    pub bests : (s : ℕ) → s < n → SiteBest K l A k s (W s).best
    pub crowned : CrownedBut K l A W n j

module _ {V : Type 0} (W X : ℕ → Slot V) where
  -- the same labels and shares
  abbrev pub SameLabels : Type 0
  SameLabels = (p : ℕ) → ((X p).label ≡ (W p).label) × ((X p).share ≡ (W p).share)

  -- the same winners and best places
  abbrev pub SameWinners : Type 0
  SameWinners = (p : ℕ) → ((X p).winner ≡ (W p).winner) × ((X p).best ≡ (W p).best)

  -- as many places of each site used
  abbrev pub SameUsed : Type 0
  SameUsed = (p : ℕ) → (X p).used ≡ (W p).used

  -- the same lists of links
  abbrev pub SameLists : Type 0
  SameLists = (p : ℕ) → ((X p).first ≡ (W p).first) × ((X p).next ≡ (W p).next)

-- a queued label came to the place x of the site t, and the notes are right for the labels before
pub record Entered {V L : Type 0} (K : Kind V L) (l : L) (C : ℕ → Label V) (X : ℕ → Slot V) (k n t x : ℕ) : Type 0 where
  pub before : ℕ → Label V
  pub notes : ℕ → Slot V
  pub fits : Fits K l before
  pub noted : Noted K l before notes k n
  pub adds : Adds K before C (t * k) (t * k + k) x (C x)
  pub waits : Waits C x
  pub winners : SameWinners notes X
  pub grounds : Grounds K l C X k n

-- a label is put at the place x with its share; all else stays
pub record Wrote {V L : Type 0} (K : Kind V L) (l : L) (X Y : ℕ → Slot V) (x : ℕ) (y : Label V) : Type 0 where
  pub here : (Y x).label ≡ y
  pub share : (Y x).share ≡ K.ratio y.value l
  pub other : (p : ℕ) → (p ≡ x → ⊥) → ((Y p).label ≡ (X p).label) × ((Y p).share ≡ (X p).share)
  pub winners : SameWinners X Y
  pub used : SameUsed X Y
  pub links : SameLists X Y
