-- The labels of routing, as a table from places to labels, and what is kept of them from turn to turn. All of this serves the proof of routing:
-- what it promises in the end is said of walks alone.
use Rattle.std.specs.Prelude.{◌≡◌, ℕ, ◌+◌, ◌*◌, ◌<◌, ◌≤◌, Bool, true, false, not, cond, ◌&&◌, ◌⊎◌, List, [], ◌∷◌, ◌++◌, Option, MatchOption, ◌≢◌, slice_index_or}
use Rattle.measure.specs.Kind.{Kind}
use Rattle.measure.specs.Ranks.{Fit, ranks}
use Rattle.catalogue.specs.declared.Link.{Link}
use Rattle.catalogue.specs.Walks.{Holds, extend, Goes, Stops, Simple}
use Rattle.catalogue.specs.Routes.{First}
use Rattle.labels.specs.declared.State.{State}
use Rattle.labels.specs.declared.State.TheVariants.{Free, Queued, Settled}
use Rattle.labels.specs.declared.Label.{Label}
use Rattle.labels.specs.declared.Slot.{Slot}

-- a label that is queued or settled
abbrev pub is_held : State → Bool
is_held Free = false
is_held Queued = true
is_held Settled = true

-- a label that waits to be settled
abbrev pub is_queued : State → Bool
is_queued Free = false
is_queued Queued = true
is_queued Settled = false

-- a label that was settled, for good
abbrev pub is_settled : State → Bool
is_settled Free = false
is_settled Queued = false
is_settled Settled = true

-- the place p is one of the k places of the site s
abbrev pub In : ℕ → ℕ → ℕ → Type 0
In k s p = (s * k ≤ p) × (p < s * k + k)

-- a label at a free place, of which a workspace can be made
abbrev pub blank : {V L : Type 0} → Kind V L → Label V
blank K = record { state = Free; value = K.empty; previous = 0; link = 0 }

-- a free place, with nothing noted
abbrev pub blank_slot : {V L : Type 0} → Kind V L → Slot V
blank_slot K = record { label = blank K; share = record { top = 0; bottom = 1 }; winner = 0; best = 0; used = 0; first = 0; next = 0 }

-- the places of a workspace; one past the end is free
abbrev pub slot : {V L : Type 0} → Kind V L → List (Slot V) → ℕ → Slot V
slot K xs p = slice_index_or xs p (blank_slot K)

-- the labels by place; a place past the end is free
abbrev pub table : {V L : Type 0} → Kind V L → List (Slot V) → ℕ → Label V
table K xs p = (slot K xs p).label

module _ {V : Type 0} (A : ℕ → Label V) where
  -- the label at p is held
  abbrev pub Held : ℕ → Type 0
  Held p = is_held (A p).state ≡ true

  -- the label at p is queued
  abbrev pub Waits : ℕ → Type 0
  Waits p = is_queued (A p).state ≡ true

  -- the label at p is settled
  abbrev pub Done : ℕ → Type 0
  Done p = is_settled (A p).state ≡ true

-- none of the places is at the site t
abbrev pub Off : ℕ → ℕ → List ℕ → Type 0
Off k t [] = Unit {0}
Off k t (q ∷ qs) = (In k t q → ⊥) × Off k t qs

module _ {V L : Type 0} (K : Kind V L) (Lead : ℕ → ℕ → ℕ → V → Type 0) (k src : ℕ) where
  -- the label at p extends the label at q by the link that it names
  pub record Extends (A : ℕ → Label V) (q p : ℕ) : Type 0 where
    pub from : ℕ
    pub to : ℕ
    pub value : V
    pub in_from : In k from q
    pub in_to : In k to p
    pub leads : Lead (A p).link from to value
    pub joined : (A p).value ≡ extend K (A q).value value

  -- the places qs are those before p on its walk, the last first: each is settled, and no two are of one site
  abbrev pub Chain : (ℕ → Label V) → List ℕ → ℕ → Type 0
  Chain A [] p = In k src p × ((A p).value ≡ K.empty) × ((A p).previous ≡ p)
  Chain A (q ∷ qs) p = ((A p).previous ≡ q) × Done A q × Extends A q p × ((t : ℕ) → In k t p → Off k t (q ∷ qs)) × Chain A qs q

  -- the links of that walk
  abbrev pub path : (ℕ → Label V) → List ℕ → ℕ → List ℕ
  path A [] p = []
  path A (q ∷ qs) p = path A qs q ++ ((A p).link ∷ [])

-- a label queued at the site t ranks no later than w
abbrev pub Beaten : {V L : Type 0} → Kind V L → L → ℕ → (ℕ → Label V) → ℕ → V → Type 0
Beaten K l k A t w = (q : ℕ) × In k t q × Waits A q × (ranks K l w (A q).value ≡ false)

module _ {V L : Type 0} (K : Kind V L) (l : L) (Lead : ℕ → ℕ → ℕ → V → Type 0) (k src dst : ℕ) where
  -- some label held at t dominates w
  abbrev pub Has : (ℕ → Label V) → ℕ → V → Type 0
  Has A t w = (p : ℕ) × In k t p × Held A p × (K.dominates (A p).value w ≡ true)

  -- some label held at t dominates w, or one queued at the destination ranks no later
  abbrev pub Met : (ℕ → Label V) → ℕ → V → Type 0
  Met A t w = Has A t w ⊎ Beaten K l k A dst w

  -- what is kept of the labels from turn to turn
  pub record Kept (A : ℕ → Label V) : Type 0 where
    pub fit : (p : ℕ) → Held A p → Fit K l (A p).value
    pub ordered : (p q : ℕ) → Done A p → Waits A q → ranks K l (A q).value (A p).value ≡ false
    pub apart : (s p q : ℕ) → In k s p → In k s q → Held A p → Held A q → (p ≢ q) → K.dominates (A p).value (A q).value ≡ false
    pub chained : (p : ℕ) → Held A p → (qs : List ℕ) × Chain K Lead k src A qs p
    pub start : Has A src K.empty
    pub ahead : (p : ℕ) → In k dst p → Done A p → ⊥

  -- what the settled labels reach by a link is dominated by what is held there, or ranks no earlier than what is queued at the destination;
  -- of the label at h, by the links below the place i
  abbrev pub Spread : (ℕ → Label V) → ℕ → ℕ → Type 0
  Spread A h i = (p s j t : ℕ) (c : V) → Done A p → In k s p → Lead j s t c → (p ≡ h → j < i) → K.within (extend K (A p).value c) l ≡ true → Met A t (extend K (A p).value c)

  -- the same for every settled label and every link
  abbrev pub SpreadAll : (ℕ → Label V) → Type 0
  SpreadAll A = (p s j t : ℕ) (c : V) → Done A p → In k s p → Lead j s t c → K.within (extend K (A p).value c) l ≡ true → Met A t (extend K (A p).value c)

  -- no settled label ranks after the one at h
  abbrev pub Last : (ℕ → Label V) → ℕ → Type 0
  Last A h = (p : ℕ) → Done A p → ranks K l (A h).value (A p).value ≡ false

-- B is A with the label at h settled
pub record Settles {V : Type 0} (A B : ℕ → Label V) (h : ℕ) : Type 0 where
  pub here : B h ≡ record { state = Settled; value = (A h).value; previous = (A h).previous; link = (A h).link }
  pub other : (p : ℕ) → (p ≢ h) → B p ≡ A p

-- C is A with the queued label y put at x, from `start` on and below `end`, where queued labels that y dominates have given up their places
pub record Adds {V L : Type 0} (K : Kind V L) (A C : ℕ → Label V) (start end x : ℕ) (y : Label V) : Type 0 where
  pub inside : (start ≤ x) × (x < end)
  pub new : C x ≡ y
  pub free : (Done A x → ⊥)
  pub gone : Held A x → K.dominates y.value (A x).value ≡ true
  pub other : (p : ℕ) → (p ≢ x) → (C p ≡ A p) ⊎ ((K.dominates y.value (A p).value ≡ true) × ((start ≤ p) × (p < end)) × Waits A p × (is_held (C p).state ≡ false))
  pub left : (p : ℕ) → (p ≢ x) → (start ≤ p) × (p < end) → Waits C p → K.dominates y.value (C p).value ≡ false

module _ {V L : Type 0} (K : Kind V L) (l : L) (A : ℕ → Label V) where
  -- what every held label is
  abbrev pub Fits : Type 0
  Fits = (p : ℕ) → Held A p → Fit K l (A p).value

  -- the queued label at b ranks first among those below i
  pub record Leader (i b : ℕ) : Type 0 where
    pub low : b < i
    pub waits : Waits A b
    pub first : (q : ℕ) → q < i → Waits A q → ranks K l (A q).value (A b).value ≡ false

  -- r is the queued label of first rank among those below i
  abbrev pub FirstBelow : ℕ → Option ℕ → Type 0
  FirstBelow i r = MatchOption r ((q : ℕ) → q < i → Waits A q → ⊥) (Leader i)

-- the label at x is held, and its value dominates v
abbrev pub covers : {V L : Type 0} → Kind V L → V → Slot V → Bool
covers K v x = is_held x.label.state && K.dominates x.label.value v

-- the place x is free
abbrev pub is_free : {V : Type 0} → Slot V → Bool
is_free x = not (is_held x.label.state)

-- the label at x gives up its place to a newcomer of the value n
abbrev pub yields : {V L : Type 0} → Kind V L → V → Slot V → Bool
yields K n x = is_queued x.label.state && K.dominates n x.label.value

-- the place with another label
abbrev pub relabelled : {V : Type 0} → Slot V → Label V → Slot V
relabelled x y = record { label = y; share = x.share; winner = x.winner; best = x.best; used = x.used; first = x.first; next = x.next }

-- the place with its label given up
abbrev pub freed : {V : Type 0} → Slot V → Slot V
freed x = relabelled x (record { state = Free; value = x.label.value; previous = x.label.previous; link = x.label.link })

-- the place after a newcomer of the value n has come to its site
abbrev pub cleared : {V L : Type 0} → Kind V L → V → Slot V → Slot V
cleared K n x = cond (yields K n x) (freed x) x

-- the queued labels of the site t that a newcomer of the value v dominates have given up their places, and all else is as it was, but for how
-- many of a site's places are used
pub record Swept {V L : Type 0} (K : Kind V L) (W X : ℕ → Slot V) (k t : ℕ) (v : V) : Type 0 where
  pub here : (p : ℕ) → In k t p → (X p).label ≡ (cleared K v (W p)).label
  pub other : (p : ℕ) → (In k t p → ⊥) → (X p).label ≡ (W p).label
  pub shares : (p : ℕ) → (X p).share ≡ (W p).share
  pub winners : (p : ℕ) → ((X p).winner ≡ (W p).winner) × ((X p).best ≡ (W p).best)
  pub links : (p : ℕ) → ((X p).first ≡ (W p).first) × ((X p).next ≡ (W p).next)

-- the same labels are settled in A and in B
abbrev pub Steady : {V : Type 0} (A B : ℕ → Label V) → Type 0
Steady A B = (p : ℕ) → is_settled (B p).state ≡ is_settled (A p).state

module _ {V L : Type 0} (K : Kind V L) (l : L) (cat : List (Option (Link V))) where
  -- the link at i takes the label at h, at the site, to the site t with the value n
  pub record Offered (A : ℕ → Label V) (h site i t : ℕ) (n : V) : Type 0 where
    pub value : V
    pub leads : Holds cat i site t value
    pub joined : n ≡ extend K (A h).value value
    pub within : K.within n l ≡ true

  -- the link at i takes it nowhere within the limit
  abbrev pub OffersNone : (ℕ → Label V) → ℕ → ℕ → ℕ → Type 0
  OffersNone A h site i = (t : ℕ) (c : V) → Holds cat i site t c → K.within (extend K (A h).value c) l ≡ false

module _ {V L : Type 0} (K : Kind V L) (l : L) (cat : List (Option (Link V))) (k src dst : ℕ) where
  -- the label at h, of the site, is settled last, and extended by the links below i
  pub record Opens (A : ℕ → Label V) (h site i : ℕ) : Type 0 where
    pub kept : Kept K l (Holds cat) k src dst A
    pub done : Done A h
    pub last : Last K l (Holds cat) k src dst A h
    pub at : In k site h
    pub spread : Spread K l (Holds cat) k src dst A h i

  -- every settled label is extended by every link
  pub record Rests (A : ℕ → Label V) : Type 0 where
    pub kept : Kept K l (Holds cat) k src dst A
    pub spread : SpreadAll K l (Holds cat) k src dst A

  -- the queued label at p is at the destination, and no walk there ranks before its own
  pub record Wins (A : ℕ → Label V) (p : ℕ) : Type 0 where
    pub rests : Rests A
    pub at : In k dst p
    pub waits : Waits A p
    pub first : First K l (Holds cat) src dst (A p).value

-- no label below n is held
abbrev pub Frees : {V : Type 0} → (ℕ → Label V) → ℕ → Type 0
Frees A n = (p : ℕ) → p < n → is_held (A p).state ≡ false

-- one label is held, at x: queued, with the empty value
pub record Starts {V L : Type 0} (K : Kind V L) (A : ℕ → Label V) (x : ℕ) : Type 0 where
  pub here : A x ≡ record { state = Queued; value = K.empty; previous = x; link = 0 }
  pub other : (p : ℕ) → (p ≢ x) → is_held (A p).state ≡ false

-- the walk from s along `rest` comes by the site of none of the places
abbrev pub Avoids : {V : Type 0} → (ℕ → ℕ → ℕ → V → Type 0) → ℕ → ℕ → List ℕ → List ℕ → Type 0
Avoids Lead k s rest [] = Unit {0}
Avoids Lead k s rest (q ∷ qs) = ((u : ℕ) → In k u q → Stops Lead s rest u → ⊥) × Avoids Lead k s rest qs

-- the links in `rest` lead from the site of the label at q, with its value, to the destination with the value w,
-- and by no site twice, nor by a site of the labels before q
pub record Traced {V L : Type 0} (K : Kind V L) (cat : List (Option (Link V))) (k src dst : ℕ) (A : ℕ → Label V) (w : V) (q : ℕ) (rest : List ℕ) : Type 0 where
  pub held : Held A q
  pub site : ℕ
  pub at : In k site q
  pub goes : Goes K (Holds cat) site (A q).value rest dst w
  pub before : List ℕ
  pub chain : Chain K (Holds cat) k src A before q
  pub simple : Simple (Holds cat) site rest
  pub avoids : Avoids (Holds cat) k site rest before
