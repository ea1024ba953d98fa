-- The nodes of the tournament: what lies above what, and which places they name.
use Rattle.std.proofs.Common.{mul-le-mul_right, ◌≡◌, ℕ, zero, suc, ◌+◌, ◌-◌, ◌*◌, ◌/◌, ◌<◌, ◌≤◌, ltb, cond, refl, sym, ap, ap₂, ◌∙◌, ⊎_elim, mul-le-mul_right, mul_comm, suc-mul, mod-lt, div-add-mod', arith}
use Rattle.std.proofs.lemmas.Bool.{lt-ltb, le-ltb, cases_lt}
use Rattle.labels.specs.declared.Slot.{Slot}
use Rattle.labels.specs.Tournament.{named, above, Above}
use Rattle.labels.specs.Labels.{In}

-- a site's places lie below the places of n sites
pub site_room : (k s n : ℕ) → s < n → s * k + k ≤ n * k
site_room k s n lt =
    let x : suc s * k ≤ n * k = mul-le-mul_right k lt in
    let y : suc s * k ≡ s * k + k = suc-mul s k in
    omega arith

-- a place is one of the site that it is divided by
pub site_of : (k p : ℕ) → 0 < k → In k (p / k) p
site_of k p some =
    let a = div-add-mod' p k in
    let b = mod-lt p some in
    (omega arith, omega arith)

-- the site of a place below those of n sites
pub site_low : (k p n : ℕ) → 0 < k → p < n * k → p / k < n
site_low k p n some lt =
    ⊎_elim
    (λ h. h)
    (λ ge. let x : n * k ≤ p / k * k = mul-le-mul_right k ge in let y = (site_of k p some).0 in absurd (omega arith))
    (cases_lt (p / k) n)

-- there are no more sites than places
pub sites_few : (k n : ℕ) → 0 < k → n ≤ n * k
sites_few k n some =
    let x : 1 * n ≤ k * n = mul-le-mul_right n some in
    let y : k * n ≡ n * k = mul_comm k n in
    omega arith

pub above_next : (m j : ℕ) → above m (j / 2) ≡ above (suc m) j
above_next zero j = refl
above_next (suc m) j = ap (λ x. x / 2) (above_next m j)

-- what is not above the parent of j, nor that parent, is not above j
pub above_parent : (i j : ℕ) → (Above i (j / 2) → ⊥) → (i ≡ j / 2 → ⊥) → Above i j → ⊥
above_parent i j off ne (zero, e) = ne (sym e)
above_parent i j off ne (suc m, e) = off (m, above_next (suc m) j ∙ e)

above_low : (m j : ℕ) → above m j ≤ j
above_low zero j = omega arith
above_low (suc m) j = let h = above_low m j in omega arith

-- no node is above the root
pub above_root : (i j : ℕ) → 1 ≤ i → j ≤ 1 → Above i j → ⊥
above_root i j some low (m, e) = let h = above_low m j in let f : above m j / 2 ≡ i = e in omega arith

module _ {V : Type 0} (W : ℕ → Slot V) (n j : ℕ) where
  -- an inner node names its winner
  pub named_inner : j < n → named W n j ≡ (W j).winner
  named_inner lt = ap (λ b. cond b (W j).winner (W (j - n)).best) (lt-ltb j n lt)

  -- a leaf names the best place of its site
  pub named_leaf : n ≤ j → named W n j ≡ (W (j - n)).best
  named_leaf le = ap (λ b. cond b (W j).winner (W (j - n)).best) (le-ltb j n le)

-- other notes, where the best places stay and the winners stay but at c
pub named_other : {V : Type 0} (W X : ℕ → Slot V) (n c : ℕ) → ((s : ℕ) → s < n → (X s).best ≡ (W s).best) → ((i : ℕ) → (i ≡ c → ⊥) → (X i).winner ≡ (W i).winner) → (j : ℕ) → j < 2 * n → (j ≡ c → ⊥) → named X n j ≡ named W n j
named_other W X n c bests winners j low ne =
    ⊎_elim
    (λ lt. named_inner X n j lt ∙ winners j ne ∙ sym (named_inner W n j lt))
    (λ ge. named_leaf X n j ge ∙ bests (j - n) (omega arith) ∙ sym (named_leaf W n j ge))
    (cases_lt j n)

-- other notes, where the winners stay and the best places stay but at t
pub named_rest : {V : Type 0} (W X : ℕ → Slot V) (n t : ℕ) → ((i : ℕ) → (X i).winner ≡ (W i).winner) → ((s : ℕ) → (s ≡ t → ⊥) → (X s).best ≡ (W s).best) → (j : ℕ) → (j ≡ n + t → ⊥) → named X n j ≡ named W n j
named_rest W X n t winners bests j ne =
    ⊎_elim
    (λ lt. named_inner X n j lt ∙ winners j ∙ sym (named_inner W n j lt))
    (λ ge. let off : j - n ≡ t → ⊥ = λ e. ne (omega arith) in named_leaf X n j ge ∙ bests (j - n) off ∙ sym (named_leaf W n j ge))
    (cases_lt j n)

-- other notes, where the winners and the best places stay
pub named_same : {V : Type 0} (W X : ℕ → Slot V) (n : ℕ) → ((i : ℕ) → (X i).winner ≡ (W i).winner) → ((s : ℕ) → (X s).best ≡ (W s).best) → (j : ℕ) → named X n j ≡ named W n j
named_same W X n winners bests j = ap₂ (λ x y. cond (ltb j n) x y) (winners j) (bests (j - n))

-- a workspace of the most sites and places has few places
pub places_few : (n k : ℕ) → n ≤ 256 → k ≤ 64 → n * k ≤ 16384
places_few n k sites labels = let all : n * k ≤ 256 * k = mul-le-mul_right k sites in omega arith
