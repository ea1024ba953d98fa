-- The notes of free labels: no place of a site is used, its first is its best, and each inner node names the place of its first child.
use Rattle.std.proofs.Common.{◌≡◌, ℕ, ◌+◌, ◌-◌, ◌*◌, ◌<◌, ◌≤◌, false, List, length, set, refl, sym, ap, ◌∙◌, subst, inl, ⊎_elim, get_or, arith}
use Rattle.std.proofs.lemmas.Bool.{both_ways, cases_lt}
use Rattle.std.proofs.lemmas.List.{get_or_past}
use Rattle.measure.specs.Kind.{Kind}
use Rattle.labels.specs.declared.Label.{Label}
use Rattle.labels.specs.declared.Slot.{Slot}
use Rattle.labels.specs.Labels.{is_held, Frees, blank_slot, slot, table}
use Rattle.labels.specs.Tournament.{named, Inside, Noted, SameLabels}
use Rattle.labels.proofs.Chains.{waits_held}
use Rattle.labels.proofs.Nodes.{named_inner, named_leaf, named_other, site_room}
use Rattle.labels.proofs.Writes.{slot_other}
use Rattle.labels.proofs.Writes.{written, bests_on}

-- each of the first m sites names its first place, and none of its places is used
pub record Fresh {V : Type 0} (W : ℕ → Slot V) (k m : ℕ) : Type 0 where
  pub best : (s : ℕ) → s < m → (W s).best ≡ s * k
  pub used : (s : ℕ) → s < m → (W s).used ≡ 0

-- each inner node from i on names a place, the one that its first child names
pub record NamesFirst {V : Type 0} (W : ℕ → Slot V) (k n i : ℕ) : Type 0 where
  pub first : (j : ℕ) → i ≤ j → j < n → (W j).winner ≡ named W n (2 * j)
  pub inside : (j : ℕ) → i ≤ j → j < n → (W j).winner < n * k

-- one more site is noted
pub fresh_more : {V L : Type 0} (K : Kind V L) (xs : List (Slot V)) (k m : ℕ) (y : Slot V) → m < length xs → y.best ≡ m * k → y.used ≡ 0 → Fresh (slot K xs) k m → Fresh (slot K (set xs m y)) k (m + 1)
fresh_more K xs k m y low best used h = record {
  best = λ s lt. written K xs m y low (λ p z. p < m + 1 → z.best ≡ p * k) (λ _. best) (λ p ne more. h.best p (omega arith)) s lt;
  used = λ s lt. written K xs m y low (λ p z. p < m + 1 → z.used ≡ 0) (λ _. used) (λ p ne more. h.used p (omega arith)) s lt;
}

-- a node names a place, where the nodes after it do
pub first_inside : {V : Type 0} (W : ℕ → Slot V) (k n i j : ℕ) → 0 < k → i ≤ j → j < 2 * n → ((s : ℕ) → s < n → (W s).best ≡ s * k) → NamesFirst W k n i → named W n j < n * k
first_inside W k n i j some le low bests h =
    ⊎_elim
    (λ lt. subst (λ x. x < n * k) (sym (named_inner W n j lt)) (h.inside j le lt))
    (λ ge. let s : j - n < n = omega arith in
    let room = site_room k (j - n) n s in
    subst (λ x. x < n * k) (sym (named_leaf W n j ge ∙ bests (j - n) s)) (omega arith))
    (cases_lt j n)

-- one more node is noted, the one before those that were
pub names_more : {V L : Type 0} (K : Kind V L) (xs : List (Slot V)) (k n i m : ℕ) (y : Slot V) → m ≤ i + 1 → i < length xs → 1 ≤ i → i < n → y.winner ≡ named (slot K xs) n (2 * i) → y.winner < n * k → (r : Slot V) → y.best ≡ (get_or xs i r).best → NamesFirst (slot K xs) k n m → NamesFirst (slot K (set xs i y)) k n i
names_more K xs k n i m y next low some lt first inside r best h = record {
  first = λ j le jn. written K xs i y low (λ p z. i ≤ p → p < n → z.winner ≡ named (slot K (set xs i y)) n (2 * p))
      (λ _ _. first ∙ sym (same i (omega arith) lt))
      (λ p ne ip pn. h.first p (omega arith) pn ∙ sym (same p (omega arith) pn)) j le jn;
  inside = λ j le jn. written K xs i y low (λ p z. i ≤ p → p < n → z.winner < n * k) (λ _ _. inside) (λ p ne ip pn. h.inside p (omega arith) pn) j le jn;
}
  where
    same : (j : ℕ) → i ≤ j → j < n → named (slot K (set xs i y)) n (2 * j) ≡ named (slot K xs) n (2 * j)
    same j le jn = named_other (slot K xs) (slot K (set xs i y)) n i
        (λ s _. bests_on K xs i y low (slot K xs) r best (λ p. refl) s)
        (λ p ne. ap (λ z. z.winner) (slot_other K xs i y low p ne))
        (2 * j) (omega arith) (omega arith)

-- no label is held, past the end neither
pub frees_all : {V L : Type 0} (K : Kind V L) (xs ys : List (Slot V)) → Frees (table K xs) (length xs) → SameLabels (slot K xs) (slot K ys) → (p : ℕ) → is_held (table K ys p).state ≡ false
frees_all K xs ys free same p =
    ap (λ y. is_held y.state) (same p).0 ∙ ⊎_elim (λ lt. free p lt) (λ ge. ap (λ y. is_held y.label.state) (get_or_past xs p (blank_slot K) ge)) (cases_lt p (length xs))

-- no label is held: the notes are right
pub seeded : {V L : Type 0} (K : Kind V L) (l : L) (A : ℕ → Label V) (W : ℕ → Slot V) (k n : ℕ) → 0 < k → ((p : ℕ) → is_held (A p).state ≡ false) → ((s : ℕ) → s < n → (W s).best ≡ s * k) → ((s : ℕ) → s < n → (W s).used ≡ 0) → ((i : ℕ) → 1 ≤ i → i < n → (W i).winner ≡ named W n (2 * i)) → Inside W k n → Noted K l A W k n
seeded K l A W k n some free bests used names inside = record {
  grounds = record {
    unused = record { low = λ s lt. let u = used s lt in omega arith; free = λ s q lt a b. free q };
    inside = inside;
    shares = λ p held. absurd (both_ways _ (free p) held);
  };
  bests = λ s lt. let b = bests s lt in record { at = (omega arith, omega arith); first = λ q at w. absurd (both_ways _ (free q) (waits_held _ w)) };
  crowned = λ i one lt. record {
    one = inl (names i one lt);
    left = λ w. absurd (both_ways _ (free _) (waits_held _ w));
    right = λ w. absurd (both_ways _ (free _) (waits_held _ w));
  };
}
