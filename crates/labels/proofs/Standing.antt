-- Which of two places is the better, and what a tournament says of the queued labels.
use Rattle.std.proofs.Common.{◌≡◌, ℕ, zero, suc, ◌+◌, ◌-◌, ◌*◌, ◌/◌, ◌<◌, ◌≤◌, true, false, ◌&&◌, ◌||◌, refl, sym, ap, ap₂, subst, subst₂, ◌∙◌, inl, inr, ⊎_elim, arith}
use Rattle.std.proofs.lemmas.Bool.{both_ways, cases_eq, cases_lt}
use Rattle.measure.specs.Kind.{Kind}
use Rattle.measure.specs.Laws.{Laws}
use Rattle.measure.specs.Ranks.{ranks}
use Rattle.measure.specs.Ratios.{less, equal}
use Rattle.measure.proofs.Ranking.{rank_self, rank_trans, rank_total}
use Rattle.labels.specs.declared.Label.{Label}
use Rattle.labels.specs.declared.Slot.{Slot}
use Rattle.labels.specs.Labels.{is_queued, Held, Waits, Fits, Leader}
use Rattle.labels.specs.Tournament.{named, Precedes, Better, SiteBest, Shares, Inside, Noted}
use Rattle.labels.proofs.Chains.{waits_held}
use Rattle.labels.proofs.Nodes.{named_inner, named_leaf, site_room, site_low, site_of}

-- kept shares rank held labels as their ratios do
pub by_shares : {V L : Type 0} (K : Kind V L) (l : L) (A : ℕ → Label V) (W : ℕ → Slot V) → Shares K l A W → (a b : ℕ) → Held A a → Held A b → (less (W a).share (W b).share || (equal (W a).share (W b).share && K.before (A a).value (A b).value)) ≡ ranks K l (A a).value (A b).value
by_shares K l A W shares a b ha hb = ap₂ (λ x y. less x y || (equal x y && K.before (A a).value (A b).value)) (shares a ha) (shares b hb)

-- the same labels at the places in question
module _ {V L : Type 0} (K : Kind V L) (l : L) (A B : ℕ → Label V) where
  pub precedes_same : (a b : ℕ) → B a ≡ A a → B b ≡ A b → Precedes K l A a b → Precedes K l B a b
  precedes_same a b ea eb h w =
      let x = h (subst (λ y. is_queued y.state ≡ true) eb w) in
      (subst (λ y. is_queued y.state ≡ true) (sym ea) x.0, subst₂ (λ y z. ranks K l y.value z.value ≡ false) (sym eb) (sym ea) x.1)

  pub better_same : (a b r : ℕ) → B a ≡ A a → B b ≡ A b → B r ≡ A r → Better K l A a b r → Better K l B a b r
  better_same a b r ea eb er h = record { one = h.one; left = precedes_same r a er ea h.left; right = precedes_same r b er eb h.right }

-- a node names a place
pub named_inside : {V L : Type 0} (K : Kind V L) (l : L) (A : ℕ → Label V) (W : ℕ → Slot V) (k n : ℕ) → Inside W k n → ((s : ℕ) → s < n → SiteBest K l A k s (W s).best) → (j : ℕ) → 1 ≤ j → j < 2 * n → named W n j < n * k
named_inside K l A W k n inside bests j some low =
    ⊎_elim
    (λ lt. subst (λ x. x < n * k) (sym (named_inner W n j lt)) (inside j some lt))
    (λ ge. let s : j - n < n = omega arith in let a = (bests (j - n) s).at.1 in let b = site_room k (j - n) n s in subst (λ x. x < n * k) (sym (named_leaf W n j ge)) (omega arith))
    (cases_lt j n)

-- the better of two places is one of them
pub better_inside : {V L : Type 0} (K : Kind V L) (l : L) (A : ℕ → Label V) (n a b r : ℕ) → a < n → b < n → Better K l A a b r → r < n
better_inside K l A n a b r la lb h = ⊎_elim (λ e. omega arith) (λ e. omega arith) h.one

module _ {V L : Type 0} {K : Kind V L} (laws : Laws K) (l : L) (adm : K.limit_admitted l ≡ true) (A : ℕ → Label V) (fits : Fits K l A) where
  pub precedes_self : (a : ℕ) → Precedes K l A a a
  precedes_self a w = (w, rank_self laws l adm (A a).value (fits a (waits_held _ w)))

  pub precedes_trans : (a b c : ℕ) → Precedes K l A a b → Precedes K l A b c → Precedes K l A a c
  precedes_trans a b c ab bc wc =
      let y = bc wc in
      let x = ab y.0 in
      (x.0, rank_trans laws l adm (A a).value (A b).value (A c).value (fits a (waits_held _ x.0)) (fits b (waits_held _ y.0)) (fits c (waits_held _ wc)) x.1 y.1)

  -- b is not queued
  pub better_idle : (a b : ℕ) → is_queued (A b).state ≡ false → Better K l A a b a
  better_idle a b idle = record { one = inl refl; left = precedes_self a; right = λ w. absurd (both_ways _ idle w) }

  -- a is not queued
  pub better_other : (a b : ℕ) → is_queued (A a).state ≡ false → Better K l A a b b
  better_other a b idle = record { one = inr refl; left = λ w. absurd (both_ways _ idle w); right = precedes_self b }

  -- both are queued, and b ranks before a
  pub better_before : (a b : ℕ) → Waits A a → Waits A b → ranks K l (A b).value (A a).value ≡ true → Better K l A a b b
  better_before a b wa wb r = record {
    one = inr refl;
    left = λ w. (wb, ⊎_elim (λ e. absurd (both_ways _ e r)) (λ e. e) (rank_total laws l adm (A a).value (A b).value (fits a (waits_held _ wa)) (fits b (waits_held _ wb))));
    right = precedes_self b;
  }

  -- a is queued, and b does not rank before it
  pub better_stays : (a b : ℕ) → Waits A a → ranks K l (A b).value (A a).value ≡ false → Better K l A a b a
  better_stays a b wa r = record { one = inl refl; left = precedes_self a; right = λ w. (wa, r) }

  module _ (W : ℕ → Slot V) (k n : ℕ) (some : 0 < k) (noted : Noted K l A W k n) where
    -- the place that the parent of c names goes before that of c
    parent_first : (c : ℕ) → 2 ≤ c → c < 2 * n → Precedes K l A (named W n (c / 2)) (named W n c)
    parent_first c two low =
        let good = noted.crowned (c / 2) (omega arith) (omega arith) in
        let lt : c / 2 < n = omega arith in
        subst (λ x. Precedes K l A x (named W n c)) (sym (named_inner W n (c / 2) lt))
        (⊎_elim
        (λ even. subst (λ x. Precedes K l A (W (c / 2)).winner (named W n x)) (sym even) good.left)
        (λ odd. let e : c ≡ 2 * (c / 2) + 1 = omega arith in subst (λ x. Precedes K l A (W (c / 2)).winner (named W n x)) (sym e) good.right)
        (cases_eq c (2 * (c / 2))))

    root_first : (f c : ℕ) → c ≤ f → 1 ≤ c → c < 2 * n → Precedes K l A (named W n 1) (named W n c)
    root_first zero c le some low = absurd (omega arith)
    root_first (suc f) c le some low =
        ⊎_elim
        (λ small. let e : c ≡ 1 = omega arith in subst (λ x. Precedes K l A (named W n 1) (named W n x)) (sym e) (precedes_self (named W n 1)))
        (λ two. precedes_trans _ _ _ (root_first f (c / 2) (omega arith) (omega arith) (omega arith)) (parent_first c two low))
        (cases_lt c 2)

    -- the root's place goes before every place
    all_first : (q : ℕ) → q < n * k → Precedes K l A (named W n 1) q
    all_first q lt =
        let s : q / k < n = site_low k q n some lt in
        let z : n + q / k - n ≡ q / k = omega arith in
        let e : named W n (n + q / k) ≡ (W (q / k)).best = named_leaf W n (n + q / k) (omega arith) ∙ ap (λ x. (W x).best) z in
        precedes_trans _ _ _
        (subst (λ x. Precedes K l A (named W n 1) x) e (root_first (n + q / k) (n + q / k) (omega arith) (omega arith) (omega arith)))
        ((noted.bests (q / k) s).first q (site_of k q some))

    -- the root leads where it is queued
    pub root_leads : 0 < n → Waits A (named W n 1) → Leader K l A (n * k) (named W n 1)
    root_leads any w = record { low = named_inside K l A W k n noted.grounds.inside noted.bests 1 (omega arith) (omega arith); waits = w; first = λ q lt wq. (all_first q lt wq).1 }

    -- where it is not, no label is
    pub root_none : is_queued (A (named W n 1)).state ≡ false → (q : ℕ) → q < n * k → Waits A q → ⊥
    root_none idle q lt w = both_ways _ idle (all_first q lt w).0
