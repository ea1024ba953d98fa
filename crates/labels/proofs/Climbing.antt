-- How a note that is written at one place leaves the others right: the best place of a site, and the winners from its leaf up to the root.
use Rattle.std.proofs.Common.{◌≡◌, ℕ, zero, suc, ◌+◌, ◌-◌, ◌*◌, ◌/◌, ◌%◌, ◌<◌, ◌≤◌, true, ◌⊎◌, List, length, refl, sym, ap, subst, subst₂, ◌∙◌, inl, inr, ⊎_elim, get_or, arith, Bool, ◌&&◌, ◌||◌, ap₂}
use Rattle.std.specs.Int.Bits.{bit_and, bit_xor, xor_add_and}
use Rattle.std.proofs.lemmas.Nat.{and_mask}
use Rattle.std.proofs.lemmas.Bool.{both_ways, cases_eq, cases_lt}
use Rattle.measure.specs.Kind.{Kind}
use Rattle.measure.specs.Laws.{Laws}
use Rattle.measure.specs.Ranks.{Fit, ranks}
use Rattle.measure.specs.Ratios.{less, equal}
use Rattle.measure.specs.declared.Ratio.{Ratio}
use Rattle.labels.specs.declared.Label.{Label}
use Rattle.labels.specs.declared.Slot.{Slot}
use Rattle.labels.specs.Labels.{is_held, is_queued, In, Waits, Fits, slot, table}
use Rattle.labels.specs.Tournament.{named, Above, Precedes, Better, SiteBest, Shares, Unused, Inside, Grounds, Noted, NotedBut, NotedUnder, SameLabels, SameUsed, SameLists}
use Rattle.labels.proofs.Chains.{one_site, waits_held}
use Rattle.labels.proofs.Writes.{slot_read}
use Rattle.labels.proofs.Nodes.{above_parent, above_root, named_inner, named_leaf, named_other, named_rest, named_same, site_room, sites_few}
use Rattle.labels.proofs.Standing.{by_shares, precedes_same, better_same, better_inside, named_inside, precedes_self, precedes_trans}

module _ {V L : Type 0} (K : Kind V L) (xs : List (Slot V)) where
  -- whether the label at a place that was read is queued
  pub read_queued : (p : ℕ) (x : Slot V) → p < length xs → x ≡ get_or xs p x → (b : Bool) → b ≡ is_queued x.label.state → is_queued (table K xs p).state ≡ b
  read_queued p x low is b test = ap (λ y. is_queued y.label.state) (sym (slot_read K xs p x low is)) ∙ sym test

  -- whether the label at the one ranks before that at the other, both queued
  pub read_rank : (l : L) → Shares K l (table K xs) (slot K xs) → (p q : ℕ) (x y : Slot V) → p < length xs → q < length xs → x ≡ get_or xs p x → y ≡ get_or xs q y → Waits (table K xs) p → Waits (table K xs) q →
      (b : Bool) → b ≡ (less x.share y.share || (equal x.share y.share && K.before x.label.value y.label.value)) → ranks K l (table K xs p).value (table K xs q).value ≡ b
  read_rank l shares p q x y lp lq is_x is_y wp wq b test =
      sym (by_shares K l (table K xs) (slot K xs) shares p q (waits_held _ wp) (waits_held _ wq)) ∙
      ap₂ (λ v w. less v.share w.share || (equal v.share w.share && K.before v.label.value w.label.value)) (sym (slot_read K xs p x lp is_x)) (sym (slot_read K xs q y lq is_y)) ∙
      sym test

  -- whether a value of this ratio ranks before the label at p, which is queued
  pub read_before : (l : L) → Shares K l (table K xs) (slot K xs) → (p : ℕ) (y : Slot V) → p < length xs → y ≡ get_or xs p y → Waits (table K xs) p → (v : V) (r : Ratio) → r ≡ K.ratio v l →
      (b : Bool) → b ≡ (less r y.share || (equal r y.share && K.before v y.label.value)) → ranks K l v (table K xs p).value ≡ b
  read_before l shares p y low is waits v r is_r b test =
      ap₂ (λ s t. less s t || (equal s t && K.before v (table K xs p).value)) (sym is_r) (sym (shares p (waits_held _ waits))) ∙
      ap (λ z. less r z.share || (equal r z.share && K.before v z.label.value)) (sym (slot_read K xs p y low is)) ∙
      sym test

  -- the best place of a site, as it is read
  pub read_best : (l : L) (k n s : ℕ) (x : Slot V) → 0 < k → length xs ≡ n * k → s < n → x ≡ get_or xs s x → Noted K l (table K xs) (slot K xs) k n → In k s (get_or xs s x).best × ((get_or xs s x).best < length xs)
  read_best l k n s x some size here is noted =
      let few = sites_few k n some in
      let at : In k s (get_or xs s x).best = subst (In k s) (ap (λ y. y.best) (sym (slot_read K xs s x (omega arith) is) ∙ is)) (noted.bests s here).at in
      (at, omega (arith, at.1, site_room k s n here))

-- held labels fit where the labels are the same
pub fits_same : {V L : Type 0} (K : Kind V L) (l : L) (A B : ℕ → Label V) → ((q : ℕ) → B q ≡ A q) → Fits K l A → Fits K l B
fits_same K l A B labels fits p held = subst (λ y. Fit K l y.value) (sym (labels p)) (fits p (subst (λ y. is_held y.state ≡ true) (labels p) held))

-- labels and notes that differ at most in best places and winners
module _ {V L : Type 0} (K : Kind V L) (l : L) (A B : ℕ → Label V) (W X : ℕ → Slot V) (k n : ℕ) (labels : (q : ℕ) → B q ≡ A q) where
  pub site_best_same : (s b : ℕ) → SiteBest K l A k s b → SiteBest K l B k s b
  site_best_same s b h = record { at = h.at; first = λ q at. precedes_same K l A B b q (labels b) (labels q) (h.first q at) }

  -- the same shares, and as many places used
  pub grounds_same : ((q : ℕ) → (X q).share ≡ (W q).share) → ((s : ℕ) → (X s).used ≡ (W s).used) → Inside X k n → Grounds K l A W k n → Grounds K l B X k n
  grounds_same shares used inside h = record {
    unused = record {
      low = λ s lt. subst (λ x. x ≤ k) (sym (used s)) (h.unused.low s lt);
      free = λ s q lt a b. ap (λ y. is_held y.state) (labels q) ∙ h.unused.free s q lt (subst (λ x. s * k + x ≤ q) (used s) a) b;
    };
    inside = inside;
    shares = λ p held. shares p ∙ h.shares p (subst (λ y. is_held y.state ≡ true) (labels p) held) ∙ ap (λ y. K.ratio y.value l) (sym (labels p));
  }

  module _ (shares : (q : ℕ) → (X q).share ≡ (W q).share) (used : (s : ℕ) → (X s).used ≡ (W s).used) where
    -- the best place of the site t is noted
    pub sited : (t : ℕ) → ((i : ℕ) → (X i).winner ≡ (W i).winner) → ((s : ℕ) → (s ≡ t → ⊥) → (X s).best ≡ (W s).best) → NotedBut K l A W k n t → SiteBest K l B k t (X t).best → NotedUnder K l B X k n (n + t)
    sited t winners bests h best = record {
      grounds = grounds_same shares used (λ i some lt. subst (λ x. x < n * k) (sym (winners i)) (h.grounds.inside i some lt)) h.grounds;
      bests = λ s lt. ⊎_elim
          (λ same. subst (λ x. SiteBest K l B k x (X x).best) (sym same) best)
          (λ ne. subst (SiteBest K l B k s) (sym (bests s ne)) (site_best_same s _ (h.bests s lt ne)))
          (cases_eq s t);
      crowned = λ i some lt off.
          let left : 2 * i ≡ n + t → ⊥ = λ e. off (0, omega arith) in
          let right : 2 * i + 1 ≡ n + t → ⊥ = λ e. off (0, omega arith) in
          subst₂ (λ x y. Better K l B x y (X i).winner) (sym (named_rest W X n t winners bests (2 * i) left)) (sym (named_rest W X n t winners bests (2 * i + 1) right))
          (subst (Better K l B (named W n (2 * i)) (named W n (2 * i + 1))) (sym (winners i))
          (better_same K l A B _ _ _ (labels _) (labels _) (labels _) (h.crowned i some lt off)));
    }

    -- the winner of the parent of `node` is noted
    pub risen : (node w : ℕ) → (X (node / 2)).winner ≡ w → ((i : ℕ) → (i ≡ node / 2 → ⊥) → (X i).winner ≡ (W i).winner) → ((s : ℕ) → (X s).best ≡ (W s).best) → NotedUnder K l A W k n node →
        w < n * k → Better K l A (named W n (2 * (node / 2))) (named W n (2 * (node / 2) + 1)) w → NotedUnder K l B X k n (node / 2)
    risen node w here winners bests h low better = record {
      grounds = grounds_same shares used
          (λ i some lt. ⊎_elim
          (λ same. subst (λ x. x < n * k) (sym (ap (λ x. (X x).winner) same ∙ here)) low)
          (λ ne. subst (λ x. x < n * k) (sym (winners i ne)) (h.grounds.inside i some lt))
          (cases_eq i (node / 2)))
          h.grounds;
      bests = λ s lt. subst (SiteBest K l B k s) (sym (bests s)) (site_best_same s _ (h.bests s lt));
      crowned = λ i some lt off.
          let i_left : 2 * i ≡ node / 2 → ⊥ = λ e. off (0, omega arith) in
          let i_right : 2 * i + 1 ≡ node / 2 → ⊥ = λ e. off (0, omega arith) in
          let el = named_other W X n (node / 2) (λ s _. bests s) winners (2 * i) (omega arith) i_left in
          let er = named_other W X n (node / 2) (λ s _. bests s) winners (2 * i + 1) (omega arith) i_right in
          let good : Better K l A (named W n (2 * i)) (named W n (2 * i + 1)) (X i).winner = ⊎_elim
          (λ same. subst (λ x. Better K l A (named W n (2 * x)) (named W n (2 * x + 1)) (X x).winner) (sym same) (subst (λ x. Better K l A (named W n (2 * (node / 2))) (named W n (2 * (node / 2) + 1)) x) (sym here) better))
          (λ ne. subst (λ x. Better K l A (named W n (2 * i)) (named W n (2 * i + 1)) x) (sym (winners i ne)) (h.crowned i some lt (above_parent i node off ne)))
          (cases_eq i (node / 2)) in
          subst₂ (λ x y. Better K l B x y (X i).winner) (sym el) (sym er) (better_same K l A B _ _ _ (labels _) (labels _) (labels _) good);
    }

-- at the root nothing is left
pub risen_all : {V L : Type 0} (K : Kind V L) (l : L) (A : ℕ → Label V) (W : ℕ → Slot V) (k n j : ℕ) → j ≤ 1 → NotedUnder K l A W k n j → Noted K l A W k n
risen_all K l A W k n j low h = record { grounds = h.grounds; bests = h.bests; crowned = λ i some lt. h.crowned i some lt (above_root i j some low) }

-- which of the two is named first is all one
better_flip : {V L : Type 0} (K : Kind V L) (l : L) (A : ℕ → Label V) (a b r : ℕ) → Better K l A a b r → Better K l A b a r
better_flip K l A a b r h = record { one = ⊎_elim inr inl h.one; left = h.right; right = h.left }

-- the other child of the parent of `node`
module _ (node : ℕ) where
  sibling : bit_xor node 1 + 2 * (node % 2) ≡ node + 1
  sibling = let a = xor_add_and node 1 in let m : bit_and node 1 ≡ node % 2 = and_mask node 1 in omega (arith, a, m)

  pub sibling_low : (n : ℕ) → node < 2 * n → bit_xor node 1 < 2 * n
  sibling_low n lt = let s = sibling in omega arith

  pub sibling_some : 1 < node → 1 ≤ bit_xor node 1
  sibling_some two = let s = sibling in omega arith

  pub siblings : ((node ≡ 2 * (node / 2)) × (bit_xor node 1 ≡ 2 * (node / 2) + 1)) ⊎ ((node ≡ 2 * (node / 2) + 1) × (bit_xor node 1 ≡ 2 * (node / 2)))
  siblings = let s = sibling in ⊎_elim (λ e. inl (omega arith, omega arith)) (λ ne. inr (omega arith, omega arith)) (cases_eq (node % 2) 0)

  -- the better of what these two name is the better of the children's places
  pub parent_better : {V L : Type 0} (K : Kind V L) (l : L) (A : ℕ → Label V) (W : ℕ → Slot V) (n r : ℕ) → Better K l A (named W n node) (named W n (bit_xor node 1)) r → Better K l A (named W n (2 * (node / 2))) (named W n (2 * (node / 2) + 1)) r
  parent_better K l A W n r h = ⊎_elim
      (λ e. subst₂ (λ x y. Better K l A (named W n x) (named W n y) r) e.0 e.1 h)
      (λ e. better_flip K l A _ _ r (subst₂ (λ x y. Better K l A (named W n x) (named W n y) r) e.0 e.1 h))
      siblings

-- how far a climb has come: from the notes U it made the notes W, which are right but for the nodes above j, and j names the place w
pub record Rises {V L : Type 0} (K : Kind V L) (l : L) (U W : ℕ → Slot V) (k n j w : ℕ) : Type 0 where
  pub some : 1 ≤ j
  pub low : j < 2 * n
  pub here : w ≡ named W n j
  pub under : NotedUnder K l (λ p. (W p).label) W k n j
  pub labels : SameLabels U W
  pub used : SameUsed U W
  pub links : SameLists U W

module _ {V L : Type 0} {K : Kind V L} {l : L} {U W : ℕ → Slot V} {k n j w : ℕ} (h : Rises K l U W k n j w) where
  pub rises_inside : w < n * k
  rises_inside = subst (λ x. x < n * k) (sym h.here) (named_inside K l (λ p. (W p).label) W k n h.under.grounds.inside h.under.bests j h.some h.low)

  pub rises_other : 1 < j → named W n (bit_xor j 1) < n * k
  rises_other two = named_inside K l (λ p. (W p).label) W k n h.under.grounds.inside h.under.bests (bit_xor j 1) (sibling_some j two) (sibling_low j n h.low)

  pub rises_fits : Fits K l (λ p. (U p).label) → Fits K l (λ p. (W p).label)
  rises_fits = fits_same K l (λ p. (U p).label) (λ p. (W p).label) (λ q. (h.labels q).0)

  -- one level more, where the winner of the parent is written and nothing else
  pub rises_more : (X : ℕ → Slot V) (r : ℕ) → 1 < j → Better K l (λ p. (W p).label) w (named W n (bit_xor j 1)) r →
      (X (j / 2)).winner ≡ r → ((i : ℕ) → (i ≡ j / 2 → ⊥) → (X i).winner ≡ (W i).winner) → ((s : ℕ) → (X s).best ≡ (W s).best) → SameLabels W X → SameUsed W X → SameLists W X → Rises K l U X k n (j / 2) r
  rises_more X r two better here winners bests labels used links = record {
    some = omega arith;
    low = omega (arith, h.low);
    here = sym (named_inner X n (j / 2) (omega (arith, h.low)) ∙ here);
    under = risen K l (λ p. (W p).label) (λ p. (X p).label) W X k n (λ q. (labels q).0) (λ q. (labels q).1) used j r here winners bests h.under inside (parent_better j K l (λ p. (W p).label) W n r mine);
    labels = λ p. ((labels p).0 ∙ (h.labels p).0, (labels p).1 ∙ (h.labels p).1);
    used = λ p. used p ∙ h.used p;
    links = λ p. ((links p).0 ∙ (h.links p).0, (links p).1 ∙ (h.links p).1);
  }
    where
      mine : Better K l (λ p. (W p).label) (named W n j) (named W n (bit_xor j 1)) r
      mine = subst (λ x. Better K l (λ p. (W p).label) x (named W n (bit_xor j 1)) r) h.here better

      inside : r < n * k
      inside = better_inside K l (λ p. (W p).label) (n * k) w (named W n (bit_xor j 1)) r rises_inside (rises_other two) better

  pub rises_all : j ≤ 1 → Noted K l (λ p. (W p).label) W k n
  rises_all low = risen_all K l (λ p. (W p).label) W k n j low h.under

-- where nothing is written, nothing has changed
pub rises_none : {V L : Type 0} (K : Kind V L) (l : L) (U : ℕ → Slot V) (k n t : ℕ) → t < n → NotedUnder K l (λ p. (U p).label) U k n (n + t) → Rises K l U U k n (n + t) (U t).best
rises_none K l U k n t low under = record {
  some = omega arith;
  low = omega arith;
  here = let z : n + t - n ≡ t = omega arith in sym (named_leaf U n (n + t) (omega arith) ∙ ap (λ x. (U x).best) z);
  under = under;
  labels = λ p. (refl, refl);
  used = λ p. refl;
  links = λ p. (refl, refl);
}

-- of the site t, the places from its first on and below i were looked at, and b is the best of these
pub record Scanned {V L : Type 0} (K : Kind V L) (l : L) (A : ℕ → Label V) (k t i b : ℕ) : Type 0 where
  pub reached : i ≤ t * k + k
  pub low : t * k ≤ b
  pub high : b < i
  pub first : (q : ℕ) → t * k ≤ q → q < i → Precedes K l A b q

module _ {V L : Type 0} {K : Kind V L} (laws : Laws K) (l : L) (adm : K.limit_admitted l ≡ true) (A : ℕ → Label V) (fits : Fits K l A) (k t : ℕ) where
  pub scanned_none : 0 < k → Scanned K l A k t (t * k + 1) (t * k)
  scanned_none some = record {
    reached = omega arith;
    low = omega arith;
    high = omega arith;
    first = λ q low high. let e : q ≡ t * k = omega arith in subst (λ x. Precedes K l A (t * k) x) (sym e) (precedes_self laws l adm A fits (t * k));
  }

  pub scanned_more : (i b r : ℕ) → i < t * k + k → Scanned K l A k t i b → Better K l A b i r → Scanned K l A k t (i + 1) r
  scanned_more i b r high h better = record {
    reached = omega arith;
    low = ⊎_elim (λ e. omega (arith, h.low)) (λ e. omega (arith, h.low, h.high)) better.one;
    high = ⊎_elim (λ e. omega (arith, h.high)) (λ e. omega arith) better.one;
    first = λ q sq qi. ⊎_elim
        (λ e. subst (λ x. Precedes K l A r x) (sym e) better.right)
        (λ ne. precedes_trans laws l adm A fits r b q better.left (h.first q sq (omega arith)))
        (cases_eq q i);
  }

-- a scan past the used places of the site finds its best place
pub scanned_all : {V L : Type 0} (K : Kind V L) (l : L) (A : ℕ → Label V) (W : ℕ → Slot V) (k n t i b : ℕ) → t < n → Unused A W k n → t * k + (W t).used ≤ i → Scanned K l A k t i b → SiteBest K l A k t b
scanned_all K l A W k n t i b lt unused past h = record {
  at = (h.low, omega (arith, h.high, h.reached));
  first = λ q at. ⊎_elim
      (λ seen. h.first q at.0 seen)
      (λ out w. absurd (both_ways _ (unused.free t q lt (omega arith) at.1) (waits_held _ w)))
      (cases_lt q i);
}

-- labels of the site t were changed, and nothing is noted yet
module _ {V L : Type 0} (K : Kind V L) (l : L) (A B : ℕ → Label V) (W X : ℕ → Slot V) (k n t : ℕ) (h : Noted K l A W k n) (here : t < n) (other : (q : ℕ) → (In k t q → ⊥) → B q ≡ A q)
    (winners : (i : ℕ) → (X i).winner ≡ (W i).winner) (bests : (s : ℕ) → (X s).best ≡ (W s).best) where
  -- only the leaf of t and what is above it names a place of t
  names : (f c : ℕ) → 2 * n ≤ c + f → 1 ≤ c → c < 2 * n → (c ≡ n + t → ⊥) → (Above c (n + t) → ⊥) → In k t (named W n c) → ⊥
  names zero c le some low ne off e = omega arith
  names (suc f) c le some low ne off e =
      ⊎_elim
      (λ lt. let good = h.crowned c some lt in
      let down : (below : ℕ) → below / 2 ≡ c → c < below → below < 2 * n → In k t (named W n below) → ⊥ = λ below half up top. names f below (omega arith) (omega arith) top (λ same. off (0, ap (λ x. x / 2) (sym same) ∙ half)) (λ a. off (suc (a.0), ap (λ x. x / 2) (a.1) ∙ half)) in
      let mine : In k t (W c).winner = subst (In k t) (named_inner W n c lt) e in
      ⊎_elim
      (λ left. down (2 * c) (omega arith) (omega arith) (omega arith) (subst (In k t) left mine))
      (λ right. down (2 * c + 1) (omega arith) (omega arith) (omega arith) (subst (In k t) right mine))
      good.one)
      (λ ge. let s : c - n < n = omega arith in
      let same : c - n ≡ t = one_site k (c - n) t (W (c - n)).best (h.bests (c - n) s).at (subst (In k t) (named_leaf W n c ge) e) in
      ne (omega arith))
      (cases_lt c n)

  pub changed : Grounds K l B X k n → NotedBut K l B X k n t
  changed grounds = record {
    grounds = grounds;
    bests = λ s lt ne.
        let was = h.bests s lt in
        let out : (q : ℕ) → In k s q → In k t q → ⊥ = λ q a b. ne (one_site k s t q a b) in
        subst (SiteBest K l B k s) (sym (bests s)) (record { at = was.at; first = λ q at. precedes_same K l A B _ q (other _ (out _ was.at)) (other q (out q at)) (was.first q at) });
    crowned = λ i some lt off.
        let good = h.crowned i some lt in
        let child : (below : ℕ) → below / 2 ≡ i → i < below → below < 2 * n → In k t (named W n below) → ⊥ = λ below half up top. names (2 * n) below (omega arith) (omega arith) top (λ same. off (0, ap (λ x. x / 2) (sym same) ∙ half)) (λ a. off (suc (a.0), ap (λ x. x / 2) (a.1) ∙ half)) in
        let left = child (2 * i) (omega arith) (omega arith) (omega arith) in
        let right = child (2 * i + 1) (omega arith) (omega arith) (omega arith) in
        let same = named_same W X n winners bests in
        subst₂ (λ x y. Better K l B x y (X i).winner) (sym (same (2 * i))) (sym (same (2 * i + 1)))
        (subst (Better K l B (named W n (2 * i)) (named W n (2 * i + 1))) (sym (winners i))
        (better_same K l A B _ _ _ (other _ left) (other _ right) (other _ (⊎_elim (λ e z. left (subst (In k t) e z)) (λ e z. right (subst (In k t) e z)) good.one)) good));
  }
