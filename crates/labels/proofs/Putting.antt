-- What it takes to put a label among those of its site, to settle one, and to begin.
use Rattle.std.proofs.Common.{true, ◌≡◌, ℕ, ◌+◌, ◌*◌, ◌<◌, ◌≤◌, false, ◌⊎◌, List, length, get_or, set, sym, refl, ap, ◌∙◌, subst, inl, inr, ⊎_elim, suc-mul, arith}
use Rattle.std.proofs.lemmas.Bool.{both_ways, cases_eq, cases_lt, false_from_ne_true}
use Rattle.std.proofs.lemmas.List.{get_or_default}
use Rattle.measure.specs.Kind.{Kind}
use Rattle.measure.specs.Ranks.{Fit}
use Rattle.labels.specs.declared.State.TheVariants.{Settled}
use Rattle.labels.specs.declared.Label.{Label}
use Rattle.labels.specs.declared.Slot.{Slot}
use Rattle.labels.specs.Labels.{is_held, is_queued, In, Held, Waits, Fits, Frees, Settles, Swept, Adds, blank_slot, slot, table}
use Rattle.labels.specs.Tournament.{Unused, Grounds, Noted, NotedBut, Entered, Wrote, SameLabels, SameWinners, SameUsed, SameLists}
use Rattle.labels.proofs.Chains.{one_site, done_held, waits_held}
use Rattle.labels.proofs.Climbing.{changed}
use Rattle.labels.proofs.Writes.{slot_same, slot_other, slot_stays}
use Rattle.labels.proofs.Scans.{swept_held, swept_adds}

-- the labels of these places
abbrev pub labels_of : {V : Type 0} → (ℕ → Slot V) → ℕ → Label V
labels_of W p = (W p).label

-- where a label is held after as one was before, and as many places are used, those past the used ones are free
pub unused_on : {V : Type 0} (A B : ℕ → Label V) (W X : ℕ → Slot V) (k n : ℕ) → SameUsed W X → ((p : ℕ) → Held B p → Held A p) → Unused A W k n → Unused B X k n
unused_on A B W X k n used held h = record {
  low = λ s lt. rw (used s) (h.low s lt);
  free = λ s q lt a b. false_from_ne_true _ (λ e. both_ways _ (h.free s q lt (rw (used s) at a) b) (held q e));
}

-- a write of a whole place, which leaves the notes
pub wrote : {V L : Type 0} (K : Kind V L) (l : L) (xs : List (Slot V)) (x : ℕ) (r y : Slot V) → x < length xs → r ≡ get_or xs x r → y.share ≡ K.ratio y.label.value l →
    (y.winner ≡ r.winner) × (y.best ≡ r.best) × (y.used ≡ r.used) × (y.first ≡ r.first) × (y.next ≡ r.next) → Wrote K l (slot K xs) (slot K (set xs x y)) x y.label
wrote K l xs x r y low is share (winner, best, used, first, next) =
    let here = get_or_default xs x r (blank_slot K) low in
    record {
      here = ap (λ z. z.label) (slot_same K xs x y low);
      share = ap (λ z. z.share) (slot_same K xs x y low) ∙ share;
      other = λ p ne. (ap (λ z. z.label) (slot_other K xs x y low p ne), ap (λ z. z.share) (slot_other K xs x y low p ne));
      winners = λ p. (slot_stays K xs x y low ℕ (λ z. z.winner) (winner ∙ ap (λ z. z.winner) (is ∙ here)) p, slot_stays K xs x y low ℕ (λ z. z.best) (best ∙ ap (λ z. z.best) (is ∙ here)) p);
      used = λ p. slot_stays K xs x y low ℕ (λ z. z.used) (used ∙ ap (λ z. z.used) (is ∙ here)) p;
      links = λ p. (slot_stays K xs x y low ℕ (λ z. z.first) (first ∙ ap (λ z. z.first) (is ∙ here)) p, slot_stays K xs x y low ℕ (λ z. z.next) (next ∙ ap (λ z. z.next) (is ∙ here)) p);
    }

module _ {V L : Type 0} {K : Kind V L} {W X : ℕ → Slot V} {k t : ℕ} {v : V} (swept : Swept K W X k t v) where
  -- held after the sweep, held before
  pub swept_back : (p : ℕ) → Held (labels_of X) p → Held (labels_of W) p
  swept_back p held = let h = swept_held K swept p held in rw (h.0) at held

  pub swept_unused : (n : ℕ) → SameUsed W X → Unused (labels_of W) W k n → Unused (labels_of X) X k n
  swept_unused n used h = unused_on (labels_of W) (labels_of X) W X k n used swept_back h

  -- one more place of the site is used, the first that was not
  module _ {n : ℕ} (u : ℕ) (xs : List (Slot V)) (is : (p : ℕ) → X p ≡ slot K xs p) (r y : Slot V) (low : t < length xs) (here : t < n) (same : (y.label ≡ r.label) × (y.share ≡ r.share) × (y.winner ≡ r.winner) × (y.best ≡ r.best) × (y.first ≡ r.first) × (y.next ≡ r.next)) (at_t : r ≡ slot K xs t) (now : y.used ≡ u + 1) (used : r.used ≡ u) where
    stays : {F : Type 0} (f : Slot V → F) → f y ≡ f r → (p : ℕ) → f ((slot K (set xs t y)) p) ≡ f (X p)
    stays {F} f e p = slot_stays K xs t y low F f (e ∙ ap f at_t) p ∙ ap f (sym (is p))

    more_swept : Swept K W (slot K (set xs t y)) k t v
    more_swept = record {
      here = λ p at. stays (λ z. z.label) same.0 p ∙ swept.here p at;
      other = λ p off. stays (λ z. z.label) same.0 p ∙ swept.other p off;
      shares = λ p. stays (λ z. z.share) same.1 p ∙ swept.shares p;
      winners = λ p. (stays (λ z. z.winner) same.2 p ∙ (swept.winners p).0, stays (λ z. z.best) same.3 p ∙ (swept.winners p).1);
      links = λ p. (stays (λ z. z.first) same.4 p ∙ (swept.links p).0, stays (λ z. z.next) same.5 p ∙ (swept.links p).1);
    }

    more_used : ((slot K (set xs t y)) t).used ≡ u + 1
    more_used = ap (λ z. z.used) (slot_same K xs t y low) ∙ now

    more_unused : u < k → Unused (labels_of X) X k n → Unused (λ p. ((slot K (set xs t y)) p).label) (slot K (set xs t y)) k n
    more_unused few h = record {
      low = λ s lt. ⊎_elim
          (λ e. let e_used : (slot K (set xs t y) s).used ≡ u + 1 = ap (λ z. (slot K (set xs t y) z).used) e ∙ more_used in omega (arith, e_used, few))
          (λ ne. subst (λ (z : ℕ). z ≤ k) (sym (ap (λ z. z.used) (slot_other K xs t y low s ne ∙ sym (is s)))) (h.low s lt))
          (cases_eq s t);
      free = λ s q lt a b. ap (λ z. is_held z.state) (stays (λ z. z.label) same.0 q) ∙
          ⊎_elim
          (λ e. let u_is : (X t).used ≡ u = ap (λ z. z.used) (is t ∙ sym at_t) ∙ used in
          let e_used = ap (λ z. ((slot K (set xs t y)) z).used) e ∙ more_used in
          let e_k : s * k ≡ t * k = ap (λ z. z * k) e in
          h.free t q here (omega (arith, u_is, a, e_used, e_k)) (omega (arith, b, e_k)))
          (λ ne. h.free s q lt (rw (ap (λ z. z.used) (slot_other K xs t y low s ne ∙ sym (is s))) at a) b)
          (cases_eq s t);
    }

    more_free : In k t (t * k + u) → Unused (labels_of X) X k n → is_held ((slot K (set xs t y)) (t * k + u)).label.state ≡ false
    more_free at h = ap (λ z. is_held z.state) (stays (λ z. z.label) same.0 (t * k + u)) ∙
        h.free t (t * k + u) here (omega (arith, ap (λ z. z.used) (is t ∙ sym at_t) ∙ used)) at.1

    -- all of it together
    pub more_room : u < k → In k t (t * k + u) → Unused (labels_of X) X k n →
        Swept K W (slot K (set xs t y)) k t v × Unused (labels_of (slot K (set xs t y))) (slot K (set xs t y)) k n × ((slot K (set xs t y) t).used ≡ u + 1) × (is_held (slot K (set xs t y) (t * k + u)).label.state ≡ false)
    more_room few at h = (more_swept, more_unused few h, more_used, more_free at h)

  -- the newcomer y is put at the free place x
  module _ {n : ℕ} {l : L} {Y : ℕ → Slot V} {x : ℕ} {y : Label V} (fits : Fits K l (labels_of W)) (noted : Noted K l (labels_of W) W k n) (val : y.value ≡ v) (waits : is_queued y.state ≡ true) (at : In k t x) (free : is_held ((labels_of X) x).state ≡ false) (low : x < t * k + (X t).used) (lt : t < n) (unused : Unused (labels_of X) X k n) (puts : Wrote K l X Y x y) where
    put_adds : Adds K (labels_of W) (labels_of Y) (t * k) (t * k + k) x y
    put_adds = swept_adds K swept (labels_of Y) x y val at free puts.here (λ p ne. (puts.other p ne).0)

    put_held : (p : ℕ) → Held (labels_of Y) p → (p ≡ x) ⊎ ((p ≡ x → ⊥) × Held (labels_of X) p × ((labels_of Y) p ≡ (labels_of X) p))
    put_held p held = ⊎_elim inl (λ ne. let e = (puts.other p ne).0 in inr (ne, rw e at held, e)) (cases_eq p x)

    put_unused : Unused (labels_of Y) Y k n
    put_unused = record {
      low = λ s ls. rw (puts.used s) (unused.low s ls);
      free = λ s q ls a b. ⊎_elim
          (λ e. let same : s ≡ t = one_site k s t q (omega arith, b) (rw e at) in
          let e_used : (Y s).used ≡ (X t).used = ap (λ z. (Y z).used) same ∙ puts.used t in
          let e_k : s * k ≡ t * k = ap (λ z. z * k) same in
          absurd (omega (arith, a, e, e_used, e_k, low)))
          (λ ne. ap (λ z. is_held z.state) (puts.other q ne).0 ∙ unused.free s q ls (rw (puts.used s) at a) b)
          (cases_eq q x);
    }

    put_grounds : Grounds K l (labels_of Y) Y k n
    put_grounds = record {
      unused = put_unused;
      inside = λ i some ls. rw ((puts.winners i).0 ∙ (swept.winners i).0) (noted.grounds.inside i some ls);
      shares = λ p held. ⊎_elim
          (λ e. rw e (puts.share ∙ ap (λ z. K.ratio z.value l) (sym puts.here)))
          (λ g. let old = swept_held K swept p g.1 in
          (puts.other p g.0).1 ∙ swept.shares p ∙ noted.grounds.shares p (swept_back p g.1) ∙ ap (λ z. K.ratio z.value l) (sym (g.2 ∙ old.0)))
          (put_held p held);
    }

    pub put_entered : Entered K l (labels_of Y) Y k n t x
    put_entered = record {
      before = labels_of W;
      notes = W;
      fits = fits;
      noted = noted;
      adds = rw (puts.here) put_adds;
      waits = rw (puts.here) waits;
      winners = λ p. ((puts.winners p).0 ∙ (swept.winners p).0, (puts.winners p).1 ∙ (swept.winners p).1);
      grounds = put_grounds;
    }

    pub put_fits : Fit K l y.value → Fits K l (labels_of Y)
    put_fits fit p held = ⊎_elim
        (λ e. rw e (rw (puts.here) fit))
        (λ g. let old = swept_held K swept p g.1 in rw (g.2 ∙ old.0) (fits p (swept_back p g.1)))
        (put_held p held)

    -- also where the notes were set right afterwards
    pub put_done : (Z : ℕ → Slot V) → SameLabels Y Z → Adds K (labels_of W) (λ p. (Z p).label) (t * k) (t * k + k) x y
    put_done Z same = swept_adds K swept (λ p. (Z p).label) x y val at free ((same x).0 ∙ puts.here) (λ p ne. (same p).0 ∙ (puts.other p ne).0)

    pub put_links : (Z : ℕ → Slot V) → SameLists Y Z → SameLists W Z
    put_links Z same p =
        ((same p).0 ∙ (puts.links p).0 ∙ (swept.links p).0, (same p).1 ∙ (puts.links p).1 ∙ (swept.links p).1)

-- settled, and the notes set right afterwards
pub settles_same : {V : Type 0} {A B C : ℕ → Label V} {h : ℕ} → Settles A B h → ((p : ℕ) → C p ≡ B p) → Settles A C h
settles_same {h = h} steps same = record { here = same h ∙ steps.here; other = λ p ne. same p ∙ steps.other p ne }

pub links_trans : {V : Type 0} (W X Y : ℕ → Slot V) → SameLists W X → SameLists X Y → SameLists W Y
links_trans W X Y one two p = ((two p).0 ∙ (one p).0, (two p).1 ∙ (one p).1)

-- the label at h, of the site t, was settled: the place has another state, and nothing else is changed
module _ {V L : Type 0} (K : Kind V L) (xs : List (Slot V)) (h : ℕ) (y : Slot V) (low : h < length xs) (r : Slot V) (at_h : r ≡ slot K xs h)
    (same : (y.label ≡ record { state = Settled; value = r.label.value; previous = r.label.previous; link = r.label.link }) × (y.share ≡ r.share) × (y.winner ≡ r.winner) × (y.best ≡ r.best) × (y.used ≡ r.used) × (y.first ≡ r.first) × (y.next ≡ r.next)) where
  keeps : {F : Type 0} (f : Slot V → F) → f y ≡ f r → (p : ℕ) → f ((slot K (set xs h y)) p) ≡ f (slot K xs p)
  keeps {F} f e p = slot_stays K xs h y low F f (e ∙ ap f at_h) p

  pub settled_settles : Settles (table K xs) (labels_of (slot K (set xs h y))) h
  settled_settles = record {
    here = ap (λ z. z.label) (slot_same K xs h y low) ∙ same.0 ∙ ap (λ (z : Slot V). record { state = Settled; value = z.label.value; previous = z.label.previous; link = z.label.link }) at_h;
    other = λ p ne. ap (λ z. z.label) (slot_other K xs h y low p ne);
  }

  pub settled_links : SameLists (slot K xs) (slot K (set xs h y))
  settled_links p = (keeps (λ z. z.first) same.5 p, keeps (λ z. z.next) same.6 p)

  settled_value : (p : ℕ) → ((slot K (set xs h y)) p).label.value ≡ (table K xs p).value
  settled_value p = keeps (λ z. z.label.value) (ap (λ z. z.value) same.0) p

  module _ (l : L) (waits : Waits (table K xs) h) where
    settled_held : (p : ℕ) → Held (labels_of (slot K (set xs h y))) p → Held (table K xs) p
    settled_held p held = ⊎_elim (λ e. rw e (waits_held _ waits)) (λ ne. rw (ap (λ z. z.label) (slot_other K xs h y low p ne)) at held) (cases_eq p h)

    pub settled_fits : Fits K l (table K xs) → Fits K l (labels_of (slot K (set xs h y)))
    settled_fits fits p held = rw (settled_value p) (fits p (settled_held p held))

    settled_grounds : {k n : ℕ} → Grounds K l (table K xs) (slot K xs) k n → Grounds K l (labels_of (slot K (set xs h y))) (slot K (set xs h y)) k n
    settled_grounds {k} {n} g = record {
      unused = unused_on (table K xs) (labels_of (slot K (set xs h y))) (slot K xs) (slot K (set xs h y)) k n (λ p. keeps (λ z. z.used) same.4 p) settled_held g.unused;
      inside = λ i some ls. rw (keeps (λ z. z.winner) same.2 i) (g.inside i some ls);
      shares = λ p held. keeps (λ z. z.share) same.1 p ∙ g.shares p (settled_held p held) ∙ ap (λ (z : V). K.ratio z l) (sym (settled_value p));
    }

    pub settled_but : {k n t : ℕ} → In k t h → t < n → Noted K l (table K xs) (slot K xs) k n → NotedBut K l (labels_of (slot K (set xs h y))) (slot K (set xs h y)) k n t
    settled_but {k} {n} {t} at lt noted =
        changed K l (table K xs) (labels_of (slot K (set xs h y))) (slot K xs) (slot K (set xs h y)) k n t noted lt
        (λ q off. ap (λ z. z.label) (slot_other K xs h y low q (λ e. off (rw e at))))
        (λ i. keeps (λ z. z.winner) same.2 i) (λ s. keeps (λ z. z.best) same.3 s) (settled_grounds noted.grounds)

-- the first label comes to the first place of the site t, where none is held and none of the places is used; then one is
module _ {V L : Type 0} (K : Kind V L) (l : L) (X Y Z : ℕ → Slot V) (k n t x : ℕ) (y : Label V) (first : x ≡ t * k) (some : 0 < k) (lt : t < n) (none : (p : ℕ) → is_held (X p).label.state ≡ false) (noted : Noted K l (λ p. (X p).label) X k n)
    (fresh : (s : ℕ) → s < n → (X s).used ≡ 0) (waits : is_queued y.state ≡ true) (puts : Wrote K l X Y x y) (labels : SameLabels Y Z) (winners : SameWinners Y Z) (one : (Z t).used ≡ 1) (rest : (s : ℕ) → (s ≡ t → ⊥) → (Z s).used ≡ (Y s).used) where
  begun_here : (Z x).label ≡ y
  begun_here = (labels x).0 ∙ puts.here

  pub begun_other : (p : ℕ) → (p ≡ x → ⊥) → (Z p).label ≡ (X p).label
  begun_other p ne = (labels p).0 ∙ (puts.other p ne).0

  begun_only : (p : ℕ) → Held (labels_of Z) p → p ≡ x
  begun_only p held = ⊎_elim (λ e. e) (λ ne. absurd (both_ways _ (none p) (rw (begun_other p ne) at held))) (cases_eq p x)

  begun_in : In k t x
  begun_in = (omega arith, omega arith)

  pub begun_fits : Fit K l y.value → Fits K l (labels_of Z)
  begun_fits fit p held = rw (begun_only p held) (rw begun_here fit)

  begun_unused : Unused (labels_of Z) Z k n
  begun_unused = record {
    low = λ s ls. ⊎_elim (λ e. rw e (rw one (omega arith))) (λ ne. rw (rest s ne ∙ puts.used s ∙ fresh s ls) (omega arith)) (cases_eq s t);
    free = λ s q ls a b. false_from_ne_true _
        (λ held. let e = begun_only q held in
        let same : s ≡ t = one_site k s t q (omega arith, b) (rw e begun_in) in
        let e_used : (Z s).used ≡ 1 = ap (λ z. (Z z).used) same ∙ one in
        let e_k : s * k ≡ t * k = ap (λ z. z * k) same in
        absurd (omega (arith, a, e, e_used, e_k, first)));
  }

  pub begun_entered : Entered K l (labels_of Z) Z k n t x
  begun_entered = record {
    before = labels_of X;
    notes = X;
    fits = λ p held. absurd (both_ways _ (none p) held);
    noted = noted;
    adds = record {
      inside = begun_in;
      new = refl;
      free = λ d. both_ways _ (none x) (done_held _ d);
      gone = λ held. absurd (both_ways _ (none x) held);
      other = λ p ne. inl (begun_other p ne);
      left = λ p ne at w. absurd (ne (begun_only p (waits_held _ w)));
    };
    waits = rw begun_here waits;
    winners = λ p. ((winners p).0 ∙ (puts.winners p).0, (winners p).1 ∙ (puts.winners p).1);
    grounds = record {
      unused = begun_unused;
      inside = λ i low ls. rw ((winners i).0 ∙ (puts.winners i).0) (noted.grounds.inside i low ls);
      shares = λ p held. rw (begun_only p held) ((labels x).1 ∙ puts.share ∙ ap (λ z. K.ratio z.value l) (sym begun_here));
    };
  }

-- where the sites before s were freed, and then s
pub freed_more : {V : Type 0} (A B : ℕ → Label V) (W : ℕ → Slot V) (k n s : ℕ) → s < n → Unused A W k n → ((p : ℕ) → s * k ≤ p → p < s * k + (W s).used → is_held (B p).state ≡ false) → ((p : ℕ) → Held B p → Held A p) → Frees A (s * k) → Frees B ((s + 1) * k)
freed_more A B W k n s lt unused here back free p low =
    let more : (s + 1) * k ≡ s * k + k = ap (λ z. z * k) (omega arith) ∙ suc-mul s k in
    false_from_ne_true _
    (λ held. ⊎_elim
    (λ before. both_ways _ (free p before) (back p held))
    (λ ge. ⊎_elim
    (λ used. both_ways _ (here p ge used) held)
    (λ past. both_ways _ (unused.free s p lt past (omega (arith, low, more))) (back p held))
    (cases_lt p (s * k + (W s).used)))
    (cases_lt p (s * k)))
