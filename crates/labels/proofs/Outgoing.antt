-- The lists of links grow by a place at a time, from the last place down to the first.
use Rattle.std.proofs.Common.{◌≡◌, ℕ, zero, suc, ◌+◌, ◌-◌, ◌<◌, ◌≤◌, min, is_some, List, ◌++◌, length, get_or, take, drop, set, None, Option, refl, sym, ap, ◌∙◌, subst, ⊎_elim, arith}
use Rattle.std.proofs.lemmas.Bool.{cases_eq, cases_lt}
use Rattle.std.proofs.lemmas.List.{get_or_default, get_or_past, get_or_append_left, get_or-append_right, get_or-take, get_or-drop, length-take-le}
use Rattle.measure.specs.Kind.{Kind}
use Rattle.catalogue.specs.declared.Link.{Link}
use Rattle.catalogue.specs.Places.{at, EmptyFrom}
use Rattle.report.proofs.Clearing.{none_of}
use Rattle.catalogue.specs.Walks.{Holds}
use Rattle.catalogue.proofs.Walking.{holds_one}
use Rattle.labels.specs.declared.Label.{Label}
use Rattle.labels.specs.declared.Slot.{Slot}
use Rattle.labels.specs.Labels.{slot, blank_slot, Opens}
use Rattle.labels.specs.Tournament.{SameLabels, SameLists}
use Rattle.labels.specs.Outgoing.{Skips, Lands, FirstFrom, Listed}
use Rattle.labels.proofs.Chains.{one_site}
use Rattle.labels.proofs.Finding.{holds_inside}
use Rattle.labels.proofs.Writes.{slot_same, slot_other, written}

module _ {V : Type 0} (links : List (Option (Link V))) where
  -- from a place on none is skipped before that place
  pub skips_none : (s i : ℕ) → Skips links s i i
  skips_none s i = record { order = omega arith; none = λ p t c ge lt h. omega arith }

  -- one place more, where no link leaves s
  pub skips_more : (s i j : ℕ) → ((t : ℕ) (c : V) → Holds links i s t c → ⊥) → Skips links s (i + 1) j → Skips links s i j
  skips_more s i j off skips = record {
    order = omega (arith, skips.order);
    none = λ p t c ge lt h. ⊎_elim (λ e. off t c (rw e at h)) (λ ne. skips.none p t c (omega arith) lt h) (cases_eq p i);
  }

  -- an empty place holds no link
  pub empty_holds : (p s t : ℕ) (c : V) → at links p ≡ None → Holds links p s t c → ⊥
  empty_holds p s t c empty h = cc

  -- a place holds the link of one site
  pub one_start : (p s t r u : ℕ) (c d : V) → Holds links p s t c → Holds links p r u d → s ≡ r
  one_start p s t r u c d h k = ap (λ x. x.start) (holds_one links p s t r u c d h k)

  -- past the last place there is nothing to list
  pub listed_none : (W : ℕ → Slot V) (n : ℕ) → ((s : ℕ) → s < n → (W s).first ≡ length links) → Listed links W n (length links)
  listed_none W n firsts = record {
    firsts = λ s lt. subst (FirstFrom links s (length links)) (sym (firsts s lt)) (skips_none s (length links), λ lt. absurd (omega arith));
    nexts = λ p s t c ge lt h. let inside : p < length links = holds_inside links p s t c h in absurd (omega arith);
  }

  -- the place noted after a link of s
  pub next_listed : (W : ℕ → Slot V) (n s i : ℕ) → Listed links W n 0 → s < n → i < length links → Lands links s i → FirstFrom links s (i + 1) (W i).next
  next_listed W n s i listed lt inside lands = let (t, c, h) = lands inside in listed.nexts i s t c (omega arith) lt h

  -- where the notes of the links stay, so do the lists
  pub listed_same : (W X : ℕ → Slot V) (n i : ℕ) → SameLists W X → Listed links W n i → Listed links X n i
  listed_same W X n i same listed = record {
    firsts = λ s lt. subst (FirstFrom links s i) (sym (same s).0) (listed.firsts s lt);
    nexts = λ p s t c ge lt h. subst (FirstFrom links s (p + 1)) (sym (same p).1) (listed.nexts p s t c ge lt h);
  }

  module _ (W : ℕ → Slot V) (n i : ℕ) (listed : Listed links W n (i + 1)) where
    -- the place i is empty
    pub listed_empty : at links i ≡ None → Listed links W n i
    listed_empty empty = record {
      firsts = λ s lt. let f = listed.firsts s lt in (skips_more s i (W s).first (λ t c h. empty_holds i s t c empty h) f.0, f.1);
      nexts = λ p s t c ge lt h. ⊎_elim (λ e. absurd (empty_holds i s t c empty (rw e at h))) (λ ne. listed.nexts p s t c (omega arith) lt h) (cases_eq p i);
    }

    -- the link at i leaves s: it becomes the first of s, and the first so far the next after it
    pub listed_more : (X : ℕ → Slot V) (s t : ℕ) (c : V) → s < n → Holds links i s t c → (X s).first ≡ i → (X i).next ≡ (W s).first →
        ((r : ℕ) → (r ≡ s → ⊥) → (X r).first ≡ (W r).first) → ((p : ℕ) → (p ≡ i → ⊥) → (X p).next ≡ (W p).next) → Listed links X n i
    listed_more X s t c lt h first next firsts nexts = record {
      firsts = λ r lr. ⊎_elim
          (λ e. rw e (subst (FirstFrom links s i) (sym first) (skips_none s i, λ inside. (t, c, h))))
          (λ ne. subst (FirstFrom links r i) (sym (firsts r ne)) (let f = listed.firsts r lr in (skips_more r i (W r).first (λ u d k. ne (one_start i r u s t d c k h)) f.0, f.1)))
          (cases_eq r s);
      nexts = λ p r u d ge lr k. ⊎_elim
          (λ e. let is_s : r ≡ s = one_start i r u s t d c (rw e at k) h in
          subst (λ q. FirstFrom links r (q + 1) (X q).next) (sym e) (rw is_s (subst (FirstFrom links s (i + 1)) (sym next) (listed.firsts s lt))))
          (λ ne. subst (FirstFrom links r (p + 1)) (sym (nexts p ne)) (listed.nexts p r u d (omega arith) lr k))
          (cases_eq p i);
    }

-- past the last place nothing stands
empty_past : {V : Type 0} (links : List (Option (Link V))) (e : ℕ) → EmptyFrom links e → EmptyFrom links (min e (length links))
empty_past links e rest = record {
  none = λ p le. ⊎_elim (λ lt. rest.none p (omega arith)) (λ ge. ap is_some (get_or_past links p None ge)) (cases_lt p (length links));
}

-- Where nothing stands from the place e on, the lists from there on are those from any later place on.
module _ {V : Type 0} (links : List (Option (Link V))) (W : ℕ → Slot V) (n : ℕ) where
  listed_down : (e : ℕ) → EmptyFrom links e → (k : ℕ) → Listed links W n (e + k) → Listed links W n e
  listed_down e rest zero listed = subst (Listed links W n) (omega arith) listed
  listed_down e rest (suc k) listed =
      listed_down e rest k (listed_empty links W n (e + k) (subst (Listed links W n) (omega arith) listed) (none_of (at links (e + k)) (rest.none (e + k) (omega arith))))

  pub listed_used : (e : ℕ) → EmptyFrom links e → Listed links W n (length links) → Listed links W n (min e (length links))
  listed_used e rest listed =
      let m = min e (length links) in
      listed_down m (empty_past links e rest) (length links - m) (subst (Listed links W n) (omega arith) listed)

-- the place with another first link noted for its site
abbrev pub with_first : {V : Type 0} → Slot V → ℕ → Slot V
with_first x f = record { label = x.label; share = x.share; winner = x.winner; best = x.best; used = x.used; first = f; next = x.next }

-- the place with another link noted after its own
abbrev pub with_next : {V : Type 0} → Slot V → ℕ → Slot V
with_next x f = record { label = x.label; share = x.share; winner = x.winner; best = x.best; used = x.used; first = x.first; next = f }

-- what a write of one field at i leaves of the places; r is what a read past the end would answer
module _ {V L : Type 0} (K : Kind V L) (xs : List (Slot V)) (i : ℕ) (r : Slot V) (inside : i < length xs) where
  pub slot_read : slot K xs i ≡ get_or xs i r
  slot_read = get_or_default xs i (blank_slot K) r inside

  -- a part of the place that the write leaves as it was
  part_stays : {A : Type 0} (part : Slot V → A) (y : Slot V) → part y ≡ part (get_or xs i r) → (p : ℕ) → part (slot K (set xs i y) p) ≡ part (slot K xs p)
  part_stays part y same = written K xs i y inside (λ q z. part z ≡ part (slot K xs q)) (same ∙ ap part (sym slot_read)) (λ p ne. refl)

  module _ (f : ℕ) where
    pub first_here : (slot K (set xs i (with_first (get_or xs i r) f)) i).first ≡ f
    first_here = ap (λ y. y.first) (slot_same K xs i (with_first (get_or xs i r) f) inside)

    pub first_other : (p : ℕ) → (p ≡ i → ⊥) → (slot K (set xs i (with_first (get_or xs i r) f)) p).first ≡ (slot K xs p).first
    first_other p ne = ap (λ y. y.first) (slot_other K xs i (with_first (get_or xs i r) f) inside p ne)

    pub first_nexts : (p : ℕ) → (slot K (set xs i (with_first (get_or xs i r) f)) p).next ≡ (slot K xs p).next
    first_nexts = part_stays (λ y. y.next) (with_first (get_or xs i r) f) refl

    pub first_labels : (W : ℕ → Slot V) → SameLabels W (slot K xs) → SameLabels W (slot K (set xs i (with_first (get_or xs i r) f)))
    first_labels W same p = (part_stays (λ y. y.label) (with_first (get_or xs i r) f) refl p ∙ (same p).0, part_stays (λ y. y.share) (with_first (get_or xs i r) f) refl p ∙ (same p).1)

    pub next_here : (slot K (set xs i (with_next (get_or xs i r) f)) i).next ≡ f
    next_here = ap (λ y. y.next) (slot_same K xs i (with_next (get_or xs i r) f) inside)

    pub next_other : (p : ℕ) → (p ≡ i → ⊥) → (slot K (set xs i (with_next (get_or xs i r) f)) p).next ≡ (slot K xs p).next
    next_other p ne = ap (λ y. y.next) (slot_other K xs i (with_next (get_or xs i r) f) inside p ne)

    pub next_firsts : (p : ℕ) → (slot K (set xs i (with_next (get_or xs i r) f)) p).first ≡ (slot K xs p).first
    next_firsts = part_stays (λ y. y.first) (with_next (get_or xs i r) f) refl

    pub next_labels : SameLabels (slot K xs) (slot K (set xs i (with_next (get_or xs i r) f)))
    next_labels p = (part_stays (λ y. y.label) (with_next (get_or xs i r) f) refl p, part_stays (λ y. y.share) (with_next (get_or xs i r) f) refl p)

-- the same labels as those of the same labels
pub labels_then : {V : Type 0} (W X Y : ℕ → Slot V) → SameLabels W X → SameLabels X Y → SameLabels W Y
labels_then W X Y a b p = ((b p).0 ∙ (a p).0, (b p).1 ∙ (a p).1)

-- what a write to the first n places leaves of all: they are zs now
module _ {V L : Type 0} (K : Kind V L) (xs zs : List (Slot V)) (n : ℕ) (room : n ≤ length xs) (long : length zs ≡ length (take n xs)) where
  long_front : length zs ≡ n
  long_front = long ∙ length-take-le n xs room

  pub front_at : (p : ℕ) → p < n → slot K (zs ++ drop n xs) p ≡ slot K zs p
  front_at p lt = get_or_append_left zs (drop n xs) (blank_slot K) p (omega (arith, long_front))

  back_at : (p : ℕ) → n ≤ p → slot K (zs ++ drop n xs) p ≡ slot K xs p
  back_at p ge = get_or-append_right zs (drop n xs) n p (blank_slot K) long_front ge ∙ get_or-drop n xs (p - n) (blank_slot K) ∙ ap (slot K xs) (omega arith)

  pub front_labels : SameLabels (slot K (take n xs)) (slot K zs) → SameLabels (slot K xs) (slot K (zs ++ drop n xs))
  front_labels same p = ⊎_elim
      (λ lt. let e = front_at p lt in
      let t : slot K (take n xs) p ≡ slot K xs p = get_or-take n xs p (blank_slot K) lt in
      (ap (λ y. y.label) e ∙ (same p).0 ∙ ap (λ y. y.label) t, ap (λ y. y.share) e ∙ (same p).1 ∙ ap (λ y. y.share) t))
      (λ ge. (ap (λ y. y.label) (back_at p ge), ap (λ y. y.share) (back_at p ge)))
      (cases_lt p n)

-- a label that is extended by the links before i is so by those before j, where no link between leaves its site
pub opens_past : {V L : Type 0} (K : Kind V L) (l : L) (cat : List (Option (Link V))) (k src dst : ℕ) (A : ℕ → Label V) (h site i j : ℕ) → Skips cat site i j → Opens K l cat k src dst A h site i → Opens K l cat k src dst A h site j
opens_past K l cat k src dst A h site i j skips opens = record {
  kept = opens.kept;
  done = opens.done;
  last = opens.last;
  at = opens.at;
  spread = λ p s q t c done at lead low fits. ⊎_elim
      (λ e. ⊎_elim
      (λ lt. opens.spread p s q t c done at lead (λ _. lt) fits)
      (λ ge. let is_site : s ≡ site = one_site k s site h (rw e at at) opens.at in absurd (skips.none q t c ge (low e) (rw is_site at lead)))
      (cases_lt q i))
      (λ ne. opens.spread p s q t c done at lead (λ e. absurd (ne e)) fits)
      (cases_eq p h);
}
