-- What a turn of each scan over the labels keeps.
use Rattle.std.specs.Prelude.{MatchOption}
use Rattle.std.proofs.Common.{subst, true, ◌≡◌, ℕ, ◌+◌, ◌-◌, ◌*◌, Bool, ◌<◌, ◌≤◌, false, cond, ◌⊎◌, List, ◌++◌, length, get_or, take, drop, map, set, slice_range, position, refl, Some, None, Option, sym, ap, ◌∙◌, inl, inr, ⊎_elim, arith}
use Rattle.std.proofs.lemmas.List.{get_or-map, get_or_default, get_or_append_left, get_or-append_right, get_or-take, get_or-drop, length-map, length-take-le}
use Rattle.std.proofs.lemmas.List.Edits.{length-between, get_or-between, map_over_more}
use Rattle.std.proofs.lemmas.List.Folds.{Any-from_list_any, list_any_at}
use Rattle.std.proofs.lemmas.List.Quantifiers.{position-Some}
use Rattle.std.proofs.lemmas.List.Sums.{fails_before_first}
use Rattle.std.specs.List.{list_any}
use borrow.Rule.Slice.PartMut.{put_mid}
use Rattle.std.proofs.lemmas.Bool.{both_ways, cases_Bool, cond-true, cond-false, cases_lt, ltb-false, not-true, not-false, false_from_ne_true, and_parts, and_cases}
use Rattle.labels.specs.declared.Label.{Label}
use Rattle.labels.specs.declared.Slot.{Slot}
use Rattle.measure.specs.Kind.{Kind}
use Rattle.labels.specs.Labels.{is_held, is_queued, is_settled, is_free, In, Held, covers, Waits, slot, table, blank_slot, yields, freed, cleared, Swept, Adds, Frees}
use Rattle.labels.specs.Tournament.{Unused, SameUsed}
use Rattle.labels.proofs.Chains.{waits_held, done_held, not_both}

-- where every label is freed
pub frees_map : {V L : Type 0} (K : Kind V L) (xs : List (Slot V)) → Frees (table K (map freed xs)) (length (map freed xs))
frees_map K xs p lt = ap (λ y. is_held y.label.state) (get_or-map freed xs p (blank_slot K) (blank_slot K) (simp length-map at lt))

-- what clearing makes of a label: it is freed where it yields, else it stays
module _ {V L : Type 0} (K : Kind V L) (n : V) (x : Slot V) where
  cleared_cases : (yields K n x ≡ true × (cleared K n x ≡ freed x)) ⊎ ((yields K n x ≡ false) × (cleared K n x ≡ x))
  cleared_cases = ⊎_elim (λ e. inl (e, cond-true _ _ _ e)) (λ e. inr (e, cond-false _ _ _ e)) (cases_Bool (yields K n x))

  cleared_held : is_held (cleared K n x).label.state ≡ true → (is_held x.label.state ≡ true) × (is_queued x.label.state ≡ true → K.dominates n x.label.value ≡ false)
  cleared_held held =
      ⊎_elim
      (λ f. absurd (both_ways _ (ap (λ z. is_held z.label.state) (f.1)) held))
      (λ k. (rw (k.1) at held, λ w. ⊎_elim (λ q. absurd (both_ways _ q w)) (λ d. d) (and_cases _ _ k.0)))
      cleared_cases

  cleared_free : is_held (cleared K n x).label.state ≡ false → (is_settled x.label.state ≡ true → ⊥) × (is_held x.label.state ≡ true → K.dominates n x.label.value ≡ true)
  cleared_free free =
      ⊎_elim
      (λ f. let parts = and_parts _ _ f.0 in (not_both _ parts.0, λ _. parts.1))
      (λ k. (λ d. both_ways _ free (rw (k.1) (done_held _ d)), λ held. absurd (both_ways _ free (rw (k.1) held))))
      cleared_cases

none_false : {X : Type 0} (b : Bool) (x : X) → cond b (Some x) None ≡ None → b ≡ false
none_false true x e = cc
none_false false x e = refl

-- where no place is found, the test fails everywhere
position_none : {X : Type 0} (test : X → Bool) (xs : List X) → position test xs ≡ None → (p : ℕ) (d : X) → p < length xs → test (get_or xs p d) ≡ false
position_none test xs e p d lt =
    let past = ltb-false _ _ (none_false _ _ e) in
    fails_before_first test xs p d (omega arith)

-- a free place stays as it is
free_stays : {V L : Type 0} (K : Kind V L) (n : V) (x : Slot V) → is_held x.label.state ≡ false → yields K n x ≡ false
free_stays K n x free = false_from_ne_true _ (λ e. both_ways _ free (waits_held _ (and_parts _ _ e).0))

-- one more place is gone over: it was freed where it yields, else it stays
pub cleared_more : {V L : Type 0} (K : Kind V L) (v : V) (xs ys zs : List (Slot V)) (i : ℕ) (r : Slot V) → i < length xs → ys ≡ map (cleared K v) (take i xs) ++ drop i xs → r ≡ get_or ys i r →
    ((yields K v (get_or ys i r) ≡ true) × (zs ≡ set ys i (freed (get_or ys i r)))) ⊎ ((yields K v (get_or ys i r) ≡ false) × (zs ≡ set ys i (get_or ys i r))) → zs ≡ map (cleared K v) (take (i + 1) xs) ++ drop (i + 1) xs
cleared_more {V} K v xs ys zs i r lt so is turn =
    let on : zs ≡ set ys i (cleared K v (get_or ys i r)) = ⊎_elim
    (λ e. e.1 ∙ ap (set ys i) (sym (cond-true (yields K v (get_or ys i r)) (freed (get_or ys i r)) (get_or ys i r) e.0)))
    (λ e. e.1 ∙ ap (set ys i) (sym (cond-false (yields K v (get_or ys i r)) (freed (get_or ys i r)) (get_or ys i r) e.0)))
    turn in
    on ∙ ap (λ (y : Slot V). set ys i (cleared K v y)) (sym is) ∙ map_over_more (cleared K v) xs ys i r lt so is

-- a place is of the site, or not
pub in_or_off : (k t p : ℕ) → In k t p ⊎ (In k t p → ⊥)
in_or_off k t p = ⊎_elim (λ low. inr (λ at. omega (arith, at.0))) (λ ge. ⊎_elim (λ lt. inl (ge, lt)) (λ high. inr (λ at. omega (arith, at.1))) (cases_lt p (t * k + k))) (cases_lt p (t * k))

-- u places, from s on
module _ {V L : Type 0} (K : Kind V L) (xs : List (Slot V)) (s u : ℕ) (room : s + u ≤ length xs) where
  abbrev used_here : List (Slot V)
  used_here = slice_range xs s (s + u)

  here_long : length used_here ≡ u
  here_long = length-between xs s (s + u) room ∙ omega arith

  here_at : (p : ℕ) → p < u → slot K used_here p ≡ slot K xs (s + p)
  here_at p lt = get_or-between xs s (s + u) p (blank_slot K) (omega arith)

  here_of : (p : ℕ) → s ≤ p → p < s + u → slot K used_here (p - s) ≡ slot K xs p
  here_of p low high = here_at (p - s) (omega arith) ∙ ap (slot K xs) (omega arith)

  -- each of them is changed by f
  module _ (f : Slot V → Slot V) where
    abbrev made_here : List (Slot V)
    made_here = map f used_here

    -- all places, with these in them
    abbrev made_all : List (Slot V)
    made_all = put_mid s (s + u - s) xs made_here

    made_long : length made_here ≡ u
    made_long = length-map used_here f ∙ here_long

    in_front : length (take s xs) ≡ s
    in_front = length-take-le s xs (omega arith)

    written_of : (p : ℕ) → s ≤ p → p < s + u → slot K made_all p ≡ slot K made_here (p - s)
    written_of p low high =
        get_or-append_right (take s xs) _ s p (blank_slot K) in_front low ∙ get_or_append_left made_here _ (blank_slot K) (p - s) (omega (arith, made_long))

    pub made_in : (p : ℕ) → s ≤ p → p < s + u → slot K made_all p ≡ f (slot K xs p)
    made_in p low high =
        written_of p low high ∙ get_or-map f used_here (p - s) (blank_slot K) (blank_slot K) (omega (arith, here_long)) ∙ ap f (here_of p low high)

    pub made_off : (p : ℕ) → (p < s) ⊎ (s + u ≤ p) → slot K made_all p ≡ slot K xs p
    made_off p out =
        ⊎_elim
        (λ low. get_or_append_left (take s xs) _ (blank_slot K) p (omega (arith, in_front)) ∙ get_or-take s xs p (blank_slot K) low)
        (λ high. get_or-append_right (take s xs) _ s p (blank_slot K) in_front (omega arith) ∙ get_or-append_right made_here _ u (p - s) (blank_slot K) made_long (omega arith)
        ∙ get_or-drop (s + u - s) (drop s xs) (p - s - u) (blank_slot K) ∙ get_or-drop s xs (s + u - s + (p - s - u)) (blank_slot K) ∙ ap (slot K xs) (omega arith))
        out

    -- a place is one of them, or stays
    made_either : (p : ℕ) → ((s ≤ p) × (p < s + u) × (slot K made_all p ≡ f (slot K xs p))) ⊎ (slot K made_all p ≡ slot K xs p)
    made_either p =
        ⊎_elim
        (λ low. inr (made_off p (inl low)))
        (λ ge. ⊎_elim (λ lt. inl (ge, lt, made_in p ge lt)) (λ high. inr (made_off p (inr high))) (cases_lt p (s + u)))
        (cases_lt p s)

    -- what f leaves of a place stays
    pub made_stays : {T : Type 0} (h : Slot V → T) → ((x : Slot V) → h (f x) ≡ h x) → (p : ℕ) → h (slot K made_all p) ≡ h (slot K xs p)
    made_stays h same p = ⊎_elim (λ e. ap h e.2 ∙ same (slot K xs p)) (λ e. ap h e) (made_either p)

    -- one of them passes a test
    pub found_here : (test : Slot V → Bool) (x : ℕ) → position test made_here ≡ Some x → (x < u) × (test (slot K made_all (s + x)) ≡ true)
    found_here test x found =
        let hit = position-Some test made_here x (blank_slot K) found in
        let within : x < u = omega (arith, made_long, hit.0) in
        let back : s + x - s ≡ x = omega arith in
        (within, ap test (written_of (s + x) (omega arith) (omega arith) ∙ ap (slot K made_here) back) ∙ hit.1)

    -- none of them does
    pub none_here : (test : Slot V → Bool) → position test made_here ≡ None → (p : ℕ) → s ≤ p → p < s + u → test (slot K made_all p) ≡ false
    none_here test none p low high =
        ap test (written_of p low high) ∙ position_none test made_here none (p - s) (blank_slot K) (omega (arith, made_long))

  -- they are freed
  pub freed_here : (p : ℕ) → s ≤ p → p < s + u → is_held (table K (made_all freed) p).state ≡ false
  freed_here p low high = ap (λ x. is_held x.label.state) (made_in freed p low high)

  pub freed_back : (p : ℕ) → Held (table K (made_all freed)) p → Held (table K xs) p
  freed_back p held = ⊎_elim (λ e. absurd (both_ways _ (freed_here p e.0 e.1) held)) (λ e. subst (λ x. is_held x.label.state ≡ true) e held) (made_either freed p)

-- the used places of the site t, from s on, u of the k that it has: the others are free
module _ {V L : Type 0} (K : Kind V L) (xs : List (Slot V)) (k t s u : ℕ) (first : s ≡ t * k) (few : u ≤ k) (room : s + u ≤ length xs) (past : (p : ℕ) → s + u ≤ p → p < s + k → is_held (table K xs p).state ≡ false) where
  -- a place of the site is used, or free
  used_or_free : (p : ℕ) → In k t p → (p < s + u) ⊎ (is_held (table K xs p).state ≡ false)
  used_or_free p at = ⊎_elim inl (λ ge. inr (past p ge (omega (arith, at.1)))) (cases_lt p (s + u))

  pub dominated_here : (n : V) → list_any (covers K n) (used_here K xs s u room) ≡ true → (p : ℕ) × In k t p × Held (table K xs) p × (K.dominates (table K xs p).value n ≡ true)
  dominated_here n some =
      let (p, x, lt, is, covered) = Any-from_list_any (covers K n) (used_here K xs s u room) some in
      let within : p < u = omega (arith, here_long K xs s u room) in
      let parts = and_parts _ _ (ap (covers K n) (sym (here_at K xs s u room p within) ∙ get_or_default (used_here K xs s u room) p (blank_slot K) x lt ∙ is) ∙ covered) in
      (s + p, (omega arith, omega arith), parts.0, parts.1)

  pub fresh_here : (n : V) → list_any (covers K n) (used_here K xs s u room) ≡ false → (p : ℕ) → In k t p → Held (table K xs) p → K.dominates (table K xs p).value n ≡ false
  fresh_here n none p at held =
      ⊎_elim
      (λ lt. ⊎_elim (λ e. absurd (both_ways _ e held)) (λ e. e)
      (and_cases _ _ (false_from_ne_true _ (λ e. both_ways _ none (list_any_at (covers K n) (used_here K xs s u room) (p - s) (blank_slot K) (omega (arith, here_long K xs s u room, at.0)) (ap (covers K n) (here_of K xs s u room p (omega (arith, at.0)) lt) ∙ e))))))
      (λ free. absurd (both_ways _ free held))
      (used_or_free p at)

  module _ (v : V) where
    -- all places, where the labels that a newcomer of the value v dominates have given up theirs
    abbrev swept_all : List (Slot V)
    swept_all = made_all K xs s u room (cleared K v)

    -- a place of the site, used or not
    swept_in : (p : ℕ) → In k t p → slot K swept_all p ≡ cleared K v (slot K xs p)
    swept_in p at =
        ⊎_elim
        (λ lt. made_in K xs s u room (cleared K v) p (omega (arith, at.0)) lt)
        (λ ge. made_off K xs s u room (cleared K v) p (inr ge) ∙ sym (cond-false _ _ _ (free_stays K v (slot K xs p) (past p ge (omega (arith, at.1))))))
        (cases_lt p (s + u))

    swept_off : (p : ℕ) → (In k t p → ⊥) → slot K swept_all p ≡ slot K xs p
    swept_off p off =
        made_off K xs s u room (cleared K v) p (⊎_elim (λ low. inl low) (λ ge. ⊎_elim (λ lt. absurd (off (omega arith, omega arith))) (λ high. inr high) (cases_lt p (s + u))) (cases_lt p s))

    pub swept_made : Swept K (slot K xs) (slot K swept_all) k t v × SameUsed (slot K xs) (slot K swept_all)
    swept_made = (
      record {
        here = λ p at. ap (λ x. x.label) (swept_in p at);
        other = λ p off. ap (λ x. x.label) (swept_off p off);
        shares = λ p. stays (λ x. x.share) (λ x. refl) p;
        winners = λ p. (stays (λ x. x.winner) (λ x. refl) p, stays (λ x. x.best) (λ x. refl) p);
        links = λ p. (stays (λ x. x.first) (λ x. refl) p, stays (λ x. x.next) (λ x. refl) p);
      },
      λ p. stays (λ x. x.used) (λ x. refl) p,
    )
      where
        stays : {T : Type 0} (h : Slot V → T) → ((x : Slot V) → h (freed x) ≡ h x) → (p : ℕ) → h (slot K swept_all p) ≡ h (slot K xs p)
        stays h same = made_stays K xs s u room (cleared K v) h (λ x. ⊎_elim (λ e. ap h e.1 ∙ same x) (λ e. ap h e.1) (cleared_cases K v x))

    -- the first of them that is free, if one is
    pub swept_found : u ≡ (slot K xs t).used → (r : Option ℕ) → r ≡ position is_free (made_here K xs s u room (cleared K v)) → MatchOption r ((p : ℕ) → t * k ≤ p → p < t * k + (slot K xs t).used → Held (table K swept_all) p) (λ x. (x < (slot K xs t).used) × (is_held (table K swept_all (t * k + x)).state ≡ false))
    swept_found is None e = λ p low high. not-false _ (none_here K xs s u room (cleared K v) is_free (sym e) p (omega (arith, low)) (omega (arith, high, is)))
    swept_found is (Some x) e =
        let (lt, free) = found_here K xs s u room (cleared K v) is_free x (sym e) in
        (omega (arith, lt, is), subst (λ z. is_held (table K swept_all (z + x)).state ≡ false) first (not-true _ free))

-- of the places of a site, u are used, and the others are free
module _ {V : Type 0} {A : ℕ → Label V} {W : ℕ → Slot V} {k n : ℕ} (unused : Unused A W k n) (t s u : ℕ) (lt : t < n) (first : s ≡ t * k) (is : u ≡ (W t).used) where
  pub used_few : u ≤ k
  used_few = rw is (unused.low t lt)

  pub used_past : (p : ℕ) → s + u ≤ p → p < s + k → is_held (A p).state ≡ false
  used_past p low high = unused.free t p lt (omega (arith, low, is)) (omega (arith, high))

-- a newcomer comes to a free place of its site, where the labels that it dominates have given up theirs
module _ {V L : Type 0} (K : Kind V L) {W X : ℕ → Slot V} {k t : ℕ} {v : V} (swept : Swept K W X k t v) where
  abbrev was : ℕ → Label V
  was p = (W p).label

  -- a label that is held after the sweep was so before, and is the same
  pub swept_held : (p : ℕ) → Held (λ q. (X q).label) p → ((X p).label ≡ was p) × (In k t p → Waits was p → K.dominates v (was p).value ≡ false)
  swept_held p held =
      ⊎_elim
      (λ at. ⊎_elim
      (λ f. absurd (both_ways _ (ap (λ z. is_held z.state) (swept.here p at ∙ ap (λ z. z.label) f.1)) held))
      (λ f. (swept.here p at ∙ ap (λ z. z.label) f.1, λ _ w. ⊎_elim (λ q. absurd (both_ways _ q w)) (λ d. d) (and_cases _ _ f.0)))
      (cleared_cases K v (W p)))
      (λ off. (swept.other p off, λ at. absurd (off at)))
      (in_or_off k t p)

  -- where no place of the site is free
  pub swept_full : ((p : ℕ) → In k t p → Held (λ q. (X q).label) p) → (p : ℕ) → In k t p → Held was p × (Waits was p → K.dominates v (was p).value ≡ false)
  swept_full all p at = let h = swept_held p (all p at) in (rw (h.0) at (all p at), h.1 at)

  -- where the newcomer y comes to the free place x
  pub swept_adds : (C : ℕ → Label V) (x : ℕ) (y : Label V) → y.value ≡ v → In k t x → is_held (X x).label.state ≡ false → C x ≡ y → ((p : ℕ) → (p ≡ x → ⊥) → C p ≡ (X p).label) → Adds K was C (t * k) (t * k + k) x y
  swept_adds C x y val at free here other =
      let gone = cleared_free K v (W x) (rw (swept.here x at) at free) in
      record {
        inside = at;
        new = here;
        free = gone.0;
        gone = λ held. rw val (gone.1 held);
        other = λ p ne. ⊎_elim
            (λ ap_p. ⊎_elim
            (λ f. let parts = and_parts _ _ f.0 in
            inr (rw val (parts.1), ap_p, parts.0, ap (λ z. is_held z.state) (other p ne ∙ swept.here p ap_p ∙ ap (λ z. z.label) f.1)))
            (λ f. inl (other p ne ∙ swept.here p ap_p ∙ ap (λ z. z.label) f.1))
            (cleared_cases K v (W p)))
            (λ off. inl (other p ne ∙ swept.other p off))
            (in_or_off k t p);
        left = λ p ne in_p w.
            let e = other p ne in
            let h = swept_held p (rw e at (waits_held _ w)) in
            rw (val, e, h.0) (h.1 in_p (rw (e, h.0) at w));
      }
