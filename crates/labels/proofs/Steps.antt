-- What a step of the search keeps.
use Rattle.std.proofs.Common.{◌≡◌, ℕ, suc, ◌+◌, ◌*◌, ◌<◌, true, false, cond, ltb, ◌⊎◌, List, [], ◌∷◌, ◌++◌, sym, refl, ap, ◌∙◌, subst, subst₂, inl, inr, ⊎_elim, arith}
use Rattle.std.proofs.lemmas.Bool.{both_ways, cases_eq, cases_Bool, cond_both, false_from_ne_true, ltb-true, ltb-false}
use Rattle.labels.specs.declared.State.TheVariants.{Queued}
use Rattle.labels.specs.declared.Label.{Label}
use Rattle.measure.specs.Kind.{Kind, Made, made_empty}
use Rattle.measure.specs.Laws.{Laws}
use Rattle.measure.specs.Ranks.{Fit, ranks}
use Rattle.catalogue.specs.Walks.{extend, Walk}
use Rattle.catalogue.specs.Routes.{First, Outside, Crowded}
use Rattle.labels.proofs.Extending.{extend_made, extend_over, rank_extend}
use Rattle.labels.specs.Labels.{is_queued, is_settled, In, Held, Waits, Done, Off, Chain, path, Has, Met, Kept, Spread, SpreadAll, Last, Settles, Adds, Starts}
use Rattle.labels.proofs.Cover.{Covered, Covers, Late, goes_more, first_best, none_left}
use Rattle.measure.proofs.Ranking.{rank_dom, rank_trans, rank_antisym}
use Rattle.labels.proofs.Chains.{one_site, at_or, done_held, waits_held, held_cases, not_both, Same, same_from, chain_keep, chain_walk, chain_off}

-- the label at h is settled
module _ {V : Type 0} {A B : ℕ → Label V} {h : ℕ} (steps : Settles A B h) where
  settle_same : (p : ℕ) → Same A B p
  settle_same p =
      at_or (Same A B) h (record { value = ap (λ x. x.value) steps.here; previous = ap (λ x. x.previous) steps.here; link = ap (λ x. x.link) steps.here }) p (λ ne. same_from A B p (steps.other p ne))

  pub settle_done : Done B h
  settle_done = ap (λ x. is_settled x.state) steps.here

  pub settle_on : (p : ℕ) → Done A p → Done B p
  settle_on p d = at_or (Done B) h settle_done p (λ ne. rw (steps.other p ne) d)

  settle_back : (p : ℕ) → Done B p → Done A p ⊎ (p ≡ h)
  settle_back p d = ⊎_elim inr (λ ne. inl (rw (steps.other p ne) at d)) (cases_eq p h)

  module _ (waits : Waits A h) where
    settle_waits : (p : ℕ) → Waits B p → Waits A p
    settle_waits p w = at_or (Waits A) h waits p (λ ne. rw (steps.other p ne) at w)

    settle_held : (p : ℕ) → Held B p → Held A p
    settle_held p d = at_or (Held A) h (waits_held _ waits) p (λ ne. rw (steps.other p ne) at d)

module _ {V L : Type 0} {K : Kind V L} (laws : Laws K) {l : L} (adm : K.limit_admitted l ≡ true) {Lead : ℕ → ℕ → ℕ → V → Type 0} (links : (p s t : ℕ) (c : V) → Lead p s t c → Made K c) {k src dst : ℕ} {A : ℕ → Label V} (kept : Kept K l Lead k src dst A) where
  -- the label at h, of first rank among the queued, is settled
  module _ {B : ℕ → Label V} {h : ℕ} (steps : Settles A B h) (waits : Waits A h) (first : (q : ℕ) → Waits A q → ranks K l (A q).value (A h).value ≡ false) where
    settle_has : (t : ℕ) (w : V) → Has K l Lead k src dst A t w → Has K l Lead k src dst B t w
    settle_has t w (p, at, held, d) =
        (p, at, at_or (Held B) h (done_held _ (settle_done steps)) p (λ ne. rw (steps.other p ne) held), rw (settle_same steps p).value d)

    settle_met : (In k dst h → ⊥) → (t : ℕ) (w : V) → Met K l Lead k src dst A t w → Met K l Lead k src dst B t w
    settle_met off t w (inl has) = inl (settle_has t w has)
    settle_met off t w (inr (q, at, waiting, r)) = let same = steps.other q (λ e. off (rw e at at)) in inr (q, at, rw same waiting, rw same r)

    -- it ranks no earlier than those that were settled before
    settle_order : (p q : ℕ) → Done B p → Waits A q → ranks K l (A q).value (A p).value ≡ false
    settle_order p q d w = ⊎_elim (λ da. kept.ordered p q da w) (λ e. rw e (first q w)) (settle_back steps p d)

    pub settle_kept : (In k dst h → ⊥) → Kept K l Lead k src dst B
    settle_kept off = record {
      fit = λ p held. rw (settle_same steps p).value (kept.fit p (settle_held steps waits p held));
      ordered = λ p q d w. rw ((settle_same steps q).value, (settle_same steps p).value) (settle_order p q d (settle_waits steps waits q w));
      apart = λ s p q ap aq hp hq ne. rw ((settle_same steps p).value, (settle_same steps q).value) (kept.apart s p q ap aq (settle_held steps waits p hp) (settle_held steps waits q hq) ne);
      chained = λ p held. let (qs, c) = kept.chained p (settle_held steps waits p held) in (qs, chain_keep laws l Lead links k src dst A B (λ q d. (settle_same steps q, settle_on steps q d)) qs p (settle_same steps p) c);
      start = settle_has src K.empty kept.start;
      ahead = λ p at d. ⊎_elim (kept.ahead p at) (λ e. off (rw e at at)) (settle_back steps p d);
    }

    pub settle_last : Last K l Lead k src dst B h
    settle_last p d = rw ((settle_same steps h).value, (settle_same steps p).value) (settle_order p h d waits)

    -- where what every settled label reaches was held
    pub settle_spread : (In k dst h → ⊥) → SpreadAll K l Lead k src dst A → Spread K l Lead k src dst B h 0
    settle_spread off all p s j t c d at lead low fits =
        rw (settle_same steps p).value
        (⊎_elim
        (λ da. settle_met off t (extend K (A p).value c) (all p s j t c da at lead (rw (settle_same steps p).value at fits)))
        (λ same. let none = low same in absurd (omega arith))
        (settle_back steps p d))

  -- the label at h, the last settled, is extended by the link at i to the value n at the site t, which no label held there dominates
  module _ (h i s t : ℕ) (c : V) (done : Done A h) (last : Last K l Lead k src dst A h) (at : In k s h) (lead : Lead i s t c) (fits : K.within (extend K (A h).value c) l ≡ true) (fresh : (p : ℕ) → In k t p → Held A p → K.dominates (A p).value (extend K (A h).value c) ≡ false) where
    abbrev n : V
    n = extend K (A h).value c

    fit_h : Fit K l (A h).value
    fit_h = kept.fit h (done_held _ done)

    made_c : Made K c
    made_c = links i s t c lead

    fit_n : Fit K l n
    fit_n = record { made = extend_made K (A h).value c fit_h.made made_c; within = fits }

    after : (p : ℕ) → Done A p → ranks K l n (A p).value ≡ false
    after p d = rank_trans laws l adm (A p).value (A h).value n (kept.fit p (done_held _ d)) fit_h fit_n (last p d) (rank_extend laws l adm (A h).value c fit_h.made made_c fit_n)

    -- the newcomer dominates no settled label at its site
    settled_stays : (p : ℕ) → In k t p → Done A p → K.dominates n (A p).value ≡ false
    settled_stays p ap d =
        false_from_ne_true _
        (λ over. let fp = kept.fit p (done_held _ d) in
        let e : (A p).value ≡ n = rank_antisym laws l adm (A p).value n fp fit_n (after p d) (rank_dom laws l adm n (A p).value fit_n fp over) in
        both_ways _ (fresh p ap (done_held _ d)) (subst (λ x. K.dominates (A p).value x ≡ true) e (laws.dom_refl (A p).value fp.made)))

    -- k labels held at t, none of which the newcomer dominates, and the newcomer
    pub crowded : ((p : ℕ) → In k t p → Held A p × (Waits A p → K.dominates n (A p).value ≡ false)) → Crowded K l Lead k src t
    crowded full = record {
      value = value;
      walk = λ j lt. cond_both (ltb j k) (A (t * k + j)).value n Walked (λ e. old j (ltb-true j k e)) (λ _. new);
      apart = λ j m lj lm ne. pick j m lj lm ne (cases_Bool (ltb j k)) (cases_Bool (ltb m k));
    }
      where
        value : ℕ → V
        value j = cond (ltb j k) (A (t * k + j)).value n

        Walked : V → Type 0
        Walked v = (ps : List ℕ) × Walk K Lead src ps t v × K.within v l ≡ true

        inside : (j : ℕ) → j < k → In k t (t * k + j)
        inside j lt = omega arith

        old : (j : ℕ) → j < k → Walked (A (t * k + j)).value
        old j lt =
            let p = t * k + j in
            let held = (full p (inside j lt)).0 in
            let (qs, ch) = kept.chained p held in
            (path K Lead k src A qs p, chain_walk laws l Lead links k src dst A qs p t (inside j lt) ch, (kept.fit p held).within)

        new : Walked n
        new =
            let (qs, ch) = kept.chained h (done_held _ done) in
            (path K Lead k src A qs h ++ (i ∷ []), goes_more laws Lead links (path K Lead k src A qs h) src s t i K.empty (A h).value c (chain_walk laws l Lead links k src dst A qs h s at ch) lead, fits)

        not_over : (p : ℕ) → In k t p → K.dominates n (A p).value ≡ false
        not_over p ap = ⊎_elim (full p ap).1 (settled_stays p ap) (held_cases _ (full p ap).0)

        pick : (j m : ℕ) → j < suc k → m < suc k → (j ≡ m → ⊥) → (ltb j k ≡ true) ⊎ (ltb j k ≡ false) → (ltb m k ≡ true) ⊎ (ltb m k ≡ false) → K.dominates (value j) (value m) ≡ false
        pick j m lj lm ne (inl e) (inl f) =
            let pj = inside j (ltb-true j k e) in
            let pm = inside m (ltb-true m k f) in
            rw (e, f) (kept.apart t (t * k + j) (t * k + m) pj pm (full _ pj).0 (full _ pm).0 (λ same. ne (omega arith)))
        pick j m lj lm ne (inl e) (inr f) = let pj = inside j (ltb-true j k e) in rw (e, f) (fresh (t * k + j) pj (full _ pj).0)
        pick j m lj lm ne (inr e) (inl f) = rw (e, f) (not_over (t * k + m) (inside m (ltb-true m k f)))
        pick j m lj lm ne (inr e) (inr f) =
            let x = ltb-false j k e in
            let y = ltb-false m k f in
            absurd (ne (omega arith))

    module _ (C : ℕ → Label V) (x : ℕ) (adds : Adds K A C (t * k) (t * k + k) x (record { state = Queued; value = n; previous = h; link = i })) where
      add_value : (C x).value ≡ n
      add_value = ap (λ y. y.value) adds.new

      add_waits : Waits C x
      add_waits = ap (λ y. is_queued y.state) adds.new

      -- a settled label stays as it is
      add_done : (p : ℕ) → Done A p → C p ≡ A p
      add_done p d =
          ⊎_elim
          (λ e. absurd (adds.free (rw e at d)))
          (λ ne. ⊎_elim (λ e. e) (λ g. absurd (not_both _ g.2 d)) (adds.other p ne))
          (cases_eq p x)

      add_held : (p : ℕ) → Held C p → (p ≡ x) ⊎ ((p ≡ x → ⊥) × (C p ≡ A p))
      add_held p held =
          ⊎_elim inl
          (λ ne. ⊎_elim (λ e. inr (ne, e)) (λ g. absurd (both_ways _ g.3 held)) (adds.other p ne))
          (cases_eq p x)

      -- a label that is settled after was so before
      add_back : (p : ℕ) → Done C p → C p ≡ A p
      add_back p d = ⊎_elim (λ e. absurd (not_both _ add_waits (rw e at d))) (λ g. g.1) (add_held p (done_held _ d))

      add_done_back : (p : ℕ) → Done C p → Done A p
      add_done_back p d = rw (add_back p d) at d

      add_done_on : (p : ℕ) → Done A p → Done C p
      add_done_on p d = rw (add_done p d) d

      add_has : (u : ℕ) (w : V) → Made K w → Has K l Lead k src dst A u w → Has K l Lead k src dst C u w
      add_has u w mw (p, ap, held, d) =
          ⊎_elim
          (λ e. over (rw e at ap) (adds.gone (rw e at held)) (rw e at d) (kept.fit x (rw e at held)).made)
          (λ ne. ⊎_elim
          (λ e. (p, ap, rw e held, rw e d))
          (λ g. over (subst (λ y. In k y x) (one_site k t u p g.1 ap) adds.inside) g.0 d (kept.fit p held).made)
          (adds.other p ne))
          (cases_eq p x)
        where
          over : {y : V} → In k u x → K.dominates n y ≡ true → K.dominates y w ≡ true → Made K y → Has K l Lead k src dst C u w
          over {y} ux ny yw my = (x, ux, waits_held _ add_waits, rw add_value (laws.dom_trans n y w fit_n.made my mw ny yw))

      -- a label at the destination that gives up its place does so to one that ranks no later
      add_met : (u : ℕ) (w : V) → Fit K l w → Met K l Lead k src dst A u w → Met K l Lead k src dst C u w
      add_met u w fw (inl has) = inl (add_has u w fw.made has)
      add_met u w fw (inr (q, at_q, waiting, r)) =
          ⊎_elim
          (λ e. over (rw e at at_q) (adds.gone (rw e at (waits_held _ waiting))) (rw e at (kept.fit q (waits_held _ waiting))) (rw e at r))
          (λ ne. ⊎_elim
          (λ e. inr (q, at_q, rw e waiting, rw e r))
          (λ g. over (subst (λ y. In k y x) (one_site k t dst q g.1 at_q) adds.inside) g.0 (kept.fit q (waits_held _ waiting)) r)
          (adds.other q ne))
          (cases_eq q x)
        where
          over : {y : V} → In k dst x → K.dominates n y ≡ true → Fit K l y → ranks K l w y ≡ false → Met K l Lead k src dst C u w
          over {y} dx ny fy later = inr (x, dx, add_waits, rw add_value (rank_trans laws l adm n y w fit_n fy fw (rank_dom laws l adm n y fit_n fy ny) later))

      add_kept : Kept K l Lead k src dst C
      add_kept = record {
        fit = λ p held. ⊎_elim (λ e. rw e (rw add_value fit_n)) (λ g. rw (g.1) (kept.fit p (rw (g.1) at held))) (add_held p held);
        ordered = λ p q d w. rw (add_back p d)
            (⊎_elim
            (λ e. rw e (rw add_value (after p (add_done_back p d))))
            (λ g. rw (g.1) (kept.ordered p q (add_done_back p d) (rw (g.1) at w)))
            (add_held q (waits_held _ w)));
        apart = λ u p q pu qu hp hq ne. apart u p q pu qu hp hq ne (add_held p hp) (add_held q hq);
        chained = λ p held. ⊎_elim (λ e. rw e chain_new) (λ g. let (qs, ch) = kept.chained p (rw (g.1) at held) in (qs, chain_keep laws l Lead links k src dst A C keep qs p (same_from A C p g.1) ch)) (add_held p held);
        start = add_has src K.empty (made_empty) kept.start;
        ahead = λ p ap d. kept.ahead p ap (add_done_back p d);
      }
        where
          keep : (q : ℕ) → Done A q → Same A C q × Done C q
          keep q d = (same_from A C q (add_done q d), add_done_on q d)

          chain_new : (qs : List ℕ) × Chain K Lead k src C qs x
          chain_new =
              let (qs, ch) = kept.chained h (done_held _ done) in
              let off = chain_off laws l Lead links k src dst A (λ p held. (kept.fit p held).made) t n fit_n.made fresh qs h done (extend_over laws (A h).value c fit_h.made made_c) ch in (
                h ∷ qs,
                (
                  ap (λ y. y.previous) adds.new,
                  add_done_on h done,
                  record {
                    from = s;
                    to = t;
                    value = c;
                    in_from = at;
                    in_to = adds.inside;
                    leads = subst (λ y. Lead y s t c) (sym (ap (λ y. y.link) adds.new)) lead;
                    joined = add_value ∙ ap (λ y. extend K y.value c) (sym (add_done h done));
                  },
                  λ u ux. subst (λ y. Off k y (h ∷ qs)) (one_site k t u x adds.inside ux) off,
                  chain_keep laws l Lead links k src dst A C keep qs h (same_from A C h (add_done h done)) ch,
                ),
              )

          apart : (u p q : ℕ) → In k u p → In k u q → Held C p → Held C q → (p ≡ q → ⊥) → (p ≡ x) ⊎ ((p ≡ x → ⊥) × (C p ≡ A p)) → (q ≡ x) ⊎ ((q ≡ x → ⊥) × (C q ≡ A q)) → K.dominates (C p).value (C q).value ≡ false
          apart u p q pu qu hp hq ne (inl e) (inl f) = absurd (ne (e ∙ sym f))
          apart u p q pu qu hp hq ne (inl e) (inr g) =
              let qt : In k t q = subst (λ y. In k y q) (one_site k u t x (rw e at pu) adds.inside) qu in
              rw (e, add_value) (⊎_elim (adds.left q g.0 qt) (λ d. rw (g.1) (settled_stays q qt (add_done_back q d))) (held_cases _ hq))
          apart u p q pu qu hp hq ne (inr g) (inl f) =
              let pt : In k t p = subst (λ y. In k y p) (one_site k u t x (rw f at qu) adds.inside) pu in
              rw (g.1, f, add_value) (fresh p pt (rw (g.1) at hp))
          apart u p q pu qu hp hq ne (inr g) (inr f) = rw (g.1, f.1) (kept.apart u p q pu qu (rw (g.1) at hp) (rw (f.1) at hq) ne)

      -- a place of the catalogue holds one link
      add_spread : ((j s t s' t' : ℕ) (c c' : V) → Lead j s t c → Lead j s' t' c' → (t ≡ t') × (c ≡ c')) → Spread K l Lead k src dst A h i → Spread K l Lead k src dst C h (i + 1)
      add_spread only spread p u j v b d ap ld low fit =
          let e = add_back p d in
          let da = add_done_back p d in
          let fit' = rw e at fit in
          let fj : Fit K l (extend K (A p).value b) = record { made = extend_made K (A p).value b (kept.fit p (done_held _ da)).made (links j u v b ld); within = fit' } in
          rw e
          (⊎_elim
          (λ ph. ⊎_elim
          (λ ji. let (vt, bc) = only i s t u v c b lead (subst (λ y. Lead y u v b) ji ld) in
          subst₂ (λ y z. Met K l Lead k src dst C y (extend K (A z).value b)) vt (sym ph) (subst (λ y. Met K l Lead k src dst C t (extend K (A h).value y)) bc (inl held_n)))
          (λ ne. add_met v (extend K (A p).value b) fj (spread p u j v b da ap ld (λ e. let lt = low e in let less : j < i = omega arith in less) fit'))
          (cases_eq j i))
          (λ ne. add_met v (extend K (A p).value b) fj (spread p u j v b da ap ld (λ e. absurd (ne e)) fit'))
          (cases_eq p h))
        where
          held_n : Has K l Lead k src dst C t n
          held_n = (x, adds.inside, waits_held _ add_waits, rw add_value (laws.dom_refl n fit_n.made))

      -- all that is kept of the labels, and the label at h, which is as it was
      pub added : ((j s t s' t' : ℕ) (c c' : V) → Lead j s t c → Lead j s' t' c' → (t ≡ t') × (c ≡ c')) → Spread K l Lead k src dst A h i → Kept K l Lead k src dst C × Done C h × Last K l Lead k src dst C h × Spread K l Lead k src dst C h (i + 1)
      added only spread = (add_kept, add_done_on h done, λ p d. rw (add_done h done, add_back p d) (last p (add_done_back p d)), add_spread only spread)

-- the link at i brings nothing, or what it brings need not be held
pub skip_spread : {V L : Type 0} (K : Kind V L) (l : L) (Lead : ℕ → ℕ → ℕ → V → Type 0) (k src dst : ℕ) (A : ℕ → Label V) (h i : ℕ) → Spread K l Lead k src dst A h i → ((s t : ℕ) (c : V) → In k s h → Lead i s t c → K.within (extend K (A h).value c) l ≡ true → Met K l Lead k src dst A t (extend K (A h).value c)) → Spread K l Lead k src dst A h (i + 1)
skip_spread K l Lead k src dst A h i spread here p s j t c d at lead low fits =
    ⊎_elim
    (λ e. ⊎_elim
    (λ ji. rw e (here s t c (rw e at at) (subst (λ x. Lead x s t c) ji lead) (rw e at fits)))
    (λ ne. spread p s j t c d at lead (λ e. let lt = low e in let less : j < i = omega arith in less) fits)
    (cases_eq j i))
    (λ ne. spread p s j t c d at lead (λ e. absurd (ne e)) fits)
    (cases_eq p h)

-- The end of the search, where what every settled label reaches is held or need not be.
module _ {V L : Type 0} {K : Kind V L} (laws : Laws K) {l : L} (adm : K.limit_admitted l ≡ true) {Lead : ℕ → ℕ → ℕ → V → Type 0} (links : (p s t : ℕ) (c : V) → Lead p s t c → Made K c) {k src dst : ℕ} {A : ℕ → Label V} (kept : Kept K l Lead k src dst A) (all : SpreadAll K l Lead k src dst A) where
  abbrev At : (ℕ → Type 0) → ℕ → V → Type 0
  At P s v = (p : ℕ) × In k s p × P p × ((A p).value ≡ v)

  table_has : (t : ℕ) (w : V) → Has K l Lead k src dst A t w → Covered K l Lead src (At (Waits A)) (At (Done A)) t w
  table_has t w (p, ap, held, d) = ((A p).value, ⊎_elim (λ w. inl (p, ap, w, refl)) (λ d. inr (p, ap, d, refl)) (held_cases _ held), d)

  table_met : (t : ℕ) (w : V) → Met K l Lead k src dst A t w → Covered K l Lead src (At (Waits A)) (At (Done A)) t w ⊎ Late K l Lead src (At (Waits A)) (At (Done A)) w
  table_met t w (inl has) = inl (table_has t w has)
  table_met t w (inr (q, at, waiting, r)) = inr (dst, (A q).value, (q, at, waiting, refl), r)

  table_covers : Covers K l Lead src (At (Waits A)) (At (Done A))
  table_covers = record {
    queued_fit = λ s v q. subst (Fit K l) q.3 (kept.fit q.0 (waits_held _ q.2));
    settled_fit = λ s v q. subst (Fit K l) q.3 (kept.fit q.0 (done_held _ q.2));
    start = table_has src K.empty kept.start;
    spread = λ s h q p t c lead fits.
        table_met t (extend K h c) (subst (λ y. Met K l Lead k src dst A t (extend K y c)) q.3 (all q.0 s p t c q.2 q.1 lead (rw (q.3) fits)));
  }

  none_done : (v : V) → At (Done A) dst v → ⊥
  none_done v q = kept.ahead q.0 q.1 q.2

  -- the first queued label stands at the destination: its walk is best
  pub found_first : (p : ℕ) → Waits A p → ((q : ℕ) → Waits A q → ranks K l (A q).value (A p).value ≡ false) → First K l Lead src dst (A p).value
  found_first p w first =
      first_best laws l adm Lead links src (At (Waits A)) (At (Done A)) table_covers dst (A p).value (kept.fit p (waits_held _ w)) none_done
      (λ s v q. subst (λ y. ranks K l y (A p).value ≡ false) q.3 (first q.0 q.2))

  -- no label is queued: no walk joins the ends
  pub nothing_left : ((q : ℕ) → Waits A q → ⊥) → Outside K l Lead src dst
  nothing_left empty = none_left laws l adm Lead links src (At (Waits A)) (At (Done A)) table_covers dst none_done (λ s v q. empty q.0 q.2)

-- The first table: one label is held, at the source, with the value empty.
module _ {V L : Type 0} {K : Kind V L} (laws : Laws K) (l : L) (adm : K.limit_admitted l ≡ true) (Lead : ℕ → ℕ → ℕ → V → Type 0) (k src dst : ℕ) {A : ℕ → Label V} {x : ℕ} (at : In k src x) (starts : Starts K A x) where
  only_x : (p : ℕ) → Held A p → p ≡ x
  only_x p held = ⊎_elim (λ e. e) (λ ne. absurd (both_ways _ (starts.other p ne) held)) (cases_eq p x)

  waits_x : Waits A x
  waits_x = ap (λ y. is_queued y.state) starts.here

  no_done : (p : ℕ) → Done A p → ⊥
  no_done p d = not_both _ waits_x (subst (Done A) (only_x p (done_held _ d)) d)

  empty_at : (A x).value ≡ K.empty
  empty_at = ap (λ y. y.value) starts.here

  pub start_kept : Kept K l Lead k src dst A
  start_kept = record {
    fit = λ p held. rw (only_x p held) (rw empty_at (record { made = made_empty; within = laws.empty_within l adm }));
    ordered = λ p q d w. absurd (no_done p d);
    apart = λ s p q sp sq hp hq ne. absurd (ne (only_x p hp ∙ sym (only_x q hq)));
    chained = λ p held. ([], rw (only_x p held) (at, empty_at, ap (λ y. y.previous) starts.here));
    start = (x, at, waits_held _ waits_x, rw empty_at (laws.dom_refl K.empty made_empty));
    ahead = λ p ap d. no_done p d;
  }

  pub start_spread : SpreadAll K l Lead k src dst A
  start_spread p s j t c d at lead fits = absurd (no_done p d)
