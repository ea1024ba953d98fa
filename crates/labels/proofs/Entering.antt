-- A newcomer is compared with the best place of its site alone: what the notes say where it does not lead its site, and where it does.
use Rattle.std.proofs.Common.{◌≡◌, ℕ, zero, suc, ◌+◌, ◌-◌, ◌*◌, ◌<◌, ◌≤◌, true, false, ◌⊎◌, List, length, get_or, set, sym, ap, ◌∙◌, subst, subst₂, ⊎_elim, arith}
use Rattle.std.proofs.lemmas.Bool.{both_ways, cases_eq, cases_lt}
use Rattle.std.proofs.lemmas.List.{get_or_default}
use Rattle.measure.specs.Kind.{Kind}
use Rattle.measure.specs.Laws.{Laws}
use Rattle.measure.specs.Ranks.{Fit, ranks}
use Rattle.measure.proofs.Ranking.{rank_self, rank_trans, rank_dom}
use Rattle.labels.specs.declared.Label.{Label}
use Rattle.labels.specs.declared.Slot.{Slot}
use Rattle.labels.specs.Labels.{is_queued, In, Held, Waits, Fits, slot, table, blank_slot}
use Rattle.labels.specs.Tournament.{named, Precedes, Better, SiteBest, Crowned, Noted, NotedUnder, Entered}
use Rattle.labels.proofs.Chains.{one_site, at_or, waits_held}
use Rattle.labels.proofs.Nodes.{site_room, named_inner, named_leaf, named_same}
use Rattle.labels.proofs.Standing.{precedes_same, better_same}
use Rattle.labels.proofs.Climbing.{changed, sited, site_best_same}
use Rattle.labels.proofs.Writes.{slot_same, slot_other, slot_stays}

-- a node names the best place of a site
best_of : {V L : Type 0} (K : Kind V L) (l : L) (A : ℕ → Label V) (W : ℕ → Slot V) (k n : ℕ) → Noted K l A W k n → (f c : ℕ) → 2 * n ≤ c + f → 1 ≤ c → c < 2 * n → (s : ℕ) × (s < n) × (named W n c ≡ (W s).best)
best_of K l A W k n noted zero c le some low = absurd (omega arith)
best_of K l A W k n noted (suc f) c le some low =
    ⊎_elim
    (λ lt. let down : (d : ℕ) → c < d → d < 2 * n → (W c).winner ≡ named W n d → (s : ℕ) × (s < n) × (named W n c ≡ (W s).best) = λ d more top e. let (s, of, is) = best_of K l A W k n noted f d (omega arith) (omega arith) top in (s, of, named_inner W n c lt ∙ e ∙ is) in
    ⊎_elim
    (down (2 * c) (omega arith) (omega arith))
    (down (2 * c + 1) (omega arith) (omega arith))
    (noted.crowned c some lt).one)
    (λ ge. (c - n, omega arith, named_leaf W n c ge))
    (cases_lt c n)

module _ {V L : Type 0} {K : Kind V L} {l : L} {C : ℕ → Label V} {X : ℕ → Slot V} {k n t x : ℕ} (entered : Entered K l C X k n t x) where
  -- the labels and the notes before
  abbrev A : ℕ → Label V
  A = entered.before

  abbrev W : ℕ → Slot V
  W = entered.notes

  -- the best place of its site before
  abbrev b : ℕ
  b = (W t).best

  -- the best place of its site, as it was noted, is a place of the network
  pub best_inside : t < n → (X t).best < n * k
  best_inside here =
      let at = (entered.noted.bests t here).at in
      omega (arith, (entered.winners t).1, at.1, site_room k t n here)

  -- what is held beside the newcomer was there before
  stood : (q : ℕ) → (q ≡ x → ⊥) → Held C q → C q ≡ A q
  stood q ne held = ⊎_elim (λ e. e) (λ g. absurd (both_ways _ g.3 held)) (entered.adds.other q ne)

  -- the labels of other sites stay
  away : (q : ℕ) → (In k t q → ⊥) → C q ≡ A q
  away q off = ⊎_elim (λ e. e) (λ g. absurd (off g.1)) (entered.adds.other q (λ e. off (subst (In k t) (sym e) entered.adds.inside)))

  -- so do the best places of other sites
  best_away : (s : ℕ) → s < n → (s ≡ t → ⊥) → C (W s).best ≡ A (W s).best
  best_away s lt ne = away _ (λ at. ne (one_site k s t (W s).best (entered.noted.bests s lt).at at))

  bests_away : (s : ℕ) → s < n → (s ≡ t → ⊥) → SiteBest K l C k s (W s).best
  bests_away s lt ne = let was = entered.noted.bests s lt in record {
    at = was.at;
    first = λ q at. precedes_same K l A C _ q (best_away s lt ne) (away q (λ z. ne (one_site k s t q at z))) (was.first q at);
  }

  -- the best place of its site is queued still, and the newcomer does not rank before it
  module _ (here : t < n) (ne : b ≡ x → ⊥) (front : Precedes K l C b x) where
    -- so every node names a place whose label is as it was
    best_stays : (s : ℕ) → s < n → C (W s).best ≡ A (W s).best
    best_stays s lt =
        ⊎_elim
        (λ e. subst (λ y. C (W y).best ≡ A (W y).best) (sym e) (stood _ ne (waits_held _ (front entered.waits).0)))
        (best_away s lt)
        (cases_eq s t)

    node_stays : (c : ℕ) → 1 ≤ c → c < 2 * n → C (named W n c) ≡ A (named W n c)
    node_stays c some low =
        let (s, lt, is) = best_of K l A W k n entered.noted (2 * n) c (omega arith) some low in
        subst (λ y. C y ≡ A y) (sym is) (best_stays s lt)

    crowned_stays : Crowned K l C X n
    crowned_stays i some lt =
        let same = named_same W X n (λ j. (entered.winners j).0) (λ s. (entered.winners s).1) in
        let win = subst (λ y. C y ≡ A y) (named_inner W n i lt) (node_stays i some (omega arith)) in
        subst₂ (λ y z. Better K l C y z (X i).winner) (sym (same (2 * i))) (sym (same (2 * i + 1)))
        (subst (Better K l C (named W n (2 * i)) (named W n (2 * i + 1))) (sym (entered.winners i).0)
        (better_same K l A C _ _ _ (node_stays (2 * i) (omega arith) (omega arith)) (node_stays (2 * i + 1) (omega arith) (omega arith)) win (entered.noted.crowned i some lt)))

    site_stays : SiteBest K l C k t b
    site_stays = let was = entered.noted.bests t here in record {
      at = was.at;
      first = λ q at. at_or (Precedes K l C b) x front q (λ off w. precedes_same K l A C _ q (best_stays t here) (stood q off (waits_held _ w)) (was.first q at) w);
    }

    noted_stays : Noted K l C X k n
    noted_stays = record {
      grounds = entered.grounds;
      bests = λ s lt. subst (SiteBest K l C k s) (sym (entered.winners s).1) (⊎_elim (λ e. subst (λ y. SiteBest K l C k y (W y).best) (sym e) site_stays) (bests_away s lt) (cases_eq s t));
      crowned = crowned_stays;
    }

  -- the newcomer is not the better
  pub entered_stays : t < n → (r : ℕ) → Better K l C (X t).best x r → (r ≡ x → ⊥) → Noted K l C X k n
  entered_stays here r better worse =
      let best : r ≡ b = ⊎_elim (λ e. e ∙ (entered.winners t).1) (λ e. absurd (worse e)) better.one in
      noted_stays here (λ e. worse (best ∙ e)) (subst (λ y. Precedes K l C y x) best better.right)

  -- the newcomer is at the best place of its site, or goes before the label there
  module _ (laws : Laws K) (adm : K.limit_admitted l ≡ true) (fits : Fits K l C) (here : t < n) (ahead : ((X t).best ≡ x) ⊎ Precedes K l C x (X t).best) where
    fit_x : Fit K l (C x).value
    fit_x = fits x (waits_held _ entered.waits)

    -- the best label before does not rank before it: where that was given up the newcomer dominates it
    passes : Waits A b → ranks K l (A b).value (C x).value ≡ false
    passes waits = ⊎_elim (λ e. met (sym (entered.winners t).1 ∙ e)) behind ahead
      where
        over : K.dominates (C x).value (A b).value ≡ true → ranks K l (A b).value (C x).value ≡ false
        over d = rank_dom laws l adm (C x).value (A b).value fit_x (entered.fits _ (waits_held _ waits)) d

        met : b ≡ x → ranks K l (A b).value (C x).value ≡ false
        met e = over (subst (λ y. K.dominates (C x).value (A y).value ≡ true) (sym e) (entered.adds.gone (subst (Held A) e (waits_held _ waits))))

        behind : Precedes K l C x (X t).best → ranks K l (A b).value (C x).value ≡ false
        behind p =
            let front : Precedes K l C x b = subst (Precedes K l C x) (entered.winners t).1 p in
            ⊎_elim met
            (λ ne. ⊎_elim
            (λ e. subst (λ y. ranks K l y.value (C x).value ≡ false) e (front (subst (λ y. is_queued y.state ≡ true) (sym e) waits)).1)
            (λ g. over g.0)
            (entered.adds.other b ne))
            (cases_eq b x)

    -- so it ranks first at its site
    leads : SiteBest K l C k t x
    leads = record {
      at = entered.adds.inside;
      first = λ q at. at_or (Precedes K l C x) x (λ w. (w, rank_self laws l adm (C x).value fit_x)) q (λ ne w.
          let same = stood q ne (waits_held _ w) in
          let (waits, after) = (entered.noted.bests t here).first q at (subst (λ y. is_queued y.state ≡ true) same w) in (
            entered.waits,
            rank_trans laws l adm (C x).value (A b).value (C q).value fit_x (entered.fits _ (waits_held _ waits)) (fits q (waits_held _ w)) (passes waits)
                (subst (λ y. ranks K l y.value (A b).value ≡ false) (sym same) after),
          ));
    }

    -- its place is noted at its site
    pub entered_under : (D : ℕ → Label V) (Y : ℕ → Slot V) → ((p : ℕ) → D p ≡ C p) → ((p : ℕ) → (Y p).share ≡ (X p).share) → ((s : ℕ) → (Y s).used ≡ (X s).used) → ((i : ℕ) → (Y i).winner ≡ (X i).winner) → ((s : ℕ) → (s ≡ t → ⊥) → (Y s).best ≡ (X s).best) → (Y t).best ≡ x → NotedUnder K l D Y k n (n + t)
    entered_under D Y labels shares used winners bests best =
        sited K l C D X Y k n labels shares used t winners bests
        (changed K l A C W X k n t entered.noted here away (λ i. (entered.winners i).0) (λ s. (entered.winners s).1) entered.grounds)
        (subst (SiteBest K l D k t) (sym best) (site_best_same K l C D X Y k n labels t x leads))

-- the place x is written as the best of the site t, where a newcomer came to it that leads
pub entered_leads : {V L : Type 0} {K : Kind V L} {l : L} (xs : List (Slot V)) {k n t x : ℕ} → Entered K l (table K xs) (slot K xs) k n t x → Laws K → K.limit_admitted l ≡ true → Fits K l (table K xs) → t < n → t < length xs → ((slot K xs t).best ≡ x) ⊎ Precedes K l (table K xs) x (slot K xs t).best →
    (y r : Slot V) → y.label ≡ (get_or xs t r).label → y.share ≡ (get_or xs t r).share → y.winner ≡ (get_or xs t r).winner → y.used ≡ (get_or xs t r).used → y.best ≡ x → NotedUnder K l (table K (set xs t y)) (slot K (set xs t y)) k n (n + t)
entered_leads {K = K} {l = l} xs {k = k} {n = n} {t = t} {x = x} entered laws adm fits here low ahead y r label share winner used best =
    let read : get_or xs t r ≡ slot K xs t = get_or_default xs t r (blank_slot K) low in
    entered_under entered laws adm fits here ahead (table K (set xs t y)) (slot K (set xs t y))
    (slot_stays K xs t y low _ (λ z. z.label) (label ∙ ap (λ z. z.label) read))
    (slot_stays K xs t y low _ (λ z. z.share) (share ∙ ap (λ z. z.share) read))
    (slot_stays K xs t y low _ (λ z. z.used) (used ∙ ap (λ z. z.used) read))
    (slot_stays K xs t y low _ (λ z. z.winner) (winner ∙ ap (λ z. z.winner) read))
    (λ s ne. ap (λ z. z.best) (slot_other K xs t y low s ne))
    (ap (λ z. z.best) (slot_same K xs t y low) ∙ best)
