-- What a turn of the search keeps, over the catalogue and the table of the labels.
use Rattle.std.proofs.Common.{◌≡◌, ℕ, zero, suc, ◌+◌, ◌*◌, ◌<◌, ◌≤◌, Bool, true, false, List, [], ◌∷◌, length, Option, sym, refl, ap, ◌∙◌, subst, inl, inr, ⊎_elim, arith}
use Rattle.std.proofs.lemmas.Bool.{both_ways, false_from_ne_true, false≢true}
use Rattle.labels.specs.declared.State.TheVariants.{Queued}
use Rattle.labels.specs.declared.Label.{Label}
use Rattle.labels.specs.declared.Slot.{Slot}
use Rattle.labels.proofs.Extending.{extend_made}
use Rattle.catalogue.specs.declared.Link.{Link}
use Rattle.measure.specs.Kind.{Kind, Made}
use Rattle.measure.specs.Laws.{Laws}
use Rattle.measure.specs.Ranks.{Fit, ranks}
use Rattle.catalogue.specs.Walks.{Holds, extend}
use Rattle.catalogue.specs.Routes.{Sound, Outside, Crowded}
use Rattle.labels.proofs.Finding.{links_made, leads_one}
use Rattle.labels.specs.Labels.{is_held, is_queued, is_settled, In, Held, Waits, Done, Has, Beaten, Met, Settles, Adds, Steady, Offered, OffersNone, Opens, Rests, Leader, table, Wins, Starts}
use Rattle.labels.proofs.Chains.{one_site, at_or, done_held, waits_held, not_both}
use Rattle.labels.proofs.Steps.{skip_spread, crowded, added, settle_kept, settle_last, settle_spread, settle_done, settle_on, found_first, nothing_left, start_kept, start_spread}

pub adds_steady : {V L : Type 0} {K : Kind V L} {A C : ℕ → Label V} {start end x : ℕ} {y : Label V} → is_queued y.state ≡ true → Adds K A C start end x y → Steady A C
adds_steady {A = A} {C = C} {x = x} w adds p =
    at_or (λ q. is_settled (C q).state ≡ is_settled (A q).state) x (false_from_ne_true _ (not_both _ (rw adds.new w)) ∙ sym (false_from_ne_true _ adds.free)) p
    (λ ne. ⊎_elim
    (λ e. ap (λ z. is_settled z.state) e)
    (λ g. false_from_ne_true _ (λ d. both_ways _ g.3 (done_held _ d)) ∙ sym (false_from_ne_true _ (not_both _ g.2)))
    (adds.other p ne))

module _ {V L : Type 0} {K : Kind V L} (laws : Laws K) {l : L} (adm : K.limit_admitted l ≡ true) {sites : ℕ} {cat : List (Option (Link V))} (sound : Sound K sites cat) where
  links : (p s t : ℕ) (c : V) → Holds cat p s t c → Made K c
  links = links_made sites cat sound

  module _ {k src dst : ℕ} {A : ℕ → Label V} {h site i : ℕ} (opens : Opens K l cat k src dst A h site i) where
    -- the link at i leads nowhere within the limit, or what it brings need not be held
    goes_on : ((s t : ℕ) (c : V) → Holds cat i site t c → K.within (extend K (A h).value c) l ≡ true → Met K l (Holds cat) k src dst A t (extend K (A h).value c)) → Opens K l cat k src dst A h site (i + 1)
    goes_on here = record {
      kept = opens.kept;
      done = opens.done;
      last = opens.last;
      at = opens.at;
      spread = skip_spread K l (Holds cat) k src dst A h i opens.spread
          (λ s t c at lead. here s t c (subst (λ y. Holds cat i y t c) (one_site k s site h at opens.at) lead));
    }

    pub turn_none : OffersNone K l cat A h site i → Opens K l cat k src dst A h site (i + 1)
    turn_none none = goes_on (λ s t c lead fits. absurd (both_ways _ (none t c lead) fits))

    module _ {t : ℕ} {n : V} (offer : Offered K l cat A h site i t n) where
      -- what is brought fits
      pub turn_fit : Fit K l n
      turn_fit = record {
        made = subst (Made K) (sym offer.joined) (extend_made K (A h).value offer.value (opens.kept.fit h (done_held _ opens.done)).made (links i site t offer.value offer.leads));
        within = offer.within;
      }

      pub turn_dominated : (p : ℕ) → In k t p → Held A p → K.dominates (A p).value n ≡ true → Opens K l cat k src dst A h site (i + 1)
      turn_dominated p at_p held over =
          goes_on
          (λ s u c lead fits. let (ut, cc) = leads_one cat i site t site u offer.value c offer.leads lead in
          inl (subst (λ y. Has K l (Holds cat) k src dst A y (extend K (A h).value c)) ut
          (p, at_p, held, subst (λ y. K.dominates (A p).value y ≡ true) (offer.joined ∙ ap (extend K (A h).value) cc) over)))

      pub turn_beaten : Beaten K l k A dst n → Opens K l cat k src dst A h site (i + 1)
      turn_beaten beaten =
          goes_on
          (λ s u c lead fits. let (ut, cc) = leads_one cat i site t site u offer.value c offer.leads lead in
          inr (subst (λ y. Beaten K l k A dst y) (offer.joined ∙ ap (extend K (A h).value) cc) beaten))

      module _ (fresh : (p : ℕ) → In k t p → Held A p → K.dominates (A p).value n ≡ false) where
        abbrev j : V
        j = extend K (A h).value offer.value

        fits : K.within j l ≡ true
        fits = subst (λ y. K.within y l ≡ true) offer.joined offer.within

        fresh_j : (p : ℕ) → In k t p → Held A p → K.dominates (A p).value j ≡ false
        fresh_j p at held = subst (λ y. K.dominates (A p).value y ≡ false) offer.joined (fresh p at held)

        pub turn_full : ((p : ℕ) → In k t p → Held A p × (Waits A p → K.dominates n (A p).value ≡ false)) → Crowded K l (Holds cat) k src t
        turn_full full =
            crowded laws adm links opens.kept h i site t offer.value opens.done opens.last opens.at offer.leads fits fresh_j
            (λ p at. let f = full p at in (f.0, λ w. subst (λ y. K.dominates y (A p).value ≡ false) offer.joined (f.1 w)))

        pub turn_adds : (C : ℕ → Label V) (x : ℕ) → Adds K A C (t * k) (t * k + k) x (record { state = Queued; value = n; previous = h; link = i }) → Opens K l cat k src dst C h site (i + 1) × Steady A C
        turn_adds C x adds =
            let made : Adds K A C (t * k) (t * k + k) x (record { state = Queued; value = j; previous = h; link = i }) = subst (λ y. Adds K A C (t * k) (t * k + k) x (record { state = Queued; value = y; previous = h; link = i })) offer.joined adds in
            let (kept, done, last, spread) = added laws adm links opens.kept h i site t offer.value opens.done opens.last opens.at offer.leads fits fresh_j C x made (leads_one cat) opens.spread in
            (record { kept = kept; done = done; last = last; at = opens.at; spread = spread }, adds_steady refl adds)

  module _ {k src dst : ℕ} {A : ℕ → Label V} (rests : Rests K l cat k src dst A) where
    pub turn_settle : {B : ℕ → Label V} {h : ℕ} (site : ℕ) → Settles A B h → Waits A h → ((q : ℕ) → Waits A q → ranks K l (A q).value (A h).value ≡ false) → In k site h → (site ≡ dst → ⊥) → Opens K l cat k src dst B h site 0
    turn_settle {B} {h} site steps waits first at off = record {
      kept = settle_kept laws adm links rests.kept steps waits first (λ d. off (one_site k site dst h at d));
      done = settle_done steps;
      last = settle_last laws adm links rests.kept steps waits first;
      at = at;
      spread = settle_spread laws adm links rests.kept steps waits first (λ d. off (one_site k site dst h at d)) rests.spread;
    }

    pub turn_wins : (h : ℕ) → Waits A h → ((q : ℕ) → Waits A q → ranks K l (A q).value (A h).value ≡ false) → In k dst h → Wins K l cat k src dst A h
    turn_wins h waits first at = record {
      rests = rests;
      at = at;
      waits = waits;
      first = found_first laws adm links rests.kept rests.spread h waits first;
    }

    pub turn_apart : ((q : ℕ) → Waits A q → ⊥) → Outside K l (Holds cat) src dst
    turn_apart none = nothing_left laws adm links rests.kept rests.spread none

-- how many labels are not settled: this falls with each turn
weight : Bool → ℕ
weight true = 0
weight false = 1

pub unsettled : {V : Type 0} → List (Slot V) → ℕ
unsettled [] = 0
unsettled (x ∷ xs) = weight (is_settled x.label.state) + unsettled xs

weight_le : (a b : Bool) → (a ≡ true → b ≡ true) → weight b ≤ weight a
unfolding weight
weight_le true b h = rw (h refl) (omega arith)
weight_le false true h = omega arith
weight_le false false h = omega arith

weight_lt : (a b : Bool) → (a ≡ true → ⊥) → b ≡ true → weight b < weight a
unfolding weight
weight_lt true b h e = absurd (h refl)
weight_lt false b h e = rw e (omega arith)

module _ {V L : Type 0} (K : Kind V L) where
  unsettled_le : (xs ys : List (Slot V)) → length xs ≡ length ys → ((p : ℕ) → Done (table K xs) p → Done (table K ys) p) → unsettled ys ≤ unsettled xs
  unfolding unsettled
  unsettled_le [] [] e on = omega arith
  unsettled_le [] (y ∷ ys) e on = absurd (omega arith)
  unsettled_le (x ∷ xs) [] e on = absurd (omega arith)
  unsettled_le (x ∷ xs) (y ∷ ys) e on =
      let a = unsettled_le xs ys (omega arith) (λ p. on (suc p)) in
      let b = weight_le (is_settled x.label.state) (is_settled y.label.state) (on 0) in
      omega arith

  pub unsettled_less : (xs ys : List (Slot V)) (h : ℕ) → length xs ≡ length ys → ((p : ℕ) → Done (table K xs) p → Done (table K ys) p) → h < length xs → (Done (table K xs) h → ⊥) → Done (table K ys) h → unsettled ys < unsettled xs
  unfolding unsettled
  unsettled_less [] [] h e on lt no_x d = absurd (omega arith)
  unsettled_less [] (y ∷ ys) h e on lt no_x d = absurd (omega arith)
  unsettled_less (x ∷ xs) [] h e on lt no_x d = absurd (omega arith)
  unsettled_less (x ∷ xs) (y ∷ ys) zero e on lt no_x d =
      let a = unsettled_le xs ys (omega arith) (λ p. on (suc p)) in
      let b = weight_lt (is_settled x.label.state) (is_settled y.label.state) no_x d in
      omega arith
  unsettled_less (x ∷ xs) (y ∷ ys) (suc h) e on lt no_x d =
      let a = unsettled_less xs ys h (omega arith) (λ p. on (suc p)) (omega arith) no_x d in
      let b = weight_le (is_settled x.label.state) (is_settled y.label.state) (on 0) in
      omega arith

  -- settled labels stay, and one more is settled
  pub turn_less : (xs ws ys : List (Slot V)) (h : ℕ) → Settles (table K xs) (table K ws) h → Waits (table K xs) h → Steady (table K ws) (table K ys) → length xs ≡ length ys → h < length xs → unsettled ys < unsettled xs
  turn_less xs ws ys h steps waits steady e lt =
      unsettled_less xs ys h e (λ p d. steady p ∙ settle_on steps p d) lt (λ d. not_both _ waits d) (steady h ∙ settle_done steps)

  pub held_inside : (xs : List (Slot V)) (q : ℕ) → Held (table K xs) q → q < length xs
  held_inside [] q e = absurd (false≢true e)
  held_inside (x ∷ xs) zero e = omega arith
  held_inside (x ∷ xs) (suc q) e = let r = held_inside xs q e in omega arith

  -- the leader below the length is the leader of all
  pub leads_all : (l : L) (xs : List (Slot V)) (b : ℕ) → Leader K l (table K xs) (length xs) b → (q : ℕ) → Waits (table K xs) q → ranks K l (table K xs q).value (table K xs b).value ≡ false
  leads_all l xs b lead q w = lead.first q (held_inside xs q (waits_held _ w)) w

  pub none_waits : (xs : List (Slot V)) → ((q : ℕ) → q < length xs → Waits (table K xs) q → ⊥) → (q : ℕ) → Waits (table K xs) q → ⊥
  none_waits xs none q w = none q (held_inside xs q (waits_held _ w)) w

-- one label comes to the place x, where none is held
pub starts_made : {V L : Type 0} (K : Kind V L) {A C : ℕ → Label V} {x : ℕ} (e : V) → e ≡ K.empty → C x ≡ record { state = Queued; value = e; previous = x; link = 0 } → ((p : ℕ) → (p ≡ x → ⊥) → C p ≡ A p) →
    ((p : ℕ) → is_held (A p).state ≡ false) → Starts K C x
starts_made K {x = x} e same here other free = record {
  here = here ∙ ap (λ y. record { state = Queued; value = y; previous = x; link = 0 }) same;
  other = λ p ne. ap (λ z. is_held z.state) (other p ne) ∙ free p;
}

pub starts_rests : {V L : Type 0} {K : Kind V L} (laws : Laws K) (l : L) (adm : K.limit_admitted l ≡ true) (cat : List (Option (Link V))) (k src dst : ℕ) {A : ℕ → Label V} {x : ℕ} → In k src x → Starts K A x → Rests K l cat k src dst A
starts_rests laws l adm cat k src dst at starts = record {
  kept = start_kept laws l adm (Holds cat) k src dst at starts;
  spread = start_spread laws l adm (Holds cat) k src dst at starts;
}
