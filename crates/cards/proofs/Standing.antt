-- What a standing card says of the catalogue, and that it goes on being so where news does not strike the card.
use Rattle.std.proofs.Common.{true, ◌≡◌, ℕ, ◌<◌, ◌≤◌, false, not, ◌&&◌, ◌||◌, ◌⊎◌, List, length, set, Some, None, Option, sym, ap, ◌∙◌, subst, inl, inr, ⊎_elim, arith, take_at}
use lib.Seq.{set-get_or}
use Rattle.std.proofs.lemmas.Bool.{both_ways, or_parts, and_parts, and_cases, not-false, ltb-false, eq-eqb, eqb-true}
use Rattle.measure.specs.Kind.{Kind, Made, made_empty}
use Rattle.measure.specs.Laws.{Laws}
use Rattle.measure.specs.Ranks.{Fit, ranks}
use Rattle.measure.specs.Ratios.{AtMost, equal}
use Rattle.measure.proofs.Ranking.{rank_trans, rank_dom, fit_dom}
use Rattle.catalogue.specs.declared.Link.{Link}
use Rattle.catalogue.specs.Places.{at}
use Rattle.catalogue.specs.Calls.{revalued}
use Rattle.catalogue.specs.Walks.{Holds, Walk}
use Rattle.catalogue.specs.Routes.{Sound}
use Rattle.catalogue.proofs.Short.{short}
use Rattle.catalogue.specs.declared.routes.Ask.{Ask}
use Rattle.catalogue.specs.declared.routes.Route.{Route}
use Rattle.catalogue.specs.Asks.{row_with}
use Rattle.catalogue.specs.Routes.{Found}
use Rattle.labels.proofs.Cover.{goes_made}
use Rattle.labels.proofs.Finding.{links_made}
use Rattle.cards.specs.Books.{Network, legs_in}
use Rattle.cards.specs.Doubts.{uses, same, threatens}
use Rattle.cards.specs.Runs.{NoBetter}
use Rattle.report.proofs.Clearing.{some_same, none_some}
use Rattle.catalogue.proofs.Keeping.{holds_set}
use Rattle.cards.proofs.Walking.{goes_on, goes_back, unused, other_holds}

-- a walk of this value is no better than the answer: it does not rank before the route; where there is none, there is no such walk
abbrev pub Beaten : {V L : Type 0} → Kind V L → L → Option (Route V) → V → Type 0
Beaten K l None w = ⊥
Beaten K l (Some route) w = ranks K l w route.value ≡ false

-- the legs are a walk within the limit with the route's value, ratio and number of legs
pub record Carries {V L : Type 0} (K : Kind V L) (links : List (Option (Link V))) (ask : Ask L) (route : Route V) (legs : List ℕ) : Type 0 where
  pub walk : Walk K (Holds links) ask.source legs ask.destination route.value
  pub within : K.within route.value ask.limit ≡ true
  pub ratio : route.ratio ≡ K.ratio route.value ask.limit
  pub count : route.legs ≡ length legs

abbrev pub Own : {V L : Type 0} → Kind V L → List (Option (Link V)) → Ask L → Option (Route V) → List ℕ → Type 0
Own K links ask None legs = Unit {0}
Own K links ask (Some route) legs = Carries K links ask route legs

pub record Stands {V L : Type 0} (K : Kind V L) (links : List (Option (Link V))) (ask : Ask L) (answer : Option (Route V)) (legs : List ℕ) : Type 0 where
  pub own : Own K links ask answer legs
  pub beaten : (other : List ℕ) (w : V) → Walk K (Holds links) ask.source other ask.destination w → K.within w ask.limit ≡ true → Beaten K ask.limit answer w

-- what was found stands, read back from its row, and has room in it
module _ {V L : Type 0} (K : Kind V L) (n : Network V) (ask : Ask L) (width : ℕ) (sound : Sound K n.sites n.links) where
  pub found_stands : (answer : Option (Route V)) (legs : List ℕ) → Found K n.links ask answer legs → Stands K n.links ask answer (legs_in (row_with legs width) answer)
  found_stands None legs f = record { own = tt; beaten = f.1 }
  found_stands (Some route) legs f =
      let best = f.2 in
      subst (Stands K n.links ask (Some route)) (sym (take_at legs _ route.legs (sym f.0)))
      (record { own = record { walk = best.walk; within = best.within; ratio = f.1; count = f.0 }; beaten = best.first })

  pub found_short : ask.source < n.sites → width ≡ n.sites → (answer : Option (Route V)) (legs : List ℕ) → Found K n.links ask answer legs → length legs ≤ width
  found_short inside e None legs f = omega (arith, ap length f.0)
  found_short inside e (Some route) legs f =
      let best = f.2 in
      let h = short K (Holds n.links) n.sites (λ p s t c has. (sound.each p s t c has).end_in) legs ask.source ask.destination K.empty route.value best.walk best.simple inside in
      omega arith

-- what stands of a route, in the words of the law
module _ {V L : Type 0} (K : Kind V L) (l : L) (v w : V) where
  least_of : ranks K l w v ≡ false → AtMost (K.ratio v l) (K.ratio w l)
  least_of h = ltb-false _ _ (or_parts _ _ h).0

  first_of : ranks K l w v ≡ false → equal (K.ratio v l) (K.ratio w l) ≡ true → K.before w v ≡ false
  first_of h e = ⊎_elim (λ n. absurd (both_ways _ n (eq-eqb _ _ (sym (eqb-true _ _ e))))) (λ f. f) (and_cases _ _ (or_parts _ _ h).1)

pub best_of : {V L : Type 0} {K : Kind V L} (links : List (Option (Link V))) (ask : Ask L) (route : Route V) (legs : List ℕ) → Stands K links ask (Some route) legs → NoBetter K links ask route legs
best_of {K = K} links ask route legs st = record {
  walk = st.own.walk;
  within = st.own.within;
  ratio = st.own.ratio;
  count = st.own.count;
  least = λ ps w g h. rw st.own.ratio (least_of K ask.limit route.value w (st.beaten ps w g h));
  first = λ ps w g h. rw st.own.ratio (first_of K ask.limit route.value w (st.beaten ps w g h));
}

-- a value that does not threaten the answer, and is within the limit, is beaten
calm_beaten : {V L : Type 0} (K : Kind V L) (l : L) (answer : Option (Route V)) (x : V) → threatens K l answer x ≡ false → K.within x l ≡ true → Beaten K l answer x
calm_beaten K l None x calm h = both_ways _ calm h
calm_beaten K l (Some route) x calm h = ⊎_elim (λ out. absurd (both_ways _ out h)) (λ r. r) (and_cases _ _ calm)

-- a write at a place of the catalogue
module _ {V L : Type 0} {K : Kind V L} (laws : Laws K) (sites : ℕ) (links : List (Option (Link V))) (place : ℕ) (lt : place < length links) (sound : Sound K sites links)
    (ask : Ask L) (adm : K.limit_admitted ask.limit ≡ true) (answer : Option (Route V)) (legs : List ℕ) where
  -- what a beaten value dominates is beaten
  beaten_by : (o : Option (Route V)) → Own K links ask o legs → (x w : V) → Fit K ask.limit x → Fit K ask.limit w → K.dominates x w ≡ true → Beaten K ask.limit o x → Beaten K ask.limit o w
  beaten_by None own x w fx fw d h = h
  beaten_by (Some route) own x w fx fw d h =
      let fr : Fit K ask.limit route.value = record {
        made = goes_made laws (Holds links) (links_made sites links sound) legs ask.source ask.destination K.empty route.value made_empty own.walk;
        within = own.within;
      } in
      rank_trans laws ask.limit adm route.value x w fr fx fw h (rank_dom laws ask.limit adm x w fx fw d)

  module _ (y : Option (Link V)) (sound' : Sound K sites (set links place y)) where
    own_on : (o : Option (Route V)) → ((w : V) → Walk K (Holds links) ask.source legs ask.destination w → uses legs place ≡ false) → Own K links ask o legs → Own K (set links place y) ask o legs
    own_on None off own = tt
    own_on (Some route) off own = record {
      walk = goes_on K (Holds links) (Holds (set links place y)) place (other_holds links place y) legs ask.source ask.destination K.empty route.value (off route.value own.walk) own.walk;
      within = own.within;
      ratio = own.ratio;
      count = own.count;
    }

    -- the route does not use the place, and what is written there was there with a value that dominates it, or does not threaten the answer
    stands_on : ((w : V) → Walk K (Holds links) ask.source legs ask.destination w → uses legs place ≡ false) →
        ((s t : ℕ) (c : V) → y ≡ Some (record { start = s; end = t; value = c }) → ((b : V) × Holds links place s t b × K.dominates b c ≡ true) ⊎ (threatens K ask.limit answer c ≡ false)) →
        Stands K links ask answer legs → Stands K (set links place y) ask answer legs
    stands_on off new st = record {
      own = own_on answer off st.own;
      beaten = λ other w g h.
          let fw : Fit K ask.limit w = record { made = goes_made laws (Holds (set links place y)) (links_made sites _ sound') other ask.source ask.destination K.empty w made_empty g; within = h } in
          ⊎_elim
          (λ x. let mx = goes_made laws (Holds links) (links_made sites links sound) other ask.source ask.destination K.empty x.0 made_empty x.1 in
          let fx = fit_dom laws ask.limit adm x.0 w mx fw x.2 in
          beaten_by answer st.own x.0 w fx fw x.2 (st.beaten other x.0 x.1 fx.within))
          (λ x. let fx = fit_dom laws ask.limit adm x.0 w x.2 fw x.3 in
          beaten_by answer st.own x.0 w fx fw x.3 (calm_beaten K ask.limit answer x.0 x.1 fx.within))
          (goes_back laws (Holds links) (Holds (set links place y)) (links_made sites links sound) (links_made sites _ sound') (λ c. threatens K ask.limit answer c ≡ false) back
          other ask.source ask.destination K.empty K.empty w made_empty made_empty (laws.dom_refl K.empty made_empty) g);
    }
      where
        back : (p s t : ℕ) (c : V) → Holds (set links place y) p s t c → ((b : V) × Holds links p s t b × K.dominates b c ≡ true) ⊎ (threatens K ask.limit answer c ≡ false)
        back p s t c has =
            ⊎_elim
            (λ h. inl (c, h, laws.dom_refl c (links_made sites links sound p s t c h)))
            (λ h. subst (λ q. ((b : V) × Holds links q s t b × K.dominates b c ≡ true) ⊎ (threatens K ask.limit answer c ≡ false)) (sym h.0) (new s t c h.1))
            (holds_set links place y lt p s t c has)

  pub offer_stands : (link : Link V) → Sound K sites (set links place (Some link)) → at links place ≡ None → threatens K ask.limit answer link.value ≡ false →
      Stands K links ask answer legs → Stands K (set links place (Some link)) ask answer legs
  offer_stands link sound' empty calm =
      stands_on (Some link) sound' (λ w g. unused links place K empty legs ask.source ask.destination K.empty w g)
      (λ s t c e. inr (subst (λ (z : Link V). threatens K ask.limit answer z.value ≡ false) (some_same e) calm))

  pub withdraw_stands : Sound K sites (set links place None) → uses legs place ≡ false → Stands K links ask answer legs → Stands K (set links place None) ask answer legs
  withdraw_stands sound' off = stands_on None sound' (λ w g. off) (λ s t c e. absurd (none_some e))

  pub change_stands : (old : Link V) (value : V) → Sound K sites (set links place (Some (revalued old value))) → Made K value → at links place ≡ Some old →
      (not (same K old.value value) && (uses legs place || (not (K.dominates old.value value) && threatens K ask.limit answer value))) ≡ false →
      Stands K links ask answer legs → Stands K (set links place (Some (revalued old value))) ask answer legs
  change_stands old value sound' mv here calm st =
      ⊎_elim
      (λ e. let both = and_parts _ _ (not-false _ e) in
      let mo = links_made sites links sound place old.start old.end old.value here in
      subst (λ cat. Stands K cat ask answer legs) (sym (unchanged (laws.dom_same old.value value mo mv both.0 both.1))) st)
      (λ e. let parts = or_parts _ _ e in
      stands_on (Some (revalued old value)) sound' (λ w g. parts.0)
      (λ s t c is. ⊎_elim
      (λ d. inl (subst (λ (z : Link V). (b : V) × Holds links place z.start z.end b × K.dominates b z.value ≡ true) (some_same is) (old.value, here, not-false _ d)))
      (λ calm. inr (subst (λ (z : Link V). threatens K ask.limit answer z.value ≡ false) (some_same is) calm))
      (and_cases _ _ parts.1))
      st)
      (and_cases _ _ calm)
    where
      -- the same value leaves the catalogue as it was
      unchanged : old.value ≡ value → set links place (Some (revalued old value)) ≡ links
      unchanged e =
          ap (λ v. set links place (Some (revalued old v))) (sym e) ∙ ap (λ o. set links place o) (sym here) ∙ set-get_or links place None
