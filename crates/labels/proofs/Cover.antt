-- Every walk within the limit is covered, so the first queued value at the destination is best.
use Rattle.std.proofs.Common.{true, ◌≡◌, ℕ, false, ◌⊎◌, List, [], ◌∷◌, ◌++◌, refl, ap, subst, inl, inr, ⊎_elim}
use Rattle.measure.specs.Kind.{Kind, Made, made_empty}
use Rattle.measure.specs.Laws.{Laws}
use Rattle.measure.specs.Ranks.{Fit, ranks}
use Rattle.catalogue.specs.Walks.{extend, Goes, Walk}
use Rattle.catalogue.specs.Routes.{First, Outside}
use Rattle.labels.proofs.Extending.{extend_made, extend_over, extend_keeps, rank_extend}
use Rattle.measure.proofs.Ranking.{rank_dom, rank_trans, fit_dom}

-- What the search keeps of the values that are queued and settled at each site.
module _ {V L : Type 0} (K : Kind V L) (l : L) (Lead : ℕ → ℕ → ℕ → V → Type 0) (src : ℕ) (Queued Settled : ℕ → V → Type 0) where
  -- some value held at t dominates w
  abbrev pub Covered : ℕ → V → Type 0
  Covered t w = (v : V) × (Queued t v ⊎ Settled t v) × K.dominates v w ≡ true

  -- some queued value ranks no later than w
  abbrev pub Late : V → Type 0
  Late w = (s : ℕ) × (v : V) × Queued s v × (ranks K l w v ≡ false)

  pub record Covers : Type 0 where
    pub queued_fit : (s : ℕ) (v : V) → Queued s v → Fit K l v
    pub settled_fit : (s : ℕ) (v : V) → Settled s v → Fit K l v
    pub start : Covered src K.empty
    pub spread : (s : ℕ) (h : V) → Settled s h → (p t : ℕ) (c : V) → Lead p s t c → K.within (extend K h c) l ≡ true → Covered t (extend K h c) ⊎ Late (extend K h c)

module _ {V L : Type 0} {K : Kind V L} (laws : Laws K) (Lead : ℕ → ℕ → ℕ → V → Type 0) (links : (p s t : ℕ) (c : V) → Lead p s t c → Made K c) where
  pub goes_made : (ps : List ℕ) (s t : ℕ) (v w : V) → Made K v → Goes K Lead s v ps t w → Made K w
  goes_made [] s t v w mv g = rw (g.1) at mv
  goes_made (p ∷ ps) s t v w mv g = goes_made ps g.0 t (extend K v g.1) w (extend_made K v g.1 mv (links p s g.0 g.1 g.2)) g.3

  pub goes_dom : (ps : List ℕ) (s t : ℕ) (v w : V) → Made K v → Goes K Lead s v ps t w → K.dominates v w ≡ true
  goes_dom [] s t v w mv g = subst (λ x. K.dominates v x ≡ true) g.1 (laws.dom_refl v mv)
  goes_dom (p ∷ ps) s t v w mv g =
      let mc = links p s g.0 g.1 g.2 in
      let mj = extend_made K v g.1 mv mc in
      laws.dom_trans v (extend K v g.1) w mv mj (goes_made ps g.0 t (extend K v g.1) w mj g.3) (extend_over laws v g.1 mv mc) (goes_dom ps g.0 t (extend K v g.1) w mj g.3)

  -- one link more at the end
  pub goes_more : (ps : List ℕ) (s t u p : ℕ) (v w c : V) → Goes K Lead s v ps t w → Lead p t u c → Goes K Lead s v (ps ++ (p ∷ [])) u (extend K w c)
  goes_more [] s t u p v w c g lead =
      (u, c, rw (g.0) lead, (refl, ap (λ x. extend K x c) g.1))
  goes_more (q ∷ ps) s t u p v w c g lead = (g.0, g.1, g.2, goes_more ps g.0 t u p (extend K v g.1) w c g.3 lead)

module _ {V L : Type 0} {K : Kind V L} (laws : Laws K) (l : L) (adm : K.limit_admitted l ≡ true) (Lead : ℕ → ℕ → ℕ → V → Type 0) (links : (p s t : ℕ) (c : V) → Lead p s t c → Made K c) (src : ℕ) (Queued Settled : ℕ → V → Type 0) (covers : Covers K l Lead src Queued Settled) where
  -- w is dominated by a settled value at t, or some queued value ranks no later
  abbrev Reached : ℕ → V → Type 0
  Reached t w = ((v : V) × Settled t v × K.dominates v w ≡ true) ⊎ Late K l Lead src Queued Settled w

  has_reached : (t : ℕ) (w : V) → Fit K l w → Covered K l Lead src Queued Settled t w → Reached t w
  has_reached t w fw (v, held, d) =
      ⊎_elim
      (λ q. inr (t, v, q, rank_dom laws l adm v w (covers.queued_fit t v q) fw d))
      (λ h. inl (v, h, d))
      held

  reached_step : (s t p : ℕ) (v c : V) → Made K v → Lead p s t c → Fit K l (extend K v c) → Reached s v → Reached t (extend K v c)
  reached_step s t p v c mv lead f (inl (h, set, d)) =
      let mc = links p s t c lead in
      let mh = (covers.settled_fit s h set).made in
      let mj = extend_made K h c mh mc in
      let dj = extend_keeps laws h v c mh mv mc d in
      let fj = fit_dom laws l adm (extend K h c) (extend K v c) mj f dj in
      ⊎_elim
      (λ has. let mx = ⊎_elim (λ q. (covers.queued_fit t has.0 q).made) (λ q. (covers.settled_fit t has.0 q).made) has.1 in
      has_reached t (extend K v c) f (has.0, has.1, laws.dom_trans has.0 (extend K h c) (extend K v c) mx mj f.made has.2 dj))
      (λ late. inr (late.0, late.1, late.2, rank_trans laws l adm late.1 (extend K h c) (extend K v c) (covers.queued_fit late.0 late.1 late.2) fj f late.3 (rank_dom laws l adm (extend K h c) (extend K v c) fj f dj)))
      (covers.spread s h set p t c lead fj.within)
  reached_step s t p v c mv lead f (inr (x, q, queued, r)) =
      let mc = links p s t c lead in
      let fv = fit_dom laws l adm v (extend K v c) mv f (extend_over laws v c mv mc) in
      inr (x, q, queued, rank_trans laws l adm q v (extend K v c) (covers.queued_fit x q queued) fv f r (rank_extend laws l adm v c mv mc f))

  reached_goes : (ps : List ℕ) (s t : ℕ) (v w : V) → Made K v → Goes K Lead s v ps t w → K.within w l ≡ true → Reached s v → Reached t w
  reached_goes [] s t v w mv g fw r = rw (g.0, g.1) at r
  reached_goes (p ∷ ps) s t v w mv g fw r =
      let mj = extend_made K v g.1 mv (links p s g.0 g.1 g.2) in
      let mw = goes_made laws Lead links ps g.0 t (extend K v g.1) w mj g.3 in
      let fj = fit_dom laws l adm (extend K v g.1) w mj (record { made = mw; within = fw }) (goes_dom laws Lead links ps g.0 t (extend K v g.1) w mj g.3) in
      reached_goes ps g.0 t (extend K v g.1) w mj g.3 fw (reached_step s g.0 p v g.1 mv g.2 fj r)

  pub reached : (ps : List ℕ) (t : ℕ) (w : V) → Walk K Lead src ps t w → K.within w l ≡ true → Reached t w
  reached ps t w g fw =
      reached_goes ps src t K.empty w (made_empty) g fw
      (has_reached src K.empty (record { made = made_empty; within = laws.empty_within l adm }) covers.start)

  -- where no value is settled at dst, and b ranks first among the queued, no walk to dst ranks before b
  pub first_best : (dst : ℕ) (b : V) → Fit K l b → ((v : V) → Settled dst v → ⊥) → ((s : ℕ) (v : V) → Queued s v → ranks K l v b ≡ false) → First K l Lead src dst b
  first_best dst b fb none first ps w g fw =
      let fit : Fit K l w = record { made = goes_made laws Lead links ps src dst K.empty w (made_empty) g; within = fw } in
      ⊎_elim
      (λ r. absurd (none r.0 r.1))
      (λ r. rank_trans laws l adm b r.1 w fb (covers.queued_fit r.0 r.1 r.2) fit (first r.0 r.1 r.2) r.3)
      (reached ps dst w g fw)

  pub none_left : (dst : ℕ) → ((v : V) → Settled dst v → ⊥) → ((s : ℕ) (v : V) → Queued s v → ⊥) → Outside K l Lead src dst
  none_left dst none empty ps w g fw = ⊎_elim (λ r. none r.0 r.1) (λ r. empty r.0 r.1 r.2) (reached ps dst w g fw)
