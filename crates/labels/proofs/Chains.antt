-- Places, states, and the chains of labels.
use Rattle.std.proofs.Common.{true, ◌≡◌, ℕ, suc, ◌+◌, ◌*◌, ◌<◌, ◌≤◌, false, ◌⊎◌, List, [], ◌∷◌, sym, refl, ap, ◌∙◌, subst, inl, inr, ⊎_elim, mul-le-mul_right, suc-mul, arith}
use Rattle.std.proofs.lemmas.Bool.{both_ways, cases_eq, cases_order, false≢true}
use Rattle.labels.specs.declared.State.{State}
use Rattle.labels.specs.declared.State.TheVariants.{Free, Queued, Settled}
use Rattle.labels.specs.declared.Label.{Label}
use Rattle.measure.specs.Kind.{Kind, Made}
use Rattle.measure.specs.Laws.{Laws}
use Rattle.catalogue.specs.Walks.{extend, Walk}
use Rattle.labels.proofs.Extending.{extend_over}
use Rattle.labels.specs.Labels.{is_held, is_queued, is_settled, In, Held, Done, Off, Chain, path}
use Rattle.labels.proofs.Cover.{goes_more}

below : (k s t p : ℕ) → s < t → In k s p → In k t p → ⊥
below k s t p lt a b =
    let x : suc s * k ≤ t * k = mul-le-mul_right k lt in
    let y : suc s * k ≡ s * k + k = suc-mul s k in
    omega arith

-- a place is of one site only
pub one_site : (k s t p : ℕ) → In k s p → In k t p → s ≡ t
one_site k s t p a b = ⊎_elim (λ e. e) (⊎_elim (λ h. absurd (below k s t p h a b)) (λ h. absurd (below k t s p h b a))) (cases_order s t)

-- what holds at h, and at every other place
pub at_or : (P : ℕ → Type 0) (h : ℕ) → P h → (p : ℕ) → ((p ≡ h → ⊥) → P p) → P p
at_or P h here p other = ⊎_elim (λ e. subst P (sym e) here) other (cases_eq p h)

pub done_held : (x : State) → is_settled x ≡ true → is_held x ≡ true
done_held Free h = h
done_held Queued h = refl
done_held Settled h = h

pub waits_held : (x : State) → is_queued x ≡ true → is_held x ≡ true
waits_held Free h = h
waits_held Queued h = h
waits_held Settled h = refl

pub held_cases : (x : State) → is_held x ≡ true → is_queued x ≡ true ⊎ is_settled x ≡ true
held_cases Free h = inl h
held_cases Queued h = inl h
held_cases Settled h = inr h

pub not_both : (x : State) → is_queued x ≡ true → is_settled x ≡ true → ⊥
not_both Free p q = false≢true p
not_both Queued p q = false≢true q
not_both Settled p q = false≢true p

-- the labels of A and B at p differ at most in their states
pub record Same {V : Type 0} (A B : ℕ → Label V) (p : ℕ) : Type 0 where
  pub value : (B p).value ≡ (A p).value
  pub previous : (B p).previous ≡ (A p).previous
  pub link : (B p).link ≡ (A p).link

pub same_from : {V : Type 0} (A B : ℕ → Label V) (p : ℕ) → B p ≡ A p → Same A B p
same_from A B p e = record { value = ap (λ x. x.value) e; previous = ap (λ x. x.previous) e; link = ap (λ x. x.link) e }

module _ {V L : Type 0} {K : Kind V L} (laws : Laws K) (l : L) (Lead : ℕ → ℕ → ℕ → V → Type 0) (links : (p s t : ℕ) (c : V) → Lead p s t c → Made K c) (k src dst : ℕ) where
  pub chain_keep : (A B : ℕ → Label V) → ((q : ℕ) → Done A q → Same A B q × Done B q) → (qs : List ℕ) (p : ℕ) → Same A B p → Chain K Lead k src A qs p → Chain K Lead k src B qs p
  chain_keep A B keep [] p same c = (c.0, same.value ∙ c.1, same.previous ∙ c.2)
  chain_keep A B keep (q ∷ qs) p same c =
      let ex = c.2 in
      let (sq, dq) = keep q c.1 in (
        same.previous ∙ c.0,
        dq,
        record {
          from = ex.from;
          to = ex.to;
          value = ex.value;
          in_from = ex.in_from;
          in_to = ex.in_to;
          leads = subst (λ x. Lead x ex.from ex.to ex.value) (sym same.link) ex.leads;
          joined = same.value ∙ ex.joined ∙ ap (λ x. extend K x ex.value) (sym sq.value);
        },
        c.3,
        chain_keep A B keep qs q sq c.4,
      )

  -- a chain is a walk
  pub chain_walk : (A : ℕ → Label V) (qs : List ℕ) (p t : ℕ) → In k t p → Chain K Lead k src A qs p → Walk K Lead src (path K Lead k src A qs p) t (A p).value
  chain_walk A [] p t at c = (one_site k src t p c.0 at, sym c.1)
  chain_walk A (q ∷ qs) p t at c =
      let ex = c.2 in
      let lead : Lead (A p).link ex.from t ex.value = subst (λ x. Lead (A p).link ex.from x ex.value) (one_site k ex.to t p ex.in_to at) ex.leads in
      subst (λ x. Walk K Lead src (path K Lead k src A (q ∷ qs) p) t x) (sym ex.joined)
      (goes_more laws Lead links (path K Lead k src A qs q) src ex.from t (A p).link K.empty (A q).value ex.value (chain_walk A qs q ex.from ex.in_from c.4) lead)

  -- a value that no label held at t dominates, and that the label at p dominates: the chain of p does not pass t
  pub chain_off : (A : ℕ → Label V) → ((p : ℕ) → Held A p → Made K (A p).value) → (t : ℕ) (n : V) → Made K n → ((p : ℕ) → In k t p → Held A p → K.dominates (A p).value n ≡ false) → (qs : List ℕ) (p : ℕ) → Done A p → K.dominates (A p).value n ≡ true → Chain K Lead k src A qs p → Off k t (p ∷ qs)
  chain_off A made t n mn fresh [] p d dom c = (λ at. both_ways _ (fresh p at (done_held _ d)) dom, tt)
  chain_off A made t n mn fresh (q ∷ qs) p d dom c =
      let ex = c.2 in
      let mq = made q (done_held _ c.1) in
      let mp = made p (done_held _ d) in
      let qp : K.dominates (A q).value (A p).value ≡ true = subst (λ x. K.dominates (A q).value x ≡ true) (sym ex.joined) (extend_over laws (A q).value ex.value mq (links (A p).link ex.from ex.to ex.value ex.leads)) in
      (λ at. both_ways _ (fresh p at (done_held _ d)) dom, chain_off A made t n mn fresh qs q c.1 (laws.dom_trans (A q).value (A p).value n mq mp mn qp dom) c.4)
