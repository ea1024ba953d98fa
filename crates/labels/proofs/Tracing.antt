-- A walk that is followed back from its end: what is written of it so far, and that it has fewer legs than there are sites.
use Rattle.std.proofs.Common.{◌≡◌, ℕ, ◌+◌, ◌<◌, ◌≤◌, List, [], ◌∷◌, length, reverse, take, set, Option, sym, refl, ap, ◌∙◌, subst, subst₂, ⊎_elim, arith}
use Rattle.std.proofs.lemmas.List.{reverse-append, take_more_set, length-reverse, length-take-le}
use Rattle.measure.specs.Kind.{Kind}
use Rattle.catalogue.specs.declared.Link.{Link}
use Rattle.catalogue.specs.Walks.{Holds, Goes, Walk, Stops, Simple}
use Rattle.catalogue.specs.Routes.{Sound}
use Rattle.catalogue.proofs.Short.{short}
use Rattle.labels.specs.declared.Label.{Label}
use Rattle.labels.specs.Labels.{In, Held, Off, Chain, Kept, Avoids, Traced}
use Rattle.labels.proofs.Chains.{one_site, done_held}
use Rattle.labels.proofs.Finding.{leads_one}

-- the labels before q are not at its site
chain_off_site : {V L : Type 0} (K : Kind V L) (cat : List (Option (Link V))) (k src : ℕ) (A : ℕ → Label V) (qs : List ℕ) (q t : ℕ) → In k t q → Chain K (Holds cat) k src A qs q → Off k t qs
chain_off_site K cat k src A [] q t at ch = tt
chain_off_site K cat k src A (r ∷ qs) q t at ch = ch.3 t at

module _ {V : Type 0} (cat : List (Option (Link V))) (k : ℕ) where
  avoids_none : (qs : List ℕ) (t : ℕ) → Off k t qs → Avoids (Holds cat) k t [] qs
  avoids_none [] t off = tt
  avoids_none (r ∷ qs) t off = (λ u at e. off.0 (subst (λ x. In k x r) (sym e) at), avoids_none qs t off.1)

  avoids_more : (qs : List ℕ) (s t p : ℕ) (c : V) (rest : List ℕ) → Holds cat p s t c → Off k s qs → Avoids (Holds cat) k t rest qs → Avoids (Holds cat) k s (p ∷ rest) qs
  avoids_more [] s t p c rest lead off av = tt
  avoids_more (r ∷ qs) s t p c rest lead off av = (
    λ u at stops. ⊎_elim
        (λ e. off.0 (subst (λ x. In k x r) (sym e) at))
        (λ h. av.0 u at (subst (λ x. Stops (Holds cat) x rest u) (leads_one cat p s h.0 s t h.1 c h.2 lead).0 h.3))
        stops,
    avoids_more qs s t p c rest lead off.1 av.1,
  )

-- the label at the destination
pub traced_none : {V L : Type 0} {K : Kind V L} {l : L} {cat : List (Option (Link V))} {k src dst : ℕ} {A : ℕ → Label V} → Kept K l (Holds cat) k src dst A → (q : ℕ) → In k dst q → Held A q → Traced K cat k src dst A (A q).value q []
traced_none {K = K} {cat = cat} {k = k} {src = src} {dst = dst} {A = A} kept q at held =
    let (qs, ch) = kept.chained q held in
    record {
      held = held;
      site = dst;
      at = at;
      goes = (refl, refl);
      before = qs;
      chain = ch;
      simple = tt;
      avoids = avoids_none cat k qs dst (chain_off_site K cat k src A qs q dst at ch);
    }

module _ {V L : Type 0} {K : Kind V L} {cat : List (Option (Link V))} {k src dst : ℕ} {A : ℕ → Label V} {w : V} {q : ℕ} {rest : List ℕ} (tr : Traced K cat k src dst A w q rest) where
  -- the first label of a chain names itself
  pub traced_all : (A q).previous ≡ q → Walk K (Holds cat) src rest dst w × Simple (Holds cat) src rest
  traced_all self = go tr.before tr.chain
    where
      go : (qs : List ℕ) → Chain K (Holds cat) k src A qs q → Walk K (Holds cat) src rest dst w × Simple (Holds cat) src rest
      go [] ch =
          let e = one_site k tr.site src q tr.at ch.0 in
          (subst₂ (λ x y. Goes K (Holds cat) x y rest dst w) e ch.1 tr.goes, subst (λ x. Simple (Holds cat) x rest) e tr.simple)
      go (r ∷ qs) ch = absurd ((ch.3 ch.2.to ch.2.in_to).0 (subst (In k ch.2.to) (sym self ∙ ch.0) ch.2.in_to))

  -- one link more, before the others
  pub traced_more : ((A q).previous ≡ q → ⊥) → Traced K cat k src dst A w (A q).previous ((A q).link ∷ rest)
  traced_more on = go tr.before tr.chain tr.avoids
    where
      go : (qs : List ℕ) → Chain K (Holds cat) k src A qs q → Avoids (Holds cat) k tr.site rest qs → Traced K cat k src dst A w (A q).previous ((A q).link ∷ rest)
      go [] ch av = absurd (on ch.2)
      go (r ∷ qs) ch av =
          let ex = ch.2 in
          let e = one_site k tr.site ex.to q tr.at ex.in_to in
          let lead : Holds cat (A q).link ex.from tr.site ex.value = subst (λ x. Holds cat (A q).link ex.from x ex.value) (sym e) ex.leads in
          subst (λ y. Traced K cat k src dst A w y ((A q).link ∷ rest)) (sym ch.0)
          (record {
            held = done_held _ ch.1;
            site = ex.from;
            at = ex.in_from;
            goes = (ex.to, ex.value, ex.leads, subst₂ (λ x y. Goes K (Holds cat) x y rest dst w) e ex.joined tr.goes);
            before = qs;
            chain = ch.4;
            simple = λ t c ld. let same = (leads_one cat (A q).link ex.from tr.site ex.from t ex.value c lead ld).0 in
                subst (λ x. (Stops (Holds cat) x rest ex.from → ⊥) × Simple (Holds cat) x rest) same (λ stops. av.0 ex.from ex.in_from stops, tr.simple);
            avoids = avoids_more cat k qs ex.from tr.site (A q).link ex.value rest lead (chain_off_site K cat k src A qs r ex.from ex.in_from ch.4) av.1;
          })

module _ {V L : Type 0} {K : Kind V L} {sites : ℕ} {cat : List (Option (Link V))} (sound : Sound K sites cat) {k src dst : ℕ} {A : ℕ → Label V} {w : V} {q : ℕ} where
  -- a walk of some legs has fewer than there are sites
  pub traced_short : (rest : List ℕ) → 0 < length rest → Traced K cat k src dst A w q rest → length rest < sites
  traced_short [] some tr = absurd (omega arith)
  traced_short (leg ∷ rest) some tr =
      short K (Holds cat) sites (λ p s t c h. (sound.each p s t c h).end_in) (leg ∷ rest) tr.site dst (A q).value w tr.goes tr.simple (sound.each _ _ _ _ tr.goes.2).start_in

-- the legs so far, the last first, with one leg more
pub leg_more : (row : List ℕ) (i leg : ℕ) → i < length row → reverse (take (i + 1) (set row i leg)) ≡ leg ∷ reverse (take i row)
leg_more row i leg lt = ap reverse (take_more_set row i leg lt) ∙ reverse-append (take i row) (leg ∷ [])

-- how many they are
pub legs_long : (row : List ℕ) (i : ℕ) → i ≤ length row → length (reverse (take i row)) ≡ i
legs_long row i le = length-reverse (take i row) ∙ length-take-le i row le
