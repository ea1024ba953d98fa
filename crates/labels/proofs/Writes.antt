-- What a write to one place leaves of all.
use Rattle.std.proofs.Common.{true, ◌≡◌, ℕ, ◌<◌, List, length, get_or, set, get_or-set_other, get_or-set_same, sym, ap, ◌∙◌, subst, ⊎_elim}
use Rattle.std.proofs.lemmas.Bool.{cases_eq}
use Rattle.std.proofs.lemmas.List.{get_or_default, get_or_read}
use Rattle.measure.specs.Kind.{Kind}
use Rattle.measure.specs.Ranks.{Fit}
use Rattle.labels.specs.declared.Slot.{Slot}
use Rattle.labels.specs.Labels.{is_held, Fits, blank_slot, slot, table}
use Rattle.labels.specs.Tournament.{SameLabels, SameUsed, SameLists}

-- what a write at t leaves of the places
module _ {V L : Type 0} (K : Kind V L) (xs : List (Slot V)) (t : ℕ) (y : Slot V) (low : t < length xs) where
  pub slot_same : slot K (set xs t y) t ≡ y
  slot_same = get_or-set_same xs t y (blank_slot K) low

  pub slot_other : (p : ℕ) → (p ≡ t → ⊥) → slot K (set xs t y) p ≡ slot K xs p
  slot_other p ne = get_or-set_other xs t p y (blank_slot K) ne

  -- what the new place has as the old one had stays at every place
  pub slot_stays : (F : Type 0) (f : Slot V → F) → f y ≡ f (slot K xs t) → (p : ℕ) → f (slot K (set xs t y) p) ≡ f (slot K xs p)
  slot_stays F f e p = ⊎_elim
      (λ here. subst (λ q. f (slot K (set xs t y) q) ≡ f (slot K xs q)) (sym here) (ap f slot_same ∙ e))
      (λ ne. ap f (slot_other p ne))
      (cases_eq p t)

-- a place that was read, whatever stands for one past the end
pub slot_read : {V L : Type 0} (K : Kind V L) (xs : List (Slot V)) (i : ℕ) (x : Slot V) → i < length xs → x ≡ get_or xs i x → x ≡ slot K xs i
slot_read K xs i x low is = get_or_read xs i x low is (blank_slot K)

module _ {V L : Type 0} (K : Kind V L) (xs : List (Slot V)) (i : ℕ) (y : Slot V) (low : i < length xs) where
  -- what holds of each place after a write to one of them
  pub written : (P : ℕ → Slot V → Type 0) → P i y → ((p : ℕ) → (p ≡ i → ⊥) → P p (slot K xs p)) → (p : ℕ) → P p (slot K (set xs i y) p)
  written P here other p =
      ⊎_elim
      (λ e. subst (λ q. P q (slot K (set xs i y) q)) (sym e) (subst (P i) (sym (slot_same K xs i y low)) here))
      (λ ne. subst (P p) (sym (slot_other K xs i y low p ne)) (other p ne))
      (cases_eq p i)

  -- what is written has of the place that was read what is to stay as it was
  module _ (W : ℕ → Slot V) (r : Slot V) where
    pub labels_on : y.label ≡ (get_or xs i r).label → y.share ≡ (get_or xs i r).share → SameLabels W (slot K xs) → SameLabels W (slot K (set xs i y))
    labels_on label share h = written (λ p z. (z.label ≡ (W p).label) × (z.share ≡ (W p).share))
        (label ∙ ap (λ z. z.label) (get_or_default xs i r (blank_slot K) low) ∙ (h i).0, share ∙ ap (λ z. z.share) (get_or_default xs i r (blank_slot K) low) ∙ (h i).1)
        (λ p ne. h p)

    pub links_on : y.first ≡ (get_or xs i r).first → y.next ≡ (get_or xs i r).next → SameLists W (slot K xs) → SameLists W (slot K (set xs i y))
    links_on first next h = written (λ p z. (z.first ≡ (W p).first) × (z.next ≡ (W p).next))
        (first ∙ ap (λ z. z.first) (get_or_default xs i r (blank_slot K) low) ∙ (h i).0, next ∙ ap (λ z. z.next) (get_or_default xs i r (blank_slot K) low) ∙ (h i).1)
        (λ p ne. h p)

    pub used_on : y.used ≡ (get_or xs i r).used → SameUsed W (slot K xs) → SameUsed W (slot K (set xs i y))
    used_on used h = written (λ p z. z.used ≡ (W p).used) (used ∙ ap (λ z. z.used) (get_or_default xs i r (blank_slot K) low) ∙ h i) (λ p ne. h p)

    pub bests_on : y.best ≡ (get_or xs i r).best → ((s : ℕ) → (slot K xs s).best ≡ (W s).best) → (s : ℕ) → (slot K (set xs i y) s).best ≡ (W s).best
    bests_on best h = written (λ p z. z.best ≡ (W p).best) (best ∙ ap (λ z. z.best) (get_or_default xs i r (blank_slot K) low) ∙ h i) (λ p ne. h p)

  -- held labels fit after a write that leaves the label
  pub fits_on : (l : L) (r : Slot V) → y.label ≡ (get_or xs i r).label → Fits K l (table K xs) → Fits K l (table K (set xs i y))
  fits_on l r label fits = written (λ p z. is_held z.label.state ≡ true → Fit K l z.label.value)
      (subst (λ z. is_held z.state ≡ true → Fit K l z.value) (sym (label ∙ ap (λ z. z.label) (get_or_default xs i r (blank_slot K) low))) (fits i))
      (λ p ne. fits p)
