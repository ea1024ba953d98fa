-- What is known of a call's causes where none of them holds, and of the one that is reported.
use Rattle.std.proofs.Common.{◌≡◌, Bool, true, false, cond, List, [], ◌∷◌, is_some, Some, None, Option, sym, refl, ap, subst}
use Rattle.std.proofs.lemmas.Bool.{both_ways, cond_both}
use Rattle.report.specs.declared.Refusal.{Refusal}
use Rattle.report.specs.Refusals.{topmost}

pub some_same : {A : Type 0} {a b : A} → Some a ≡ Some b → a ≡ b
some_same e = cc

pub none_some : {A : Type 0} {a : A} → None ≡ Some a → ⊥
none_some e = both_ways false refl (ap is_some e)

pub none_of : {A : Type 0} (o : Option A) → is_some o ≡ false → o ≡ None
none_of None e = refl
none_of (Some x) e = absurd (both_ways true e refl)

-- every cause passes
abbrev pub Each : (Bool × Refusal → Type 0) → List (Bool × Refusal) → Type 0
Each P [] = Unit {0}
Each P (c ∷ cs) = P c × Each P cs

cond_none : {A : Type 0} (b : Bool) (x : A) (t : Option A) → cond b (Some x) t ≡ None → (b ≡ false) × (t ≡ None)
cond_none true x t e = absurd (none_some (sym e))
cond_none false x t e = (refl, e)

-- no cause holds where none is reported
pub cleared : (cs : List (Bool × Refusal)) → topmost cs ≡ None → Each (λ c. c.0 ≡ false) cs
cleared [] e = tt
cleared (c ∷ cs) e = let h = cond_none c.0 c.1 (topmost cs) e in (h.0, cleared cs h.1)

-- what passes of every cause passes of the one that is reported
pub reported : (P : Refusal → Type 0) (cs : List (Bool × Refusal)) (why : Refusal) → Each (λ c. P c.1) cs → topmost cs ≡ Some why → P why
reported P [] why all e = absurd (none_some e)
reported P (c ∷ cs) why all e = cond_both c.0 (Some c.1) (topmost cs) (λ o. o ≡ Some why → P why) (λ on h. subst P (some_same h) all.0) (λ off. reported P cs why all.1) e
