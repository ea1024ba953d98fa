-- The front of a list and what is left of it, where the count may be past the end.
use Rattle.std.proofs.Common.{◌≡◌, ℕ, ◌-◌, min, List, length, take, drop, sym, ap, ◌∙◌, ⊎_elim, arith}
use Rattle.std.proofs.lemmas.List.{drop_all, take_rest}
use Rattle.std.proofs.lemmas.Bool.{cases_lt}

pub drop_min : (n r : ℕ) (xs : List ℕ) → r ≡ min n (length xs) → take (length xs - r) (drop r xs) ≡ drop n xs
drop_min n r xs e =
    take_rest xs r ∙ ⊎_elim (λ lt. ap (λ k. drop k xs) (omega arith)) (λ le. drop_all r xs (omega arith) ∙ sym (drop_all n xs le)) (cases_lt n (length xs))
