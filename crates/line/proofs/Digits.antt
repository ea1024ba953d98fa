-- The digits of a number, and spelling them from the last to the first.
use Rattle.std.proofs.Common.{◌≡◌, ℕ, ◌+◌, ◌-◌, ◌/◌, ◌^◌, ◌<◌, ◌≤◌, List, [], ◌∷◌, ◌++◌, length, drop, slice_set, decimal, sym, ap, ◌∙◌, append_assoc, arith, length-append}
use Rattle.std.proofs.lemmas.Fmt.{decimal_digit, decimal_step}
use Rattle.std.proofs.lemmas.List.{drop-set}

pub one_digit : (n : ℕ) → n < 10 → length (decimal n) ≡ 1
one_digit n small = ap length (decimal_digit n small)

pub one_more : (n : ℕ) → 10 ≤ n → n < 2 ^ 64 → length (decimal n) ≡ length (decimal (n / 10)) + 1
one_more n some fits = simp length-append at (ap length (decimal_step n some fits))

-- a byte that is written before what stands there is one more of the whole
pub one_before : (text : List ℕ) (first byte : ℕ) (front whole : List ℕ) → 0 < first → first ≤ length text
    → whole ≡ (front ++ (byte ∷ [])) ++ drop first text → whole ≡ front ++ drop (first - 1) (slice_set text (first - 1) byte)
one_before text first byte front whole some inside is =
    let next : first - 1 + 1 ≡ first = omega arith in
    is ∙ append_assoc front (byte ∷ []) (drop first text)
    ∙ ap (λ (x : List ℕ). front ++ x) (sym (drop-set text (first - 1) byte (omega arith) ∙ ap (λ (i : ℕ). byte ∷ drop i text) next))
