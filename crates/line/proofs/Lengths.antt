-- How many bytes a line has.
use Rattle.std.proofs.Common.{◌≡◌, ℕ, suc, ◌+◌, ◌*◌, ◌<◌, ◌≤◌, ◌^◌, List, [], ◌∷◌, map, length, get_or, codes, decimal, arith, length-append, Fits, w16}
use Rattle.std.proofs.lemmas.Fmt.{length-decimal-le}
use Rattle.std.specs.List.{flat_map}
use Rattle.measure.specs.declared.ratio.Ratio.{Ratio}
use Rattle.report.specs.declared.Mark.{Mark}
use Rattle.report.specs.declared.Mark.TheVariants.{Standing, Doubtful}
use Rattle.line.specs.Lines.{after_space, mark_word, share}

-- how many digits the numbers of the code's types have
pub twenty_digits : (n : ℕ) → n < 2 ^ 64 → length (decimal n) ≤ 20
twenty_digits n h = length-decimal-le 20 n (omega arith) (omega arith) h

pub ten_digits : (n : ℕ) → n < 2 ^ 32 → length (decimal n) ≤ 10
ten_digits n h = length-decimal-le 10 n (omega arith) (omega arith) (omega arith)

-- how many bytes words have, each after one space
abbrev pub spaced : List (List ℕ) → ℕ
spaced ws = length (flat_map after_space ws)

spaced_more : (w : List ℕ) (ws : List (List ℕ)) → spaced (w ∷ ws) ≡ 1 + (length w + spaced ws)
spaced_more w ws = simp length-append (omega arith)

legs_short : (legs : List ℕ) → ((i : ℕ) → Fits w16 (get_or legs i 0)) → spaced (map decimal legs) ≤ 6 * length legs
legs_short [] f = omega arith
legs_short (leg ∷ legs) f =
    let rest = legs_short legs (λ i. f (suc i)) in
    let small = f 0 in
    let own = length-decimal-le 5 leg (omega arith) (omega arith) (omega arith) in
    omega (arith, spaced_more (decimal leg) (map decimal legs))

mark_short : (mark : Mark) → length (mark_word mark) ≤ 8
mark_short Standing = omega arith
mark_short Doubtful = omega arith

-- the words of a route with fewer than 256 legs
pub route_short : (mark : Mark) (ratio : Ratio) (delay price class : ℕ) (legs : List ℕ) → (length (decimal ratio.top) ≤ 10) × (length (decimal ratio.bottom) ≤ 10) →
    length (decimal delay) ≤ 20 → length (decimal price) ≤ 20 → length (decimal class) ≤ 20 → length (decimal (length legs)) ≤ 20 →
    ((i : ℕ) → Fits w16 (get_or legs i 0)) → length legs < 256 →
    spaced (codes "route" ∷ mark_word mark ∷ share ratio ∷ decimal delay ∷ decimal price ∷ decimal class ∷ decimal (length legs) ∷ map decimal legs) ≤ 2027
route_short mark ratio delay price class legs shared d p c n fit few =
    simp length-append (let m = mark_short mark in let l = legs_short legs fit in omega arith)
