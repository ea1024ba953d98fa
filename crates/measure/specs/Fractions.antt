-- Ratios by cross products.
use Rattle.std.specs.Prelude.{◌*◌, ◌≤◌}
use Rattle.std.proofs.Common.{mul-le-mul_right, le_of_mul-le-mul_right, mul_right_comm, arith}
use Rattle.measure.specs.declared.ratio.Ratio.{Ratio}
use Rattle.measure.specs.Laws.{Proper}
use Rattle.measure.specs.Ratios.{AtMost, less, greater}
use Rattle.std.proofs.lemmas.Bool.{cond_both, ltb-true, ltb-false}

pub at_most_trans : (r s t : Ratio) → 1 ≤ s.bottom → AtMost r s → AtMost s t → AtMost r t
at_most_trans r s t pos rs st =
    let one : r.top * s.bottom * t.bottom ≤ s.top * r.bottom * t.bottom = mul-le-mul_right t.bottom rs in
    let two : s.top * t.bottom * r.bottom ≤ t.top * s.bottom * r.bottom = mul-le-mul_right r.bottom st in
    let all : r.top * t.bottom * s.bottom ≤ t.top * r.bottom * s.bottom = omega (arith, one, two, mul_right_comm r.top s.bottom t.bottom, mul_right_comm s.top r.bottom t.bottom, mul_right_comm t.top s.bottom r.bottom) in
    le_of_mul-le-mul_right all pos

pub greater_proper : (r s : Ratio) → Proper r → Proper s → Proper (greater r s)
greater_proper r s p q = cond_both _ s r Proper (λ _. q) (λ _. p)

greater_first : (r s : Ratio) → AtMost r (greater r s)
greater_first r s = cond_both (less r s) s r (AtMost r) (λ e. omega (arith, ltb-true _ _ e)) (λ _. omega arith)

greater_second : (r s : Ratio) → AtMost s (greater r s)
greater_second r s = cond_both (less r s) s r (AtMost s) (λ e. omega arith) (λ e. omega (arith, ltb-false _ _ e))

pub greater_rises : (r s r' s' : Ratio) → Proper r' → Proper s' → AtMost r r' → AtMost s s' → AtMost (greater r s) (greater r' s')
greater_rises r s r' s' p q rr ss =
    cond_both (less r s) s r (λ x. AtMost x (greater r' s'))
    (λ _. at_most_trans s s' (greater r' s') q.some ss (greater_second r' s'))
    (λ _. at_most_trans r r' (greater r' s') p.some rr (greater_first r' s'))
