use Rattle.std.proofs.Common.{◌≡◌, ℕ, ◌-◌, ◌≤◌, List, ◌++◌, length, reverse, take, drop, replicate, sym, ap, ◌∙◌, ap₂, arith, length-append, length-take, length-drop}
use Rattle.std.proofs.lemmas.List.{append-nil, take_at, drop_all}
use Rattle.labels.proofs.Tracing.{legs_long}
use borrow.Rule.Slice.PartMut.{post_of}
use Rattle.catalogue.specs.Asks.{row_with}
use Rattle.routing.proofs.exploration.Exploration.write_legs.Goals as goal

-- legs in front, then zeros to the end
zeros_after : (front row zeros : List ℕ) (legs : ℕ) → length front ≡ legs → legs ≤ length row →
    (let all : List ℕ = front ++ drop legs row in
    zeros ≡ replicate (length (take (length all - legs) (drop legs all))) 0 → take legs all ++ (zeros ++ post_of legs (length all - legs) all) ≡ row_with front (length row))
zeros_after front row zeros legs long inside filled =
    let all : List ℕ = front ++ drop legs row in
    let size : length all ≡ length row = omega (arith, length-append front (drop legs row), length-drop legs row, long) in
    let none : length (drop legs all) ≤ length all - legs = omega (arith, length-drop legs all) in
    let rest : length (take (length all - legs) (drop legs all)) ≡ length row - length front = omega (arith, length-take (length all - legs) (drop legs all), length-drop legs all, size, long) in
    ap₂ (λ a b. a ++ b) (take_at front (drop legs row) legs long) (ap (λ b. zeros ++ b) (drop_all (length all - legs) (drop legs all) none) ∙ append-nil zeros ∙ filled ∙ ap (λ (m : ℕ). replicate m 0) rest)

pub returns : goal.returns
returns g c =
    let legs = c.trace-legs.result in
    let row = c.trace-legs.new.row in
    let low : legs ≤ length row = omega (arith, c.trace-legs.ensures.inside) in
    let front = c.reverse.ensures.after in
    let long = legs_long row legs low in (
      reverse (take legs row),
      zeros_after c.reverse.new.self row c.fill.new.self legs (ap length front ∙ long) low (c.fill.ensures.after (λ y e. e)) ∙ ap₂ row_with front (omega arith),
      sym long,
      c.trace-legs.ensures.walk,
      c.trace-legs.ensures.simple,
    )
