use Rattle.std.proofs.Common.{◌+◌, ◌-◌, ◌/◌, ◌%◌, List, ℕ, [], ◌++◌, length, drop, decimal, sym, ap, ◌∙◌, arith, append-nil, length-set}
use Rattle.std.proofs.lemmas.Fmt.{decimal_digit, decimal_step}
use Rattle.std.proofs.lemmas.List.{drop_all}
use Rattle.line.proofs.Lengths.{twenty_digits}
use Rattle.line.proofs.Digits.{one_digit, one_more, one_before}
use Rattle.line.proofs.sinks.spell.Goals as goal

pub loop-rest-init : goal.loop-rest-init
loop-rest-init c =
    let short = twenty_digits c.args.n (omega arith) in
    let none = drop_all (length c.args.text.now) c.args.text.now (omega arith) in
    (omega arith, omega arith, sym (ap (λ (x : List ℕ). decimal c.args.n ++ x) none ∙ append-nil (decimal c.args.n)))

pub overflow_sub-first : goal.overflow_sub-first
overflow_sub-first c =
    let long = one_more c.loop-rest.rest (omega arith) (omega arith) in
    let room = c.loop-rest.invariant.1 in
    omega arith

pub bounds-text-first : goal.bounds-text-first
bounds-text-first c =
    let long = one_more c.loop-rest.rest (omega arith) (omega arith) in
    let room = c.loop-rest.invariant.1 in
    let inside = c.loop-rest.invariant.0 in
    omega arith

pub loop-rest-preserved : goal.loop-rest-preserved
loop-rest-preserved c =
    let rest = c.loop-rest.rest in
    let first = c.loop-rest.first in
    let text = c.loop-rest.text in
    let byte = 48 + rest % 10 in
    let long = one_more rest (omega arith) (omega arith) in
    let inside = c.loop-rest.invariant.0 in
    let room = c.loop-rest.invariant.1 in
    let same = length-set text (first - 1) byte in
    let step = decimal_step rest (omega arith) (omega arith) in (
      omega arith,
      omega arith,
      one_before text first byte (decimal (rest / 10)) (decimal c.args.n) (omega arith) inside (c.loop-rest.invariant.2 ∙ ap (λ (x : List ℕ). x ++ drop first text) step),
    )

pub overflow_sub-first-2 : goal.overflow_sub-first-2
overflow_sub-first-2 c =
    let one = one_digit c.loop-rest.rest (omega arith) in
    let room = c.loop-rest.invariant.1 in
    omega arith

pub bounds-text-first-2 : goal.bounds-text-first-2
bounds-text-first-2 c =
    let one = one_digit c.loop-rest.rest (omega arith) in
    let room = c.loop-rest.invariant.1 in
    let inside = c.loop-rest.invariant.0 in
    omega arith

pub returns-clause-inside : goal.returns-clause-inside
returns-clause-inside c =
    let inside = c.loop-rest.invariant.0 in
    let same = length-set c.loop-rest.text (c.loop-rest.first - 1) (48 + c.loop-rest.rest) in
    omega arith

pub returns-clause-digits : goal.returns-clause-digits
returns-clause-digits c =
    let rest = c.loop-rest.rest in
    let first = c.loop-rest.first in
    let text = c.loop-rest.text in
    let one = one_digit rest (omega arith) in
    let room = c.loop-rest.invariant.1 in
    let is = c.loop-rest.invariant.2 ∙ ap (λ (x : List ℕ). x ++ drop first text) (decimal_digit rest (omega arith)) in
    sym (one_before text first (48 + rest) [] (decimal c.args.n) (omega arith) c.loop-rest.invariant.0 is)
