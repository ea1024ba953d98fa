use Rattle.std.proofs.Common.{◌≡◌, ◌≤◌, ◌++◌, length, drop, decimal}
use Rattle.line.proofs.sinks.spell.Given as goal

abbrev pub invariant-loop-rest : goal.invariant-loop-rest
invariant-loop-rest l =
    (l.first ≤ length l.text) × (length (decimal l.rest) ≤ l.first) × (decimal l.fn.n ≡ decimal l.rest ++ drop l.first l.text)

abbrev pub decreases-loop-rest : goal.decreases-loop-rest
decreases-loop-rest l = l.rest
