use Rattle.std.proofs.Common.{sym, arith}
use Rattle.line.proofs.Lengths.{twenty_digits}
use Rattle.line.proofs.Digits.{one_digit, one_more}
use Rattle.line.proofs.sinks.+digits.Goals as goal

pub returns-then-n-lt10 : goal.returns-then-n-lt10
returns-then-n-lt10 t c = record { count = sym (one_digit c.args.n (omega arith)); few = omega arith }

pub returns-else-n-lt10 : goal.returns-else-n-lt10
returns-else-n-lt10 t c =
    let long = one_more c.args.n (omega arith) (omega arith) in
    let short = twenty_digits c.args.n (omega arith) in
    record { count = omega arith; few = omega arith }
