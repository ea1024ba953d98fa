-- The causes of every call stand in the order of the table of refusals.
use Rattle.std.proofs.Common.{arith}
use Rattle.measure.specs.Kind.{Kind}
use Rattle.report.specs.Refusals.{InOrder}
use Rattle.cards.specs.declared.Call.{Call}
use Rattle.cards.specs.declared.Call.TheVariants.{Offer, Change, Withdraw, Quote, Recheck, Discard, Read}
use Rattle.cards.specs.Runs.{Memory, Lent, causes_of}

pub in_order : {V L : Type 0} (K : Kind V L) (m : Memory V L) (l : Lent V) (call : Call V L) → InOrder (causes_of K m l call)
in_order K m l (Offer place link) = omega arith
in_order K m l (Change place value) = omega arith
in_order K m l (Withdraw place) = omega arith
in_order K m l (Quote card ask k) = omega arith
in_order K m l (Recheck card k) = omega arith
in_order K m l (Discard card) = omega arith
in_order K m l (Read card start) = omega arith
