use Rattle.std.proofs.Common.{codes, decimal}
use Rattle.line.proofs.words.Word.put.Goals as goal

pub returns-in-Share : goal.returns-in-Share
returns-in-Share g c =
    let both = g.met.S.Sink.both in
    rw c.in-Share.is (both _ _ _ (decimal c.in-Share.ratio.top) _ c.put_number-in-Share.ensures (both _ _ _ (codes "/") (decimal c.in-Share.ratio.bottom) c.put-in-Share.ensures c.put_number-in-Share-2.ensures))
