use Rattle.std.proofs.Common.{refl, arith, ltb-false}
use Rattle.records.specs.Feed.{record_of}
use Rattle.records.proofs.RoundTrip.{reads_whole}
use Rattle.feed.proofs.read_offer.Goals as goal

pub returns-in-1 : goal.returns-in-1
unfolding record_of
returns-in-1 c = reads_whole c.type_inv.part c.requires refl (omega (arith, ltb-false)) cc
