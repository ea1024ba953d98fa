use Rattle.std.proofs.Common.{refl, rules}
use Rattle.records.specs.Feed.{record_of}
use Rattle.records.proofs.RoundTrip.{reads_whole}
use Rattle.feed.proofs.read_head.Goals as goal

pub returns-in-3 : goal.returns-in-3
unfolding record_of
returns-in-3 c = reads_whole {k = 3} c.type_inv.part (search rules) refl (search rules) cc

pub returns-in-5 : goal.returns-in-5
unfolding record_of
returns-in-5 c = reads_whole {k = 5} c.type_inv.part (search rules) refl (search rules) cc

pub returns-in-6 : goal.returns-in-6
unfolding record_of
returns-in-6 c = reads_whole {k = 6} c.type_inv.part (search rules) refl (search rules) cc

pub returns-in-7 : goal.returns-in-7
unfolding record_of
returns-in-7 c = reads_whole {k = 7} c.type_inv.part (search rules) refl (search rules) cc
