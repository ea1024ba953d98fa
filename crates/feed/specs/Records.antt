-- What is left of a feed that is read record by record.
use Rattle.std.specs.Prelude.{List, Result}
use Rattle.report.specs.declared.Refusal.{Refusal}
use Rattle.records.specs.declared.Record.{Record}
use Rattle.records.specs.Records.{records_from}
use Rattle.feed.specs.declared.Records.{Records}

-- the records that are still to come, in order, and last the refusal of what cannot be read
abbrev pub unread : Records → List (Result Record Refusal)
unread s = records_from s.feed.now s.start
