-- What the code's records are.
use Rattle.std.specs.Prelude.{List, ℕ}
use Rattle.reading_rules.specs.Record.{Record}
use Rattle.table_records.specs.Stored.{record_in, records_at}
use Rattle.table_records.specs.declared.Records.{Records}

-- the i-th record
abbrev pub held_record : Records → ℕ → Record
held_record r i = record_in r.table.now r.unpacked.now i

-- all of them, as many as are counted
abbrev pub held_records : Records → List Record
held_records r = records_at r.table.now r.unpacked.now r.count
