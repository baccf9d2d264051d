use mathlib.Core.Path.{◌≡◌}
use Prim.Native.Nat.{◌-◌, ◌<◌}
use Rattle.reading_rules.specs.Schema.{is_tagged_as, first_where}
use Rattle.table_records.specs.Stored.{cell_in, records_from}
use Rattle.table_tags.proofs.search.Given as goal

abbrev pub invariant-loop-i : goal.invariant-loop-i
invariant-loop-i l = (first_where (is_tagged_as l.p l.word) l.from (records_from l.records.table.now l.records.unpacked.now (l.end - l.from) l.from) ≡ first_where (is_tagged_as l.p l.word) l.i (records_from l.records.table.now l.records.unpacked.now (l.end - l.i) l.i)) × (l.i < l.end → l.at ≡ cell_in l.records.unpacked.now l.i 0)
