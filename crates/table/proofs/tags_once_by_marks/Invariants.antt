use mathlib.Core.Path.{◌≡◌}
use Prim.Native.Nat.{◌-◌}
use Rattle.definition_rules.specs.Faults.{tag_repeated}
use Rattle.table_rules.specs.RecordRules.{none_broken}
use Rattle.table_records.specs.Stored.{records_from}
use Rattle.table_records.specs.Shown.{held_records}
use Rattle.table_tags.specs.Keys.{MarkedBefore}
use Rattle.table.proofs.tags_once_by_marks.Given as goal

abbrev pub invariant-loop-i : goal.invariant-loop-i
invariant-loop-i l = (none_broken (tag_repeated (held_records l.records)) 0 (held_records l.records) ≡ none_broken (tag_repeated (held_records l.records)) l.i (records_from l.records.table.now l.records.unpacked.now (l.records.count - l.i) l.i)) × MarkedBefore l.records.table.now l.records.unpacked.now l.i l.marks
