use mathlib.Core.Path.{◌≡◌}
use Prim.Native.Nat.{◌-◌}
use Rattle.definition_cells.specs.Places.{lesser, least_from}
use Rattle.table_tags.specs.Keys.{MarkedBefore}
use Rattle.definition_faults.specs.RecordFaults.{tag_fault}
use Rattle.definition_faults.proofs.repeated_tag.Given as goal

abbrev pub invariant-loop-i : goal.invariant-loop-i
invariant-loop-i l = record {
  so_far : least_from (tag_fault l.noted.cells.now l.records) l.records.count 0 ≡ lesser l.least (least_from (tag_fault l.noted.cells.now l.records) (l.records.count - l.i) l.i);
  marked : MarkedBefore l.records.table.now l.records.unpacked.now l.i l.marks;
}
