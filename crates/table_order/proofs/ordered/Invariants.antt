use mathlib.Core.Path.{◌≡◌}
use mathlib.Core.List.{[]}
use Prim.Native.Nat.{◌-◌, ◌≤◌}
use lib.ListN.{length}
use Rattle.table_rules.specs.RecordRules.{ordered}
use Rattle.table_records.specs.Stored.{records_from}
use Rattle.table_records.specs.Shown.{held_records}
use Rattle.table_order.specs.Open.{frames_of}
use Rattle.table_order.proofs.ordered.Given as goal

abbrev pub invariant-loop-i : goal.invariant-loop-i
invariant-loop-i l = (ordered [] 0 (held_records l.records) ≡ ordered (frames_of l.bodies l.depth) l.i (records_from l.records.table.now l.records.unpacked.now (l.records.count - l.i) l.i)) × (l.depth ≤ 8) × (length l.bodies ≡ 8)
