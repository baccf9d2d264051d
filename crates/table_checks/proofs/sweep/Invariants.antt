use Rattle.reading_rules.specs.Record.{AfterParents}
use Rattle.table_records.specs.Shown.{held_records}
use Rattle.table_checks.proofs.Sweeping.{Part}
use Rattle.table_checks.proofs.sweep.Given as goal

abbrev pub invariant-loop-i : goal.invariant-loop-i
invariant-loop-i l = (w : AfterParents (held_records l.records)) → Part l.records.table.now l.records.unpacked.now l.records.count w l.initial.have l.i l.have l.rest l.more
