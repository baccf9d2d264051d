use Rattle.reading_rules.specs.Record.{AfterParents}
use Rattle.table_records.specs.Shown.{held_records}
use Rattle.table_checks.proofs.Sweeping.{SweptSoFar}
use Rattle.table_checks.proofs.finites.Given as goal

abbrev pub invariant-loop : goal.invariant-loop
invariant-loop l = AfterParents (held_records l.records) → SweptSoFar (held_records l.records) l.counter l.have
