use Rattle.std.proofs.Common.{rules}
use Rattle.definition_rules.specs.Faults.{rule7_broken}
use Rattle.table_records.specs.Shown.{held_records}
use Rattle.definition_faults.specs.RecordFaults.{name_fault}
use Rattle.definition_faults.proofs.misplaced.Goals as goal

pub returns : goal.returns
returns c = c.least_fault.ensures (name_fault (rule7_broken (held_records c.args.records.now)) c.args.noted.now.cells.now c.args.records.now) (λ i place h k. search rules)
