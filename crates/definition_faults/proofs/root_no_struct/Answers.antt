use Rattle.std.proofs.Common.{rules}
use Rattle.definition_rules.specs.Faults.{root_no_struct}
use Rattle.definition_faults.specs.RecordFaults.{name_fault}
use Rattle.definition_faults.proofs.root_no_struct.Goals as goal

pub returns : goal.returns
returns c = c.least_fault.ensures (name_fault root_no_struct c.args.noted.now.cells.now c.args.records.now) (λ i place h k. search rules)
