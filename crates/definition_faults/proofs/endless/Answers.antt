use Rattle.std.proofs.Common.{rules}
use Rattle.definition_rules.specs.Finite.{is_endless}
use Rattle.definition_faults.specs.RecordFaults.{name_fault}
use Rattle.definition_faults.proofs.endless.Goals as goal

pub returns : goal.returns
returns c = c.least_fault.ensures (name_fault (is_endless c.args.have.now) c.args.noted.now.cells.now c.args.records.now) (λ i place h k. search rules)
