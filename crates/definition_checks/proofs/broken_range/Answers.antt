use Rattle.std.proofs.Common.{rules, sym, ◌∙◌}
use Rattle.definition_checks.specs.Checks.{range_fault}
use Rattle.definition_checks.proofs.CheckLaws.{range_all}
use Rattle.definition_checks.proofs.broken_range.Goals as goal

pub returns : goal.returns
returns c = c.least_fault.ensures (range_fault c.args.noted.now.text.now c.args.noted.now.cells.now c.args.noted.now.count) (λ i place h k. search rules) ∙ sym (range_all c.args.noted.now.text.now c.args.noted.now.cells.now c.args.noted.now.count)
