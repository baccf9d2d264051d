use Rattle.std.proofs.Common.{rules, sym, ◌∙◌}
use Rattle.definition_checks.specs.Checks.{repeat_fault}
use Rattle.definition_checks.proofs.CheckLaws.{repeat_all}
use Rattle.definition_checks.proofs.repeated_name.Goals as goal

pub returns : goal.returns
returns c = c.least_fault.ensures (repeat_fault c.args.noted.now.text.now c.args.noted.now.cells.now) (λ i place h k. search rules) ∙ sym (repeat_all c.args.noted.now.text.now c.args.noted.now.cells.now c.args.noted.now.count)
