use Rattle.std.proofs.Common.{rules, sym, ◌∙◌}
use Rattle.definition_checks.specs.Checks.{form_fault}
use Rattle.definition_checks.proofs.CheckLaws.{form_all}
use Rattle.definition_checks.proofs.broken_form.Goals as goal

pub returns : goal.returns
returns c = c.least_fault.ensures (form_fault c.args.noted.now.text.now c.args.noted.now.cells.now) (λ i place h k. search rules) ∙ sym (form_all c.args.noted.now.text.now c.args.noted.now.cells.now c.args.noted.now.count)
