use Rattle.std.proofs.Common.{rules, sym, ◌∙◌}
use Rattle.definition_checks.specs.Checks.{dangling_fault}
use Rattle.definition_checks.proofs.CheckLaws.{dangling_all}
use Rattle.definition_checks.proofs.dangling.Goals as goal

pub returns : goal.returns
returns c = c.least_fault.ensures (dangling_fault c.args.noted.now.text.now c.args.noted.now.cells.now c.args.noted.now.count) (λ i place h k. search rules) ∙ sym (dangling_all c.args.noted.now.text.now c.args.noted.now.cells.now c.args.noted.now.count)
