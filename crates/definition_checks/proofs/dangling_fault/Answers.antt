use Rattle.definition_checks.proofs.CheckLaws.{dangling_is}
use Rattle.definition_checks.proofs.dangling_fault.Goals as goal

pub returns : goal.returns
returns c = dangling_is c.args.noted.now.text.now c.args.noted.now.cells.now c.args.noted.now.count c.args.i _ _ _ _ c.kind.ensures c.target.ensures c.cell.ensures c.at_if.ensures
