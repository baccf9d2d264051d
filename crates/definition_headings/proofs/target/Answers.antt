use Rattle.std.proofs.Common.{◌∙◌}
use Rattle.definition_headings.proofs.HeadLaws.{target_top, target_none}
use Rattle.definition_headings.proofs.target.Goals as goal

pub returns-then-kind-ne-REFERENCE : goal.returns-then-kind-ne-REFERENCE
returns-then-kind-ne-REFERENCE c = target_none c.args.noted.now.text.now c.args.noted.now.cells.now c.args.noted.now.count c.args.i _ c.kind.ensures c.if-kind-ne-REFERENCE.true

pub returns : goal.returns
returns c = c.unwrap_or.ensures ∙ target_top c.args.noted.now.text.now c.args.noted.now.cells.now c.args.noted.now.count c.args.i _ c.kind.ensures _ _ c.if-kind-ne-REFERENCE.false c.run.ensures c.find_top.ensures
