use mathlib.Core.Path.{ap, ◌∙◌}
use Rattle.table_order.specs.declared.Body.{Body}
use Rattle.definition_rules.specs.Table.{number_up}
use Rattle.table_rules.specs.RecordRules.{is_open}
use Rattle.table_order.proofs.Frames.{parent_none, parent_some}
use Rattle.table_order.proofs.is_parent.Goals as goal

pub returns-then-depth-eq0 : goal.returns-then-depth-eq0
returns-then-depth-eq0 c = parent_none c.args.bodies.now c.args.depth c.args.p c.if-depth-eq0.true

pub returns : goal.returns
returns c = c.is_open.ensures ∙ (ap (λ (b : Body). is_open (number_up c.args.p) b.number) c.get_or.ensures ∙ parent_some c.args.bodies.now c.args.depth c.args.p c.if-depth-eq0.false)
