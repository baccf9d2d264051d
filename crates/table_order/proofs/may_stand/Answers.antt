use Rattle.table_order.proofs.Frames.{stand_none, stand_group, stand_fields}
use Rattle.table_order.proofs.may_stand.Goals as goal

pub returns-then-depth-eq0 : goal.returns-then-depth-eq0
returns-then-depth-eq0 c = stand_none c.args.bodies.now c.args.depth c.args.extension c.if-depth-eq0.true

pub returns-then-is_extended : goal.returns-then-is_extended
returns-then-is_extended c = stand_group c.args.bodies.now c.args.depth c.args.extension c.if-depth-eq0.false (rw c.get_or-is_extended.ensures at c.if-is_extended.true)

pub returns : goal.returns
returns c = stand_fields c.args.bodies.now c.args.depth c.args.extension c.if-depth-eq0.false (rw c.get_or-is_extended.ensures at c.if-is_extended.false)
