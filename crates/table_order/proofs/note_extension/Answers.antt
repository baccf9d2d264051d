use Rattle.table_order.proofs.Frames.{extension_none, extension_no, extension_yes}
use Rattle.table_order.proofs.note_extension.Goals as goal

pub returns-then-depth-eq0 : goal.returns-then-depth-eq0
returns-then-depth-eq0 c = extension_none c.args.bodies.now c.args.depth c.args.extension c.if-depth-eq0.true

pub returns-then-extension : goal.returns-then-extension
returns-then-extension c = rw (c.set.ensures, c.get_or-number.ensures) (extension_yes c.args.bodies.now c.args.depth c.args.extension c.if-depth-eq0.false c.requires c.if-extension.true)

pub returns-else-extension : goal.returns-else-extension
returns-else-extension c = extension_no c.args.bodies.now c.args.depth c.args.extension c.if-depth-eq0.false c.if-extension.false
