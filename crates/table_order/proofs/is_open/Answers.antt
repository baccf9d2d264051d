use Rattle.table_order.proofs.Frames.{open_is}
use Rattle.table_order.proofs.is_open.Goals as goal

pub returns : goal.returns
returns c = open_is c.args.p c.args.q
