use Rattle.message.proofs.Passes.{filled}
use Rattle.message.proofs.fill.Goals as goal

pub returns : goal.returns
returns c = filled _ _ _ _ _ _ _ c.body.result c.put_row.ensures (rw c.root.ensures at c.body.ensures)
