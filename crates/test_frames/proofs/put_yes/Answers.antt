use Rattle.test_frames.specs.Lines.{yes_line}
use Rattle.test_frames.proofs.put_yes.Goals as goal

pub returns-then-yes : goal.returns-then-yes
unfolding yes_line
returns-then-yes c = rw c.if-yes.true c.text.ensures

pub returns-else-yes : goal.returns-else-yes
unfolding yes_line
returns-else-yes c = rw c.if-yes.false c.text-else-yes.ensures
