use Rattle.test_frames.specs.Lines.{kept_text}
use Rattle.test_frames.proofs.put_kept.Goals as goal

pub returns-then-kept : goal.returns-then-kept
unfolding kept_text
returns-then-kept c = rw c.if-kept.true c.text.ensures

pub returns-else-kept : goal.returns-else-kept
unfolding kept_text
returns-else-kept c = rw c.if-kept.false c.text-else-kept.ensures
