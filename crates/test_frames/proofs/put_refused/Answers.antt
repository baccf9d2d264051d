use Rattle.test_frames.specs.Lines.{refused_text}
use Rattle.text.proofs.Writing.{both}
use Rattle.test_frames.proofs.put_refused.Goals as goal

pub returns : goal.returns
unfolding refused_text
returns c = both c.text.ensures (both c.number.ensures c.number-2.ensures)
