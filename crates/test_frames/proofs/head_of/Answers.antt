use Rattle.test_frames.specs.Frame.{frame_head}
use Rattle.test_frames.proofs.head_of.Goals as goal

pub returns : goal.returns
unfolding frame_head
returns c = rw (c.get_or.ensures, c.u32_at.ensures, c.u32_at-2.ensures, c.u32_at-3.ensures)
