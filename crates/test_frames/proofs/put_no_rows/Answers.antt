use Rattle.text.proofs.Writing.{both}
use Rattle.test_frames.proofs.Lines.{refused_line_lem}
use Rattle.test_frames.proofs.put_no_rows.Goals as goal

pub returns : goal.returns
returns c = refused_line_lem _ _ _ _ _ c.numbers_kept.ensures (both c.put_refused.ensures c.put_kept.ensures)
