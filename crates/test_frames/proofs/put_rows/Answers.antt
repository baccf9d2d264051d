use Rattle.test_frames.specs.Lines.{ok_text}
use Rattle.text.proofs.Writing.{both}
use Rattle.test_frames.proofs.Lines.{rows_line_lem}
use Rattle.test_frames.proofs.put_rows.Goals as goal

pub returns : goal.returns
unfolding ok_text
returns c = rows_line_lem _ _ _ _ c.cells-n.ensures c.numbers_kept.ensures
    (both (both (both c.text.ensures c.number.ensures) c.put_numbers.ensures) c.put_kept.ensures)
