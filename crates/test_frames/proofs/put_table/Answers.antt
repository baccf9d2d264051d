use Rattle.test_frames.specs.Lines.{ok_text}
use Rattle.text.proofs.Writing.{both}
use Rattle.test_frames.proofs.Lines.{table_line_lem}
use Rattle.test_frames.proofs.put_table.Goals as goal

pub returns : goal.returns
unfolding ok_text
returns c = table_line_lem _ _ _ _ c.part.ensures c.bytes_kept.ensures
    (both (both (both (both c.text.ensures c.number.ensures) c.byte.ensures) c.hex.ensures) c.put_kept.ensures)
