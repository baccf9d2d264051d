use Rattle.text.proofs.Writing.{both}
use Rattle.cli_wording.specs.Sayings.{size_line, bytes}
use Rattle.cli_wording.proofs.put_size.Goals as goal

pub returns : goal.returns
unfolding size_line bytes
returns c = both (both (both (both (both c.text.ensures c.text-2.ensures) c.put_count.ensures) c.text-3.ensures) c.put_count-2.ensures) c.byte.ensures
