use Rattle.text.proofs.Writing.{both}
use Rattle.cli_wording.specs.Sayings.{accepted_line, bytes}
use Rattle.cli_wording.proofs.put_accepted.Goals as goal

pub returns : goal.returns
unfolding accepted_line bytes
returns c = both (both (both c.text.ensures c.text-2.ensures) c.put_count.ensures) c.byte.ensures
