use Rattle.text.proofs.Writing.{both}
use Rattle.cli_wording.specs.Sayings.{meaning_line, bytes}
use Rattle.cli_wording.proofs.put_refused.Goals as goal

pub returns : goal.returns
unfolding meaning_line bytes
returns c = both (both (both (both c.text.ensures (rw c.from.ensures at c.decimal.ensures)) c.text-2.ensures) c.put_meaning.ensures) c.byte.ensures
