use Rattle.text.proofs.Writing.{both}
use Rattle.cli_wording.specs.Sayings.{bytes}
use Rattle.cli_wanted.specs.Wanted.{wanted_text}
use Rattle.cli_wanted.proofs.put_wanted.Goals as goal

pub returns : goal.returns
unfolding wanted_text bytes
returns c = rw (← c.is_choice.ensures, ← c.resolved.ensures, ← c.label_at.ensures) (both (both (both (both c.text.ensures c.put_type.ensures) c.byte.ensures) c.text-2.ensures) c.put_choice.ensures)
