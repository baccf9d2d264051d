use Rattle.text.proofs.Writing.{both}
use Rattle.cli_wording.specs.Sayings.{bytes}
use Rattle.cli_wanted.specs.Wanted.{wanted_range_text}
use Rattle.cli_wanted.proofs.put_wanted_range.Goals as goal

pub returns : goal.returns
unfolding wanted_range_text bytes
returns c = rw (← c.is_choice.ensures, ← c.resolved-t.ensures, ← c.label_at.ensures) (both (both (both (both (both c.text.ensures (rw c.kind_at.ensures at c.put_kind.ensures)) c.byte.ensures) c.text-2.ensures) c.put_allowed.ensures) c.put_choice.ensures)
