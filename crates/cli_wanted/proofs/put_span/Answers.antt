use Rattle.text.proofs.Writing.{both}
use Rattle.cli_wording.specs.Sayings.{bytes}
use Rattle.cli_wanted.specs.Wanted.{span_text}
use Rattle.cli_wanted.proofs.put_span.Goals as goal

pub returns : goal.returns
unfolding span_text bytes
returns c = rw (← c.least_at.ensures, ← c.most_at.ensures) (both (both c.put_int.ensures c.text.ensures) c.put_int-2.ensures)
