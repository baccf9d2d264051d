use Rattle.cli_wording.specs.Sayings.{bytes}
use Rattle.cli_report.specs.Shown.{mark_text}
use Rattle.cli_report.proofs.refusals.put_mark.Goals as goal

pub returns-then-last : goal.returns-then-last
unfolding mark_text bytes
returns-then-last c = rw c.if-last.true c.text.ensures

pub returns-else-last : goal.returns-else-last
unfolding mark_text bytes
returns-else-last c = rw c.if-last.false c.text-else-last.ensures
