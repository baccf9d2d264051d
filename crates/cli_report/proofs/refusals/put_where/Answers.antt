use Rattle.text.proofs.Writing.{both}
use Rattle.cli_wording.specs.Sayings.{bytes}
use Rattle.cli_report.specs.Shown.{where_text}
use Rattle.cli_report.proofs.refusals.put_where.Goals as goal

pub returns : goal.returns
unfolding where_text bytes
returns c = rw (← c.line_of.ensures, ← c.column_of.ensures) (both (both (both (both (both c.text.ensures c.byte.ensures) c.decimal.ensures) c.byte-2.ensures) c.decimal-2.ensures) c.text-2.ensures)
