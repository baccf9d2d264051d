use borrow.Author.Tests.{le-ltb, lt-ltb}
use Rattle.text.proofs.Writing.{both}
use Rattle.cli_report.specs.Shown.{int_text}
use Rattle.cli_report.proofs.tables.put_int.Goals as goal

pub returns-then-n-lt-BIAS : goal.returns-then-n-lt-BIAS
unfolding int_text
returns-then-n-lt-BIAS c = rw (lt-ltb _ _ c.if-n-lt-BIAS.true) (both c.byte.ensures c.decimal.ensures)

pub returns-else-n-lt-BIAS : goal.returns-else-n-lt-BIAS
unfolding int_text
returns-else-n-lt-BIAS c = rw (le-ltb _ _ c.if-n-lt-BIAS.false) c.decimal-else-n-lt-BIAS.ensures
