use Rattle.text.proofs.Writing.{both}
use Rattle.cli_wording.specs.Sayings.{bytes}
use Rattle.cli_report.specs.Shown.{numbers_text}
use Rattle.cli_report.proofs.tables.put_numbers.Goals as goal

pub returns : goal.returns
unfolding numbers_text bytes
returns c = both (both (both (both (both c.decimal.ensures c.number.ensures) c.number-2.ensures) c.number-3.ensures) c.number-4.ensures) c.byte.ensures
