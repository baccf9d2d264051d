use Rattle.text.proofs.Writing.{both}
use Rattle.cli_wording.specs.Sayings.{bytes}
use Rattle.cli_report.specs.Shown.{in_table}
use Rattle.cli_report.proofs.refusals.put_in_table.Goals as goal

pub returns : goal.returns
unfolding in_table bytes
returns c = both (both (both (both c.text.ensures c.text-2.ensures) c.decimal.ensures) c.text-3.ensures) c.put_refused.ensures
