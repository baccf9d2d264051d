use Rattle.text.proofs.Writing.{both}
use Rattle.cli_wording.specs.Sayings.{bytes}
use Rattle.cli_report.specs.Shown.{bounds_text}
use Rattle.cli_report.proofs.tables.put_bounds.Goals as goal

pub returns : goal.returns
unfolding bounds_text bytes
returns c = both (both c.put_int.ensures c.text.ensures) c.put_int-2.ensures
