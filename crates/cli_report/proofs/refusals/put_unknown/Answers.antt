use Rattle.text.proofs.Writing.{both}
use Rattle.cli_wording.specs.Sayings.{bytes}
use Rattle.cli_report.specs.Shown.{unknown_line}
use Rattle.cli_report.proofs.refusals.put_unknown.Goals as goal

pub returns : goal.returns
unfolding unknown_line bytes
returns c = both (both (both c.put_where.ensures c.text.ensures) c.text-2.ensures) c.byte.ensures
