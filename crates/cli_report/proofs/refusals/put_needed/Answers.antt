use Rattle.text.proofs.Writing.{both}
use Rattle.cli_wording.specs.Sayings.{bytes}
use Rattle.cli_report.specs.Shown.{needed_text}
use Rattle.cli_report.proofs.refusals.put_needed.Goals as goal

pub returns : goal.returns
unfolding needed_text bytes
returns c = both (both (both (both c.text.ensures c.text-2.ensures) c.decimal.ensures) c.text-3.ensures) c.put_refused.ensures
