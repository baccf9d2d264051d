use Rattle.text.proofs.Writing.{both}
use Rattle.cli_report.specs.Shown.{in_text}
use Rattle.cli_report.proofs.refusals.put_in_text.Goals as goal

pub returns : goal.returns
unfolding in_text
returns c = both (both c.put_where.ensures c.put_refused.ensures) c.put_view.ensures
