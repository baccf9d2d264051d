use mathlib.Core.Path.{sym, ◌∙◌}
use Rattle.message_lookup.proofs.Judging.{no_form}
use Rattle.message_lookup.proofs.judge_date.Goals as goal

pub returns-else-date_form-clause-number : goal.returns-else-date_form-clause-number
returns-else-date_form-clause-number c = no_form _ _ (sym c.date_form.ensures ∙ c.if-date_form.false)
