use mathlib.Core.Path.{sym, ◌∙◌}
use Rattle.message_lookup.proofs.Judging.{no_form}
use Rattle.message_lookup.proofs.judge_time.Goals as goal

pub returns-else-time_form-clause-number : goal.returns-else-time_form-clause-number
returns-else-time_form-clause-number c = no_form _ _ (sym c.time_form.ensures ∙ c.if-time_form.false)
