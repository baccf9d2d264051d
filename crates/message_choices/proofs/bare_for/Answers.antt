use mathlib.Core.Path.{sym, ◌∙◌}
use Rattle.message_choices.proofs.Parts.{bare_like, bare_other}
use Rattle.message_choices.proofs.bare_for.Goals as goal

pub returns-then-is_int_like : goal.returns-then-is_int_like
returns-then-is_int_like c = bare_like _ _ c.bare.result c.bare.ensures (sym c.is_int_like.ensures ∙ c.if-is_int_like.true)

pub returns : goal.returns
returns c = bare_other _ _ (sym c.is_int_like.ensures ∙ c.if-is_int_like.false)
