use mathlib.Core.Path.{sym, ◌∙◌}
use Rattle.numbers.proofs.Digits.{like_minus, like_plain}
use Rattle.numbers.proofs.is_int_like.Goals as goal

pub returns-then-get_or-eq45 : goal.returns-then-get_or-eq45
returns-then-get_or-eq45 c = c.digits_from.ensures ∙ sym (like_minus _ (sym c.get_or.ensures ∙ c.if-get_or-eq45.true))

pub returns : goal.returns
returns c = c.digits_from-2.ensures ∙ sym (like_plain _ (λ h. c.if-get_or-eq45.false (c.get_or.ensures ∙ h)))
