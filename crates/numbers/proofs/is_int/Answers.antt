use mathlib.Core.Path.{sym, ◌∙◌}
use Rattle.numbers.proofs.Digits.{int_minus, int_plain}
use Rattle.numbers.proofs.is_int.Goals as goal

pub returns-then-get_or-eq45 : goal.returns-then-get_or-eq45
returns-then-get_or-eq45 c = rw c.natural_from.ensures (sym (int_minus c.args.w.now (sym c.get_or.ensures ∙ c.if-get_or-eq45.true) _ c.number_from.ensures))

pub returns : goal.returns
returns c = c.natural_from-2.ensures ∙ sym (int_plain _ (λ h. c.if-get_or-eq45.false (c.get_or.ensures ∙ h)))
