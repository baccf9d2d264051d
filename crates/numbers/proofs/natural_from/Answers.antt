use mathlib.Core.Path.{ap, sym, ◌∙◌}
use Rattle.numbers.specs.Decimal.{is_natural}
use Rattle.numbers.proofs.Digits.{natural_one, natural_led, natural_zero}
use borrow.Author.Tests.{le-ltb}
use Rattle.numbers.proofs.natural_from.Goals as goal

pub returns-then-digits-eq1 : goal.returns-then-digits-eq1
returns-then-digits-eq1 c = c.is_digit.ensures ∙ (natural_one c.rest-digits.result.now c.if-digits-eq1.true ∙ ap is_natural c.rest-digits.ensures)

pub returns-then-has_lead : goal.returns-then-has_lead
returns-then-has_lead c = c.all_digits.ensures ∙ (natural_led c.rest-digits.result.now c.if-digits-eq1.false (rw c.get_or-has_lead.ensures at c.if-has_lead.true) ∙ ap is_natural c.rest-digits.ensures)

pub returns-else-has_lead : goal.returns-else-has_lead
returns-else-has_lead c = rw (le-ltb 48 _ c.if-has_lead.false) (sym (natural_zero c.rest-digits.result.now c.if-digits-eq1.false (rw c.get_or-has_lead.ensures at c.if-has_lead.false)) ∙ ap is_natural c.rest-digits.ensures)
