use Rattle.std.proofs.Common.{sym, refl, ◌∙◌}
use Rattle.message_tokens.proofs.Naturals.{summed_start, summed_more, digit_floor, digits_counted, none_there}
use Rattle.message_tokens.proofs.digits_by_byte.Goals as goal

pub loop-i-init : goal.loop-i-init
loop-i-init c = summed_start _ _

pub overflow_sub-b : goal.overflow_sub-b
overflow_sub-b c = digit_floor _ _ c.is_digit.ensures c.if-is_digit.true

pub loop-i-preserved : goal.loop-i-preserved
loop-i-preserved c = summed_more _ _ _ _ _ c.loop-i.invariant c.loop-i-test.true (sym c.is_digit.ensures ∙ c.if-is_digit.true) (rw c.from.ensures refl)

pub returns-else-is_digit : goal.returns-else-is_digit
returns-else-is_digit c = digits_counted _ _ _ _ c.loop-i.invariant _ refl c.digits_before.result c.digits_before.ensures

pub returns : goal.returns
returns c = digits_counted _ _ _ _ c.loop-i.invariant _ (none_there c.args.s.now _ c.loop-i-test.false) c.digits_before-2.result c.digits_before-2.ensures
