use mathlib.Core.Path.{sym, ◌∙◌, ap}
use Rattle.numbers.specs.Decimal.{int_within}
use Rattle.numbers.proofs.Digits.{empty, within_minus, within_below, within_plain}
use borrow.Author.Rules.{rules}
use Rattle.numbers.proofs.int_within.Goals as goal

pub returns-then-w-eq0 : goal.returns-then-w-eq0
unfolding int_within
returns-then-w-eq0 c = sym (ap (int_within c.args.least c.args.most) (empty c.args.w.now c.if-w-eq0.true))

pub returns-then-n-gt-ZERO : goal.returns-then-n-gt-ZERO
unfolding int_within
returns-then-n-gt-ZERO c = sym (within_below c.args.w.now c.if-w-eq45.true _ _ _ c.number_from-n.ensures c.if-n-gt-ZERO.true)

pub returns-then-w-eq45 : goal.returns-then-w-eq45
unfolding int_within
returns-then-w-eq45 c = c.lies_within.ensures ∙ sym (within_minus c.args.w.now c.if-w-eq45.true _ _ _ c.number_from-n.ensures c.if-n-gt-ZERO.false)

pub returns : goal.returns
unfolding int_within
returns c = c.lies_within-2.ensures ∙ sym (within_plain c.args.w.now c.if-w-eq45.false _ _ _ c.if-w-eq0.false c.number_from.ensures (search rules) (search rules))
