use mathlib.Core.Path.{sym, ◌∙◌}
use Rattle.std.proofs.Common.{rules}
use Rattle.numbers.proofs.Digits.{number_more, number_end}
use Rattle.numbers.proofs.number_from.Goals as goal

pub loop-b-preserved : goal.loop-b-preserved
loop-b-preserved c = (search rules, rw c.digit_after-sum.ensures (sym (number_more c.rest-digits.result.now c.loop-b.b-index _ c.loop-b-test.true) ∙ c.loop-b.invariant.1))

pub returns : goal.returns
returns c = rw (← c.rest-digits.ensures) (sym (number_end c.rest-digits.result.now c.loop-b.b-index _ c.loop-b-test.false c.loop-b.invariant.0) ∙ c.loop-b.invariant.1)
