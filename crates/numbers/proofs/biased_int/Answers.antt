use mathlib.Core.Path.{sym, ap}
use Prim.Native.Nat.{min}
use native.Mathlib.Omega.{arith}
use Rattle.numbers.specs.Limits.{int_most}
use Rattle.numbers.specs.Decimal.{biased_int}
use Rattle.numbers.proofs.Digits.{empty, biased_minus, biased_plain}
use Rattle.numbers.proofs.biased_int.Goals as goal

pub returns-then-w-eq0 : goal.returns-then-w-eq0
unfolding biased_int
returns-then-w-eq0 c = sym (ap (λ w. min int_most (biased_int w)) (empty c.args.w.now c.if-w-eq0.true))

pub returns-then-n-gt-ZERO : goal.returns-then-n-gt-ZERO
unfolding biased_int
returns-then-n-gt-ZERO c = omega (arith, biased_minus c.args.w.now c.if-w-eq45.true)

pub returns-then-w-eq45 : goal.returns-then-w-eq45
unfolding biased_int
returns-then-w-eq45 c = omega (arith, biased_minus c.args.w.now c.if-w-eq45.true)

pub returns-then-n-gt-LARGEST : goal.returns-then-n-gt-LARGEST
unfolding biased_int
returns-then-n-gt-LARGEST c = omega (arith, biased_plain c.args.w.now c.if-w-eq45.false c.if-w-eq0.false)

pub returns : goal.returns
unfolding biased_int
returns c = omega (arith, biased_plain c.args.w.now c.if-w-eq45.false c.if-w-eq0.false)
