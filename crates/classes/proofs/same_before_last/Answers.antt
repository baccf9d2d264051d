use mathlib.Core.Path.{sym, ◌∙◌}
use Prim.Native.Nat.{◌-◌}
use native.Mathlib.Omega.{arith}
use Rattle.classes.proofs.Rows.{same_step, same_stop, same_last}
use Rattle.classes.proofs.same_before_last.Goals as goal

pub returns-then-a-i : goal.returns-then-a-i
returns-then-a-i c = sym (same_stop _ _ (c.loop-i.i - 1) (omega (arith, c.loop-i-test.true)) (omega (arith, c.loop-i-test.true, c.requires.a_len)) c.if-a-i.true) ∙ c.loop-i.invariant.0

pub loop-i-preserved : goal.loop-i-preserved
loop-i-preserved c = (sym (same_step _ _ c.loop-i.i c.loop-i.invariant.1.0 c.loop-i-test.true (omega (arith, c.loop-i-test.true, c.requires.a_len)) c.if-a-i.false) ∙ c.loop-i.invariant.0, (omega arith, omega (arith, c.loop-i-test.true)))

pub returns : goal.returns
returns c = sym (same_last _ _ _ (omega (arith, c.loop-i-test.false)) c.loop-i.invariant.1.1 c.requires.a_len c.requires.a_value) ∙ c.loop-i.invariant.0
