use mathlib.Core.Path.{refl, ◌∙◌}
use Prim.Native.Nat.{◌-◌}
use native.Mathlib.Omega.{arith}
use Rattle.table_walk.specs.Walked.{Walked}
use Rattle.table_walk.proofs.Walking.{head_there, along_start, along_end, along_more, along_stuck, along_full}
use Rattle.table_walk.proofs.unpack.Goals as goal

pub loop-at-init : goal.loop-at-init
loop-at-init c = (along_start _ _, refl)

pub returns-then-n-eq-PARAMETER_LIMIT : goal.returns-then-n-eq-PARAMETER_LIMIT
unfolding Walked
returns-then-n-eq-PARAMETER_LIMIT c = λ r. along_full c.args.table.now c.loop-at.unpacked c.loop-at.n c.loop-at.at c.loop-at.invariant.0 c.loop-at-test.true c.if-n-eq-PARAMETER_LIMIT.true (λ k a b. omega (arith, c.loop-at.invariant.1, r k a b))

pub returns-in_err-size : goal.returns-in_err-size
returns-in_err-size c = rw c.from_residual.ensures (unfold Walked in (λ r. along_stuck c.args.table.now c.loop-at.unpacked c.loop-at.n c.loop-at.at c.loop-at.invariant.0 c.loop-at-test.true _ refl c.in_err-size.ensures (λ k a b. omega (arith, c.loop-at.invariant.1, r k a b))))

pub unpack-requires : goal.unpack-requires
unpack-requires c = head_there c.args.table.now c.loop-at.at _ c.loop-at-test.true c.in_ok-size.ensures.0 (λ e. omega (arith, e, c.in_ok-size.ensures.1))

pub loop-at-preserved : goal.loop-at-preserved
loop-at-preserved c = (along_more c.args.table.now c.loop-at.unpacked c.loop-at.n c.loop-at.at c.loop-at.invariant.0 c.loop-at-test.true _ _ c.in_ok-size.ensures.0 c.in_ok-size.ensures.2 (λ e. omega (arith, e, c.in_ok-size.ensures.1)) c.if-n-eq-PARAMETER_LIMIT.false c.unpack.auto.unpacked c.unpack.ensures, c.unpack.auto.unpacked ∙ c.loop-at.invariant.1)

pub returns : goal.returns
unfolding Walked
returns c = λ r. along_end c.args.table.now c.loop-at.unpacked c.loop-at.n c.loop-at.at c.loop-at.invariant.0 c.loop-at-test.false (λ k a b. omega (arith, c.loop-at.invariant.1, r k a b))
