use Rattle.std.proofs.Common.{◌∙◌}
use native.Mathlib.Omega.{arith}
use Rattle.definition_cells.proofs.PlaceLaws.{loop_start, loop_more, loop_end}
use Rattle.definition_cells.proofs.least_fault.Goals as goal

pub loop-i-init : goal.loop-i-init
loop-i-init g c = λ f h. loop_start f c.args.count

pub loop-i-preserved : goal.loop-i-preserved
loop-i-preserved g c = λ f h. loop_more f c.args.count c.loop-i.i _ _ _ (c.loop-i.invariant f h) (omega arith) (h _ _ (omega arith) c.fault.ensures) ∙ rw c.lesser-least.ensures

pub returns : goal.returns
returns g c = λ f h. loop_end f c.args.count c.loop-i.i _ _ c.loop-i.least (c.loop-i.invariant f h) (omega arith)
