use mathlib.Core.Path.{◌≡◌, ap, sym, ◌∙◌}
use Rattle.table_order.specs.declared.Body.{Body}
use Prim.Native.Nat.{◌+◌, ◌-◌}
use native.Mathlib.Omega.{arith}
use Rattle.definition_rules.specs.Table.{number_up}
use Rattle.table_rules.specs.RecordRules.{is_open}
use Rattle.table_order.proofs.Frames.{closed_here, closed_more, closed_end}
use Rattle.table_order.proofs.closed_to.Goals as goal

pub returns-then-is_open : goal.returns-then-is_open
returns-then-is_open c = let e : c.loop-d.d - 1 + 1 ≡ c.loop-d.d = omega arith in (rw e (closed_here c.args.bodies.now c.loop-d.d (number_up c.args.p) c.loop-d-test.true (ap (λ (b : Body). is_open (number_up c.args.p) b.number) (sym c.get_or.ensures) ∙ sym c.is_open.ensures ∙ c.if-is_open.true) ∙ sym c.loop-d.invariant), omega arith)

pub loop-d-preserved : goal.loop-d-preserved
loop-d-preserved c = c.loop-d.invariant ∙ closed_more c.args.bodies.now c.loop-d.d (number_up c.args.p) c.loop-d-test.true (ap (λ (b : Body). is_open (number_up c.args.p) b.number) (sym c.get_or.ensures) ∙ sym c.is_open.ensures ∙ c.if-is_open.false)

pub returns : goal.returns
returns c = (closed_end c.args.bodies.now c.loop-d.d (number_up c.args.p) c.loop-d-test.false ∙ sym c.loop-d.invariant, omega arith)
