use mathlib.Core.Path.{sym, ◌∙◌}
use native.Mathlib.Nat.{mod-lt}
use native.Mathlib.Omega.{arith}
use Rattle.table_tags.proofs.Marking.{key_more, key_end}
use Rattle.table_tags.proofs.key.Goals as goal

pub loop-b-preserved : goal.loop-b-preserved
loop-b-preserved c = (c.loop-b.invariant.0 ∙ (key_more _ _ c.args.label.now c.loop-b-test.true ∙ rw c.from.ensures), mod-lt _ (omega arith))

pub returns : goal.returns
returns c = sym (c.loop-b.invariant.0 ∙ key_end _ _ c.args.label.now c.loop-b-test.false)
