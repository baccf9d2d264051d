use Rattle.std.proofs.Common.{sym, ◌∙◌, length-set, arith}
use Rattle.message_rows.proofs.Stores.{ends_none, ends_more}
use Rattle.message_rows.proofs.put_ends.Goals as goal

pub loop-k-preserved : goal.loop-k-preserved
loop-k-preserved c = (rw c.set.ensures (sym (ends_more _ _ _ _ c.loop-k-test.true) ∙ c.loop-k.invariant.0), rw c.set.ensures (simp length-set c.loop-k.invariant.1))

pub returns : goal.returns
returns c = sym (ends_none _ _ _ _ (omega (arith, c.loop-k-test.false))) ∙ c.loop-k.invariant.0
