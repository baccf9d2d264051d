use Prim.Native.Nat.{◌-◌}
use mathlib.Core.Path.{sym, ◌∙◌}
use Rattle.message_lookup.proofs.Steps.{complete_more, complete_stop, complete_end}
use Rattle.message_lookup.proofs.complete.Goals as goal

pub returns-then-is_missing : goal.returns-then-is_missing
returns-then-is_missing c = sym (complete_stop _ _ _ c.args.p c.args.seen.now c.loop-i.i c.loop-i-test.true (sym c.is_missing.ensures ∙ c.if-is_missing.true)) ∙ c.loop-i.invariant

pub loop-i-preserved : goal.loop-i-preserved
loop-i-preserved c = sym (complete_more _ _ _ c.args.p c.args.seen.now c.loop-i.i c.loop-i-test.true (sym c.is_missing.ensures ∙ c.if-is_missing.false)) ∙ c.loop-i.invariant

pub returns : goal.returns
returns c = sym (complete_end _ _ _ c.args.p c.args.seen.now c.loop-i.i c.loop-i-test.false) ∙ c.loop-i.invariant
