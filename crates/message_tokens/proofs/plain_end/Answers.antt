use Rattle.std.proofs.Common.{sym, ◌∙◌}
use Rattle.message_tokens.proofs.Plain.{plain_more, plain_many}
use Rattle.message_tokens.proofs.plain_end.Goals as goal

pub loop-i-preserved-then-sixteen : goal.loop-i-preserved-then-sixteen
loop-i-preserved-then-sixteen c = plain_many 16 _ _ _ c.loop-i.invariant (c.sixteen.ensures c.if-sixteen.true)

pub loop-i-preserved : goal.loop-i-preserved
loop-i-preserved c = plain_more _ _ _ c.loop-i.invariant c.loop-i-test.true (sym c.is_plain.ensures ∙ c.if-is_plain.true)
