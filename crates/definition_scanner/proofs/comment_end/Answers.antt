use mathlib.Core.Path.{sym, ◌∙◌}
use native.Mathlib.Omega.{arith}
use Rattle.definition_scanner.proofs.Steps.{comment_more, comment_ends, comment_never}
use Rattle.definition_scanner.proofs.comment_end.Goals as goal

pub returns-then-ends_comment : goal.returns-then-ends_comment
returns-then-ends_comment c = record { same = λ q. c.loop-at.invariant q ∙ comment_ends q _ _ (omega arith) (sym c.ends_comment.ensures ∙ c.if-ends_comment.true); after = omega arith; within = omega arith }

pub loop-at-preserved : goal.loop-at-preserved
loop-at-preserved c = λ q. c.loop-at.invariant q ∙ comment_more q _ _ (omega arith) (sym c.ends_comment.ensures ∙ c.if-ends_comment.false)

pub returns : goal.returns
returns c = λ q. c.loop-at.invariant q ∙ comment_never q _ _ (omega arith)
