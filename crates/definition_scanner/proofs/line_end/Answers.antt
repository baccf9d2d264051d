use mathlib.Core.Path.{◌≡◌, ◌∙◌}
use native.Mathlib.Omega.{arith}
use lib.ListN.{length}
use Rattle.definition_scanner.proofs.Steps.{line_more, line_stop, line_ends}
use Rattle.definition_scanner.proofs.line_end.Goals as goal

pub returns-then-is_last : goal.returns-then-is_last
returns-then-is_last c = record { same = c.loop-at.invariant ∙ line_stop _ _ (omega arith) c.if-is_last.true; after = omega arith; within = omega arith }

pub loop-at-preserved : goal.loop-at-preserved
loop-at-preserved c = c.loop-at.invariant ∙ line_more _ _ (omega arith) c.if-is_last.false

pub returns : goal.returns
returns c =
    let q : c.loop-at.at ≡ length c.args.text.now = omega arith in
    record { same = rw q at (c.loop-at.invariant ∙ line_ends _ _ (omega arith)); after = omega arith; within = omega arith }
