use Rattle.std.proofs.Common.{arith}
use Rattle.message_unknown.specs.Passing.{BraceOn}
use Rattle.message_unknown.proofs.Steps.{went_start, went_on, halts_after, passes_after, brace_none, brace_opening, brace_closing, brace_last, brace_other}
use Rattle.message_unknown.proofs.braces.Goals as goal
use Rattle.message_unknown.proofs.braces.Goals.{in-Opening, in-Closing+else-is_last, in_default}

pub loop-open-init : goal.loop-open-init
loop-open-init c = (went_start _ _ _ _, omega arith)

pub returns-in-Nothing : goal.returns-in-Nothing
returns-in-Nothing c = halts_after c.loop-open.invariant.0 (brace_none c.args.base c.args.s.now _ _ c.head-h.result (c.head-h.ensures _) c.in-Nothing.is)

pub returns-then-is_last : goal.returns-then-is_last
returns-then-is_last c = passes_after c.loop-open.invariant.0 (brace_last c.args.base c.args.s.now _ _ c.head-h.result (c.head-h.ensures _) c.in-Closing.is c.if-is_last.true)

pub loop-open-preserved : goal.loop-open-preserved
loop-open-preserved c =
    let on : BraceOn c.args.base c.args.s.now c.loop-open.u.at c.loop-open.open c.head-h.result.past.at c.match-h.open = elim c.match-h.branch [
      | in-Opening w ↦ rw w.open-is (brace_opening c.args.base c.args.s.now _ _ c.head-h.result (c.head-h.ensures _) w.in-Opening.is c.loop-open.invariant.1)
      | in-Closing+else-is_last w ↦ rw w.open-is (brace_closing c.args.base c.args.s.now _ _ c.head-h.result (c.head-h.ensures _) w.in-Closing.is c.loop-open.invariant.1 w.if-is_last.false)
      | in_default w ↦ rw w.open-is (brace_other c.args.base c.args.s.now _ _ c.head-h.result (c.head-h.ensures _) w.in_default.not-Nothing w.in_default.not-Opening w.in_default.not-Closing c.loop-open.invariant.1)
    ] in
    (went_on c.loop-open.invariant.0 on.is on.moved, on.few)
