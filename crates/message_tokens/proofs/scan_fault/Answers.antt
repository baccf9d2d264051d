use Rattle.std.proofs.Common.{sym, ◌∙◌, arith}
use Rattle.message_tokens.specs.Turn.{ScanOn}
use Rattle.message_tokens.proofs.Steps.{scan_start, scan_plain, scan_opening, scan_deep, scan_closing, scan_end, scan_bad}
use Rattle.message_tokens.proofs.scan_fault.Goals as goal
use Rattle.message_tokens.proofs.scan_fault.Goals.{in-Opening+else-is_full, in-Closing, in_default}

pub loop-h-init : goal.loop-h-init
loop-h-init c = (scan_start _, omega arith)

pub returns-in-Err : goal.returns-in-Err
returns-in-Err c = scan_bad c.args.message.now _ _ c.loop-h.invariant.1 _ (c.in-Err.ensures 0) ∙ sym (c.loop-h.invariant.0 ∙ c.plain_end.ensures.is _)

pub returns-in-Nothing : goal.returns-in-Nothing
returns-in-Nothing c = scan_end c.args.message.now _ _ c.loop-h.invariant.1 _ _ _ (c.in-Ok.ensures 0) c.in-Nothing.is ∙ sym (c.loop-h.invariant.0 ∙ c.plain_end.ensures.is _)

pub returns-then-is_full : goal.returns-then-is_full
returns-then-is_full c = scan_deep c.args.message.now _ _ c.loop-h.invariant.1 _ _ _ (c.in-Ok.ensures 0) c.in-Opening.is c.if-is_full.true ∙ sym (c.loop-h.invariant.0 ∙ c.plain_end.ensures.is _)

pub loop-h-preserved : goal.loop-h-preserved
loop-h-preserved c =
    let on : ScanOn c.args.message.now c.plain_end.result c.loop-h.deep c.in-Ok.h.past.at c.match-h.deep = elim c.match-h.branch [
      | in-Opening+else-is_full w ↦ rw w.deep-is (scan_opening c.args.message.now _ _ c.loop-h.invariant.1 _ _ _ (c.in-Ok.ensures 0) w.in-Opening.is w.if-is_full.false)
      | in-Closing w ↦ scan_closing c.args.message.now _ _ c.loop-h.invariant.1 _ _ _ (c.in-Ok.ensures 0) _ w.in-Closing.is (w.deep-is ∙ w.saturating_sub-deep.ensures)
      | in_default w ↦ rw w.deep-is (scan_plain c.args.message.now _ _ c.loop-h.invariant.1 _ _ _ w.in_default.not-Nothing w.in_default.not-Opening w.in_default.not-Closing (c.in-Ok.ensures 0))
    ] in
    (c.loop-h.invariant.0 ∙ (c.plain_end.ensures.is _ ∙ on.is), on.few)

pub loop-h-smaller : goal.loop-h-smaller
loop-h-smaller c =
    let on : ScanOn c.args.message.now c.plain_end.result c.loop-h.deep c.in-Ok.h.past.at c.match-h.deep = elim c.match-h.branch [
      | in-Opening+else-is_full w ↦ rw w.deep-is (scan_opening c.args.message.now _ _ c.loop-h.invariant.1 _ _ _ (c.in-Ok.ensures 0) w.in-Opening.is w.if-is_full.false)
      | in-Closing w ↦ scan_closing c.args.message.now _ _ c.loop-h.invariant.1 _ _ _ (c.in-Ok.ensures 0) _ w.in-Closing.is (w.deep-is ∙ w.saturating_sub-deep.ensures)
      | in_default w ↦ rw w.deep-is (scan_plain c.args.message.now _ _ c.loop-h.invariant.1 _ _ _ w.in_default.not-Nothing w.in_default.not-Opening w.in_default.not-Closing (c.in-Ok.ensures 0))
    ] in
    omega (arith, on.less, on.within, c.plain_end.ensures.least)
