use Rattle.message.proofs.Passes.{with_fault, too_long, bad_byte_lem, no_bad}
use Rattle.message.proofs.read_records.Goals as goal

pub returns-then-is_long-clause-result_value : goal.returns-then-is_long-clause-result_value
returns-then-is_long-clause-result_value c = (with_fault _ _ _ _ (too_long _ _ _ _ c.if-is_long.true)).0

pub returns-then-is_long-clause-rows_after : goal.returns-then-is_long-clause-rows_after
returns-then-is_long-clause-rows_after c = (with_fault _ _ _ _ (too_long _ _ _ _ c.if-is_long.true)).1

pub returns-in-Some-clause-result_value : goal.returns-in-Some-clause-result_value
returns-in-Some-clause-result_value c = (with_fault _ _ _ _ (bad_byte_lem _ _ _ _ c.scan_fault.result _ c.if-is_long.false c.scan_fault.ensures c.in-Some.is)).0

pub returns-in-Some-clause-rows_after : goal.returns-in-Some-clause-rows_after
returns-in-Some-clause-rows_after c = (with_fault _ _ _ _ (bad_byte_lem _ _ _ _ c.scan_fault.result _ c.if-is_long.false c.scan_fault.ensures c.in-Some.is)).1

pub returns-in-None-clause-result_value : goal.returns-in-None-clause-result_value
returns-in-None-clause-result_value c = rw (no_bad _ _ _ _ c.scan_fault.result c.if-is_long.false c.scan_fault.ensures c.in-None.is) c.read_tokens.ensures.result_value

pub returns-in-None-clause-rows_after : goal.returns-in-None-clause-rows_after
returns-in-None-clause-rows_after c = rw (no_bad _ _ _ _ c.scan_fault.result c.if-is_long.false c.scan_fault.ensures c.in-None.is) c.read_tokens.ensures.rows_after
