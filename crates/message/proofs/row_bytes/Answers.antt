use mathlib.Core.Path.{◌∙◌, ap}
use Rattle.message_rules.specs.RowBytes.{further}
use Rattle.message.proofs.Passes.{bytes_lost, bytes_back, bytes_over, bytes_there}
use Rattle.message.proofs.row_bytes.Goals as goal

pub returns-then-rows-row-clause-result_value : goal.returns-then-rows-row-clause-result_value
returns-then-rows-row-clause-result_value c = let x = bytes_lost _ _ _ c.if-rows-row.true in c.empty_part.ensures.result_value ∙ x.0

pub returns-then-rows-row-clause-ref_ptr_value : goal.returns-then-rows-row-clause-ref_ptr_value
returns-then-rows-row-clause-ref_ptr_value c = let x = bytes_lost _ _ _ c.if-rows-row.true in c.empty_part.ensures.ref_ptr_value ∙ ap (further c.args.message.ref_ptr) x.1

pub returns-then-end-start-clause-result_value : goal.returns-then-end-start-clause-result_value
returns-then-end-start-clause-result_value c = let x = bytes_back _ _ _ c.if-rows-row.false c.if-end-start.true in c.empty_part-then-end-start.ensures.result_value ∙ x.0

pub returns-then-end-start-clause-ref_ptr_value : goal.returns-then-end-start-clause-ref_ptr_value
returns-then-end-start-clause-ref_ptr_value c = let x = bytes_back _ _ _ c.if-rows-row.false c.if-end-start.true in c.empty_part-then-end-start.ensures.ref_ptr_value ∙ ap (further c.args.message.ref_ptr) x.1

pub returns-then-message-end-clause-result_value : goal.returns-then-message-end-clause-result_value
returns-then-message-end-clause-result_value c = let x = bytes_over _ _ _ c.if-rows-row.false c.if-end-start.false c.if-message-end.true in c.empty_part-then-message-end.ensures.result_value ∙ x.0

pub returns-then-message-end-clause-ref_ptr_value : goal.returns-then-message-end-clause-ref_ptr_value
returns-then-message-end-clause-ref_ptr_value c = let x = bytes_over _ _ _ c.if-rows-row.false c.if-end-start.false c.if-message-end.true in c.empty_part-then-message-end.ensures.ref_ptr_value ∙ ap (further c.args.message.ref_ptr) x.1

pub returns-clause-result_value : goal.returns-clause-result_value
returns-clause-result_value c = let x = bytes_there _ _ _ c.if-rows-row.false c.if-end-start.false c.if-message-end.false in x.0

pub returns-clause-ref_ptr_value : goal.returns-clause-ref_ptr_value
returns-clause-ref_ptr_value c = let x = bytes_there _ _ _ c.if-rows-row.false c.if-end-start.false c.if-message-end.false in ap (further c.args.message.ref_ptr) x.1
