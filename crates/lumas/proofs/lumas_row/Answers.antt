use mathlib.Core.Path.{refl}
use native.Mathlib.Omega.{arith}
use Rattle.lumas.proofs.Spans.{part_some, there}
use Rattle.lumas.proofs.lumas_row.Goals as goal

pub overflow_mul-start : goal.overflow_mul-start
overflow_mul-start c = omega (arith, (there c.args.message.now c.args.rows.now c.args.row _ c.row_bytes-count.ensures.result_value c.if-count-eq0.false).whole)

pub overflow_add-start : goal.overflow_add-start
overflow_add-start c = omega (arith, (there c.args.message.now c.args.rows.now c.args.row _ c.row_bytes-count.ensures.result_value c.if-count-eq0.false).whole)

pub offset_bounds-rows-row : goal.offset_bounds-rows-row
offset_bounds-rows-row c = omega (arith, (there c.args.message.now c.args.rows.now c.args.row _ c.row_bytes-count.ensures.result_value c.if-count-eq0.false).whole)

pub bounds-rows-row : goal.bounds-rows-row
bounds-rows-row c = omega (arith, (there c.args.message.now c.args.rows.now c.args.row _ c.row_bytes-count.ensures.result_value c.if-count-eq0.false).whole)

pub returns : goal.returns
returns c = part_some _ _ _ _ c.row_bytes-count.ensures.result_value c.if-count-eq0.false _ refl
