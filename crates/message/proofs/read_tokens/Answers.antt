use mathlib.Core.Path.{◌∙◌}
use Rattle.std.proofs.lemmas.Result.{err_from_is_err_and}
use Rattle.message.proofs.Passes.{with_little, with_room_lem, with_fault}
use Rattle.message.proofs.read_tokens.Goals as goal

pub returns-then-rows-m-clause-result_value : goal.returns-then-rows-m-clause-result_value
returns-then-rows-m-clause-result_value c = (with_little _ c.args.rows.now _ c.in_ok-m.ensures.rows_counted (rw c.in_ok-m.ensures.rows_unchanged at c.if-rows-m.true)).0

pub returns-then-rows-m-clause-rows_after : goal.returns-then-rows-m-clause-rows_after
returns-then-rows-m-clause-rows_after c = c.in_ok-m.ensures.rows_unchanged ∙ (with_little _ c.args.rows.now _ c.in_ok-m.ensures.rows_counted (rw c.in_ok-m.ensures.rows_unchanged at c.if-rows-m.true)).1

pub returns-clause-result_value : goal.returns-clause-result_value
returns-clause-result_value c = (with_room_lem _ c.args.rows.now _ c.in_ok-m.ensures.rows_counted _ (rw c.in_ok-m.ensures.rows_unchanged at c.if-rows-m.false) (rw c.in_ok-m.ensures.rows_unchanged at c.fill.ensures)).0

pub returns-clause-rows_after : goal.returns-clause-rows_after
returns-clause-rows_after c = (with_room_lem _ c.args.rows.now _ c.in_ok-m.ensures.rows_counted _ (rw c.in_ok-m.ensures.rows_unchanged at c.if-rows-m.false) (rw c.in_ok-m.ensures.rows_unchanged at c.fill.ensures)).1

pub returns-in_err-m-clause-result_value : goal.returns-in_err-m-clause-result_value
returns-in_err-m-clause-result_value c =
    let p = err_from_is_err_and c.from_residual.result c.from_residual.ensures.1 in
    rw (p.1, p.2) (with_fault _ c.args.rows.now _ _ c.in_err-m.ensures.rows_counted).0

pub returns-in_err-m-clause-rows_after : goal.returns-in_err-m-clause-rows_after
returns-in_err-m-clause-rows_after c = c.in_err-m.ensures.rows_unchanged ∙ (with_fault _ c.args.rows.now _ _ c.in_err-m.ensures.rows_counted).1
