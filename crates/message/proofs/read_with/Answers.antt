use mathlib.Core.Path.{sym}
use Rattle.table.proofs.Laws.{checked_fine, checked_bad}
use Rattle.message.proofs.Top.{bad_table, good_table}
use Rattle.message.proofs.read_with.Goals as goal

pub read_records-requires : goal.read_records-requires
read_records-requires c = ((checked_fine c.args.table.now _ c.checked.result _ c.checked.ensures c.in-Some.is).counted.few, (checked_fine c.args.table.now _ c.checked.result _ c.checked.ensures c.in-Some.is).searchable)

pub returns-clause-result_value : goal.returns-clause-result_value
returns-clause-result_value c = (good_table c.args.table.now c.args.message.now c.args.rows.now _ _ _ _ (sym (checked_fine c.args.table.now _ c.checked.result _ c.checked.ensures c.in-Some.is).kept) (checked_fine c.args.table.now _ c.checked.result _ c.checked.ensures c.in-Some.is).counted c.read_records.ensures.result_value c.read_records.ensures.rows_after).0

pub returns-clause-rows_after : goal.returns-clause-rows_after
returns-clause-rows_after c = (good_table c.args.table.now c.args.message.now c.args.rows.now _ _ _ _ (sym (checked_fine c.args.table.now _ c.checked.result _ c.checked.ensures c.in-Some.is).kept) (checked_fine c.args.table.now _ c.checked.result _ c.checked.ensures c.in-Some.is).counted c.read_records.ensures.result_value c.read_records.ensures.rows_after).1

pub returns-in_default-clause-result_value : goal.returns-in_default-clause-result_value
returns-in_default-clause-result_value c = (bad_table c.args.table.now c.args.message.now c.args.rows.now (sym (checked_bad c.args.table.now _ c.checked.result c.checked.ensures c.in_default.is))).0

pub returns-in_default-clause-rows_after : goal.returns-in_default-clause-rows_after
returns-in_default-clause-rows_after c = (bad_table c.args.table.now c.args.message.now c.args.rows.now (sym (checked_bad c.args.table.now _ c.checked.result c.checked.ensures c.in_default.is))).1
