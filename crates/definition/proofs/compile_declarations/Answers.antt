use mathlib.Core.Path.{sym, ap, ◌∙◌}
use Rattle.std.proofs.Common.{rules, ◌≡◌, Err}
use Rattle.definition_rules.specs.Table.{decode}
use Rattle.definition_writer.proofs.Parents.{records_after_parents}
use Rattle.definition.specs.Answers.{stop_finding}
use Rattle.definition.proofs.Order.{refused_five, passed_five, refused_six, passed_six, later_fault, later_clean, wrote, front, refuses_as, lacks_room, fills}
use Rattle.definition.proofs.compile_declarations.Goals as goal

pub returns-in_err-refuse : goal.returns-in_err-refuse
returns-in_err-refuse c =
    let q : c.from_residual.result ≡ Err c.in_err-refuse.field-0.0 = search rules in
    let k = refuses_as _ c.args.table.now _ _ q (refused_five c.args.noted.now.text.now c.args.noted.now.cells.now c.args.noted.now.count _ c.broken_form.ensures _ (sym c.refuse.ensures ∙ c.in_err-refuse.was)) in
    record { result_value = k.0; table_after = k.1 }

pub returns-in_err-refuse-2 : goal.returns-in_err-refuse-2
returns-in_err-refuse-2 c =
    let a = passed_five c.args.noted.now.text.now c.args.noted.now.cells.now c.args.noted.now.count _ c.broken_form.ensures _ (sym c.refuse.ensures ∙ c.in_ok-refuse.was) in
    let q : c.from_residual-in_err-refuse-2.result ≡ Err c.in_err-refuse-2.field-0.0 = search rules in
    let k = refuses_as _ c.args.table.now _ _ q (refused_six c.args.noted.now.text.now c.args.noted.now.cells.now c.args.noted.now.count a _ c.broken_range.ensures _ (sym c.refuse-2.ensures ∙ c.in_err-refuse-2.was)) in
    record { result_value = k.0; table_after = k.1 }

pub returns-in_err-written_fault : goal.returns-in_err-written_fault
returns-in_err-written_fault c =
    let a = passed_five c.args.noted.now.text.now c.args.noted.now.cells.now c.args.noted.now.count _ c.broken_form.ensures _ (sym c.refuse.ensures ∙ c.in_ok-refuse.was) in
    let b = passed_six c.args.noted.now.text.now c.args.noted.now.cells.now c.args.noted.now.count a _ c.broken_range.ensures _ (sym c.refuse-2.ensures ∙ c.in_ok-refuse-2.was) in
    let w = wrote c.args.noted.now.text.now c.args.noted.now.cells.now c.args.noted.now.count _ _ _ c.requires.n_le_parameter_limit.0 c.requires.by_index a (search rules) c.write_records-len.ensures in
    let f = c.written_fault.ensures _ (ap decode (front _ c.write_records-len.new.table c.write_records-len.result c.part.ensures) ∙ w.back) w.count (records_after_parents c.args.noted.now.cells.now c.args.noted.now.count c.requires.by_index c.args.noted.now.text.now) in
    let q : c.from_residual-in_err-written_fault.result ≡ Err c.in_err-written_fault.field-0.0 = search rules in
    let k = refuses_as _ c.args.table.now _ _ q (later_fault c.args.noted.now.text.now c.args.noted.now.cells.now c.args.noted.now.count a b _ _ (ap stop_finding (sym c.in_err-written_fault.was) ∙ f)) in
    record { result_value = k.0; table_after = k.1 }

pub returns-then-lacks_room : goal.returns-then-lacks_room
returns-then-lacks_room c =
    let a = passed_five c.args.noted.now.text.now c.args.noted.now.cells.now c.args.noted.now.count _ c.broken_form.ensures _ (sym c.refuse.ensures ∙ c.in_ok-refuse.was) in
    let b = passed_six c.args.noted.now.text.now c.args.noted.now.cells.now c.args.noted.now.count a _ c.broken_range.ensures _ (sym c.refuse-2.ensures ∙ c.in_ok-refuse-2.was) in
    let w = wrote c.args.noted.now.text.now c.args.noted.now.cells.now c.args.noted.now.count _ _ _ c.requires.n_le_parameter_limit.0 c.requires.by_index a (search rules) c.write_records-len.ensures in
    let f = c.written_fault.ensures _ (ap decode (front _ c.write_records-len.new.table c.write_records-len.result c.part.ensures) ∙ w.back) w.count (records_after_parents c.args.noted.now.cells.now c.args.noted.now.count c.requires.by_index c.args.noted.now.text.now) in
    let k = lacks_room _ c.args.table.now _ _ (later_clean c.args.noted.now.text.now c.args.noted.now.cells.now c.args.noted.now.count a b (ap stop_finding (sym c.in_ok-written_fault.was) ∙ f)) w.size c.if-lacks_room.true in
    record { result_value = k.0; table_after = k.1 }

pub returns : goal.returns
returns c =
    let a = passed_five c.args.noted.now.text.now c.args.noted.now.cells.now c.args.noted.now.count _ c.broken_form.ensures _ (sym c.refuse.ensures ∙ c.in_ok-refuse.was) in
    let b = passed_six c.args.noted.now.text.now c.args.noted.now.cells.now c.args.noted.now.count a _ c.broken_range.ensures _ (sym c.refuse-2.ensures ∙ c.in_ok-refuse-2.was) in
    let w = wrote c.args.noted.now.text.now c.args.noted.now.cells.now c.args.noted.now.count _ _ _ c.requires.n_le_parameter_limit.0 c.requires.by_index a (search rules) c.write_records-len.ensures in
    let f = c.written_fault.ensures _ (ap decode (front _ c.write_records-len.new.table c.write_records-len.result c.part.ensures) ∙ w.back) w.count (records_after_parents c.args.noted.now.cells.now c.args.noted.now.count c.requires.by_index c.args.noted.now.text.now) in
    let k = fills _ c.args.table.now _ _ _ _ _ (later_clean c.args.noted.now.text.now c.args.noted.now.cells.now c.args.noted.now.count a b (ap stop_finding (sym c.in_ok-written_fault.was) ∙ f)) w.size c.if-lacks_room.false w.bytes c.copy_out.ensures in
    record { result_value = k.0; table_after = k.1 }
