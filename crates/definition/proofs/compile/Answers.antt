use mathlib.Core.Path.{refl, sym, ◌∙◌}
use Rattle.std.proofs.Common.{rules, ◌≡◌, Err}
use Rattle.numbers.specs.Limits.{text_limit}
use Rattle.numbers.specs.declared.Rule.TheVariants.{DefinitionLength}
use Rattle.definition_cells.proofs.PlaceLaws.{least_none}
use Rattle.definition_forms.specs.Formed.{RefusedAs, CompleteIn}
use Rattle.definition.proofs.Text.{one, two, past_two, formed, further, parents, keeps, keeps_refused}
use Rattle.definition.proofs.compile.Goals as goal

pub returns-then-is_long : goal.returns-then-is_long
returns-then-is_long c =
    let k = keeps_refused c.args.text.now c.args.table.now _ (record { rule = DefinitionLength; place = text_limit }) refl (one c.args.text.now c.if-is_long.true) in
    record { result_value = k.0; table_after = k.1.0; stuck_promise = k.1.1.0; endless_promise = k.1.1.1 }

pub returns-in_err-refuse : goal.returns-in_err-refuse
returns-in_err-refuse c =
    let q : c.from_residual.result ≡ Err c.in_err-refuse.field-0.0 = search rules in
    let k = keeps_refused c.args.text.now c.args.table.now _ _ q (two c.args.text.now c.if-is_long.false _ c.scan_fault.ensures _ (sym c.refuse.ensures ∙ c.in_err-refuse.was)) in
    record { result_value = k.0; table_after = k.1.0; stuck_promise = k.1.1.0; endless_promise = k.1.1.1 }

pub returns-in-Err : goal.returns-in-Err
returns-in-Err c =
    let b = (past_two c.args.text.now c.if-is_long.false _ c.scan_fault.ensures _ (sym c.refuse.ensures ∙ c.in_ok-refuse.was)) in
    let f : RefusedAs c.args.text.now c.in-Err.refusal = rw c.in-Err.is at (c.forms.ensures (least_none _ b)) in
    let k = keeps_refused c.args.text.now c.args.table.now _ _ refl (formed c.args.text.now c.if-is_long.false b _ f) in
    record { result_value = k.0; table_after = k.1.0; stuck_promise = k.1.1.0; endless_promise = k.1.1.1 }

pub compile_declarations-requires : goal.compile_declarations-requires
compile_declarations-requires c =
    let b = (past_two c.args.text.now c.if-is_long.false _ c.scan_fault.ensures _ (sym c.refuse.ensures ∙ c.in_ok-refuse.was)) in
    let f : CompleteIn c.args.text.now c.forms.new.cells c.in-Ok.count = rw c.in-Ok.is at (c.forms.ensures (least_none _ b)) in
    record { n_le_parameter_limit = (f.few, c.if-is_long.false); by_index = parents c.args.text.now c.if-is_long.false b _ _ f }

pub returns-in-Ok : goal.returns-in-Ok
returns-in-Ok c =
    let b = (past_two c.args.text.now c.if-is_long.false _ c.scan_fault.ensures _ (sym c.refuse.ensures ∙ c.in_ok-refuse.was)) in
    let f : CompleteIn c.args.text.now c.forms.new.cells c.in-Ok.count = rw c.in-Ok.is at (c.forms.ensures (least_none _ b)) in
    let k = keeps c.args.text.now c.args.table.now _ _ _ (further c.args.text.now c.if-is_long.false b _ _ f) (c.compile_declarations.ensures.result_value, c.compile_declarations.ensures.table_after) in
    record { result_value = k.0; table_after = k.1.0; stuck_promise = k.1.1.0; endless_promise = k.1.1.1 }
