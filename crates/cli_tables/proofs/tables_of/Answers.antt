use mathlib.Core.Path.{◌≡◌, ap, sym, ◌∙◌}
use Rattle.std.specs.Prelude.{Err}
use Rattle.std.proofs.Common.{rules}
use Rattle.cli_tables.specs.Made.{bytes_in}
use Rattle.cli_tables.proofs.MadeLaws.{made_of_table, made_of_definition}
use Rattle.cli_tables.proofs.tables_of.Goals as goal

pub returns-then-is_table-clause-made : goal.returns-then-is_table-clause-made
returns-then-is_table-clause-made c = made_of_table c.args.source.now.bytes.now c.args.table.now _ (sym c.is_table.ensures ∙ c.if-is_table.true) c.copied.ensures

pub returns-in_err-table-clause-made : goal.returns-in_err-table-clause-made
returns-in_err-table-clause-made c =
    let q : c.from_residual.result ≡ Err c.in_err-table.field-0.0 = search rules in
    ap (λ r. bytes_in r (λ t. t.table.now)) q
    ∙ made_of_definition c.args.source.now.bytes.now c.args.table.now _ (sym c.is_table.ensures ∙ c.if-is_table.false) (sym (ap (λ r. bytes_in r (λ s. s.now)) c.in_err-table.was) ∙ c.compiled.ensures)

pub returns-clause-made : goal.returns-clause-made
returns-clause-made c =
    made_of_definition c.args.source.now.bytes.now c.args.table.now _ (sym c.is_table.ensures ∙ c.if-is_table.false) (sym (ap (λ r. bytes_in r (λ s. s.now)) c.in_ok-table.was) ∙ c.compiled.ensures)
