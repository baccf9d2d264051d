use mathlib.Core.Path.{refl, sym, ◌∙◌}
use mathlib.Core.Bool.{Bool}
use native.Mathlib.Omega.{arith}
use borrow.Author.Tests.{eq-eqb, tests}
use Rattle.std.proofs.Common.{rules}
use Rattle.std.proofs.lemmas.Iterator.{YieldsList-from_range}
use Rattle.std.proofs.lemmas.Iterator.Search.{any_from_yields_List}
use Rattle.reading_rules.specs.Record.{Record}
use Rattle.definition_rules.specs.Faults.{misplaced_alternative, beside}
use Rattle.table_records.specs.Shown.{held_record}
use Rattle.table_checks.proofs.Any.{any_among}
use Rattle.table_checks.proofs.misplaced_alternative.Goals as goal

pub returns : goal.returns
unfolding misplaced_alternative
returns c =
    let such : Record → Bool = λ q. beside (held_record c.args.records.now c.args.i) q in
    let found = any_from_yields_List (λ j. such (held_record c.args.records.now j)) _ _ c.any.result c.any.ensures.ran (YieldsList-from_range 0 c.min.result c.min.result refl (omega arith)) (λ x b q k. search (rules, tests)) in
    rw (sym c.extension_at.ensures ∙ c.if-extension_at.false, eq-eqb _ 3 (rw c.kind_at.ensures at c.if-kind_at-ne-INT.false)) (found ∙ any_among such c.args.records.now.table.now c.args.records.now.unpacked.now c.args.i c.args.records.now.count _ c.min.ensures)
