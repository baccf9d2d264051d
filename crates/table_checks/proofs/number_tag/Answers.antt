use mathlib.Core.Path.{refl, sym, ◌∙◌}
use mathlib.Core.Bool.{Bool, ◌&&◌}
use native.Mathlib.Omega.{arith}
use borrow.Author.Tests.{eq-eqb, tests}
use Rattle.std.proofs.Common.{rules}
use Rattle.std.proofs.lemmas.Iterator.{YieldsList-from_range}
use Rattle.std.proofs.lemmas.Iterator.Search.{any_from_yields_List}
use Rattle.reading_rules.specs.Record.{Record}
use Rattle.definition_rules.specs.Faults.{number_tag, beside}
use Rattle.table_records.specs.Shown.{held_record}
use Rattle.table_checks.proofs.Any.{any_among, any_of_lem}
use Rattle.table_checks.proofs.number_tag.Goals as goal

pub returns : goal.returns
unfolding number_tag
returns c =
    let such : Record → Bool = λ q. beside (held_record c.args.records.now c.args.i) q && q.untagged in
    let found = any_from_yields_List (λ j. such (held_record c.args.records.now j)) _ _ c.any.result c.any.ensures.ran (YieldsList-from_range 0 c.args.records.now.count c.args.records.now.count refl (omega arith)) (λ x b q k. search (rules, tests)) in
    rw (eq-eqb _ 9 (rw c.parent_kind.ensures at c.if-parent_kind-ne-UNION.false), sym c.untagged_at.ensures ∙ c.if-untagged_at.false, rw c.label_at.ensures at (sym c.is_int_like.ensures) ∙ c.if-not-is_int_like.false) (found ∙ any_among such c.args.records.now.table.now c.args.records.now.unpacked.now c.args.records.now.count c.args.records.now.count _ (omega arith) ∙ any_of_lem such c.args.records.now.table.now c.args.records.now.unpacked.now _)
