use mathlib.Core.Path.{refl, ◌∙◌}
use mathlib.Core.Bool.{Bool}
use Prim.Native.Nat.{◌-◌}
use native.Mathlib.Omega.{arith}
use borrow.Author.Tests.{tests}
use Rattle.std.proofs.Common.{rules}
use Rattle.std.proofs.lemmas.Iterator.{YieldsList-from_range}
use Rattle.std.proofs.lemmas.Iterator.Search.{all_from_yields_List}
use Rattle.reading_rules.specs.Record.{Record}
use Rattle.definition_rules.specs.Faults.{is_union_at}
use Rattle.table_rules.specs.RecordRules.{kinds_of_records, record_fine}
use Rattle.table_records.specs.Shown.{held_record, held_records}
use Rattle.table_fields.proofs.Loops.{every_range}
use Rattle.table_fields.proofs.every_fine.Goals as goal

pub returns : goal.returns
returns c =
    let fine : Record → Bool = record_fine (held_records c.args.records.now) (is_union_at (kinds_of_records (held_records c.args.records.now))) in
    let found = all_from_yields_List (λ j. fine (held_record c.args.records.now j)) _ _ c.all.result c.all.ensures.ran (YieldsList-from_range 0 c.args.records.now.count c.args.records.now.count refl (omega arith)) (λ x b q k. search (rules, tests)) in
    found ∙ every_range fine c.args.records.now.table.now c.args.records.now.unpacked.now c.args.records.now.count 0
