use mathlib.Core.Path.{refl}
use mathlib.Core.Bool.{Bool}
use Prim.Native.Nat.{ℕ}
use native.Mathlib.Omega.{arith}
use borrow.Author.Tests.{tests}
use Rattle.std.proofs.Common.{rules}
use Rattle.std.proofs.lemmas.Iterator.{YieldsList-from_range}
use Rattle.std.proofs.lemmas.Iterator.Search.{any_from_yields_List}
use Rattle.reading_rules.specs.Record.{Record}
use Rattle.definition_rules.specs.Faults.{tag_repeated}
use Rattle.table_records.specs.Shown.{held_record, held_records}
use Rattle.table.proofs.Laws.{none_by}
use Rattle.table.proofs.tags_once_by_search.Goals as goal

pub returns : goal.returns
returns c =
    let wrong : ℕ → Record → Bool = tag_repeated (held_records c.args.records.now) in
    let found = any_from_yields_List (λ j. wrong j (held_record c.args.records.now j)) _ _ c.any.result c.any.ensures.ran (YieldsList-from_range 0 c.args.records.now.count c.args.records.now.count refl (omega arith)) (λ x b q k. search (rules, tests)) in
    none_by wrong c.args.records.now.table.now c.args.records.now.unpacked.now c.args.records.now.count _ found
