use mathlib.Core.Path.{refl, ap, ◌∙◌}
use mathlib.Core.Bool.{Bool, not, ◌&&◌}
use Prim.Native.Nat.{ℕ, ◌+◌, ◌-◌}
use native.Mathlib.Omega.{arith}
use borrow.Author.Tests.{tests}
use Rattle.std.proofs.Common.{rules}
use Rattle.std.proofs.lemmas.Iterator.{YieldsList-from_range}
use Rattle.std.proofs.lemmas.Iterator.Search.{any_from_yields_List}
use Rattle.definition_rules.specs.Faults.{is_new_key}
use Rattle.table_rules.specs.RecordRules.{shows_name, shown_names}
use Rattle.table_records.specs.Stored.{records_from}
use Rattle.table_records.specs.Shown.{held_record}
use Rattle.table_fields.specs.Keys.{label_key}
use Rattle.table_fields.proofs.Loops.{all_range}
use Rattle.table_fields.proofs.all_new.Goals as goal

pub returns : goal.returns
returns c =
    let again : ℕ → Bool = λ i. shows_name (held_record c.args.records.now i) && not (is_new_key (label_key (held_record c.args.records.now i)) (shown_names (records_from c.args.records.now.table.now c.args.records.now.unpacked.now (c.args.records.now.count - (i + 1)) (i + 1)))) in
    let found = any_from_yields_List again _ _ c.any.result c.any.ensures.ran (YieldsList-from_range 0 c.args.records.now.count c.args.records.now.count refl (omega arith)) (λ x b q k. search (rules, tests)) in
    ap not found ∙ all_range c.args.records.now.table.now c.args.records.now.unpacked.now c.args.records.now.count c.args.records.now.count 0 (omega arith)
