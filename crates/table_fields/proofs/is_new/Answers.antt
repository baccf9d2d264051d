use mathlib.Core.Path.{refl, ap, ◌∙◌}
use mathlib.Core.Bool.{Bool, not, ◌&&◌}
use Prim.Native.Nat.{ℕ, ◌-◌}
use borrow.Author.Tests.{tests}
use Rattle.std.proofs.Common.{rules}
use Rattle.std.proofs.lemmas.Iterator.{YieldsList-from_range}
use Rattle.std.proofs.lemmas.Iterator.Search.{any_from_yields_List}
use Rattle.definition_rules.specs.Faults.{same_key}
use Rattle.table_rules.specs.RecordRules.{shows_name}
use Rattle.table_records.specs.Shown.{held_record}
use Rattle.table_fields.specs.Keys.{label_key}
use Rattle.table_fields.proofs.Loops.{new_range}
use Rattle.table_fields.proofs.is_new.Goals as goal

pub returns : goal.returns
returns c =
    let such : ℕ → Bool = λ j. shows_name (held_record c.args.records.now j) && same_key (label_key (held_record c.args.records.now c.args.i)) (label_key (held_record c.args.records.now j)) in
    let found = any_from_yields_List such _ _ c.any.result c.any.ensures.ran (YieldsList-from_range c.args.from c.args.records.now.count (c.args.records.now.count - c.args.from) refl refl) (λ x b q k. search (rules, tests)) in
    ap not found ∙ new_range c.args.records.now.table.now c.args.records.now.unpacked.now (label_key (held_record c.args.records.now c.args.i)) (c.args.records.now.count - c.args.from) c.args.from
