use mathlib.Core.Path.{refl, sym, ◌∙◌}
use native.Mathlib.Omega.{arith}
use lib.Dec.{ltb}
use borrow.Author.Tests.{ltb-true, tests}
use Rattle.std.proofs.Common.{rules}
use Rattle.std.proofs.lemmas.Iterator.{YieldsList-from_range}
use Rattle.std.proofs.lemmas.Iterator.Search.{all_from_yields_List}
use Rattle.table_records.specs.Shown.{held_record}
use Rattle.table_checks.proofs.Any.{all_range}
use Rattle.table_checks.proofs.Structs.{kept_finite}
use Rattle.table_checks.proofs.only_structs.Goals as goal

pub returns : goal.returns
returns c = λ w e.
    let each = all_from_yields_List (λ j. ltb (held_record c.args.records.now j).kind 9) _ _ c.all.result c.all.ensures.ran (YieldsList-from_range 0 c.args.records.now.count c.args.records.now.count refl (omega arith)) (λ x b q k. search (rules, tests)) in
    kept_finite _ _ _ w (λ k h. ltb-true _ _ (all_range (λ j. ltb (held_record c.args.records.now j).kind 9) c.args.records.now.count k (sym each ∙ e) h))
