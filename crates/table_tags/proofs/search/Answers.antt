use mathlib.Core.Path.{sym, ap, ◌∙◌}
use Prim.Native.Nat.{◌-◌}
use native.Mathlib.Omega.{arith}
use Rattle.reading_rules.specs.Schema.{is_tagged_as}
use Rattle.numbers.specs.LittleEndian.{le16}
use Rattle.table_tags.proofs.Searching.{search_hit, search_on, search_end, label_there}
use Rattle.table_tags.proofs.search.Goals as goal

pub is_tagged_as-requires : goal.is_tagged_as-requires
is_tagged_as-requires c = label_there _ _ _ _ _ (c.loop-i.invariant.1 c.loop-i-test.true) (c.length_at-size.ensures ∙ (ap (le16 c.args.records.now.table.now) (c.loop-i.invariant.1 c.loop-i-test.true) ∙ c.requires.headed _ c.loop-i-test.true))

pub returns-then-is_tagged_as : goal.returns-then-is_tagged_as
returns-then-is_tagged_as c = sym (c.loop-i.invariant.0 ∙ search_hit c.args.records.now.table.now c.args.records.now.unpacked.now (is_tagged_as c.args.p c.args.word.now) c.args.end c.loop-i.i c.loop-i-test.true (sym c.is_tagged_as.ensures ∙ c.if-is_tagged_as.true))

pub loop-i-preserved : goal.loop-i-preserved
loop-i-preserved c = (c.loop-i.invariant.0 ∙ search_on c.args.records.now.table.now c.args.records.now.unpacked.now (is_tagged_as c.args.p c.args.word.now) c.args.end c.loop-i.i c.loop-i-test.true (sym c.is_tagged_as.ensures ∙ c.if-is_tagged_as.false), λ h. omega (arith, (c.loop-i.invariant.1 c.loop-i-test.true), (c.length_at-size.ensures ∙ (ap (le16 c.args.records.now.table.now) (c.loop-i.invariant.1 c.loop-i-test.true) ∙ c.requires.headed _ c.loop-i-test.true)), c.requires.next _ h))

pub returns : goal.returns
returns c = sym (c.loop-i.invariant.0 ∙ search_end c.args.records.now.table.now c.args.records.now.unpacked.now (is_tagged_as c.args.p c.args.word.now) c.args.end c.loop-i.i c.loop-i-test.false)
