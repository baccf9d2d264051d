use mathlib.Core.Path.{sym, ◌∙◌}
use Rattle.table_tags.proofs.Again.{untagged_once, top_once, again, some_found}
use Rattle.table_tags.proofs.tag_again.Goals as goal

pub returns-then-untagged_at : goal.returns-then-untagged_at
returns-then-untagged_at c = untagged_once c.args.records.now.table.now c.args.records.now.unpacked.now c.args.records.now.count c.args.i (sym c.untagged_at.ensures ∙ c.if-untagged_at.true)

pub returns-then-p-eq-NONE16 : goal.returns-then-p-eq-NONE16
returns-then-p-eq-NONE16 c = top_once c.args.records.now.table.now c.args.records.now.unpacked.now c.args.records.now.count c.args.i _ c.parent_at-p.ensures c.if-p-eq-NONE16.true

pub returns : goal.returns
returns c = c.is_some.ensures ∙ some_found c.search.result ∙ again c.args.records.now.table.now c.args.records.now.unpacked.now c.args.records.now.count c.args.i c.parent_at-p.result c.parent_at-p.ensures c.if-p-eq-NONE16.false (sym c.untagged_at.ensures ∙ c.if-untagged_at.false) c.requires.0 _ _ c.label_at.ensures c.search.ensures
