use mathlib.Core.Path.{sym, ◌∙◌}
use Rattle.definition_rules.specs.Faults.{tag_repeated}
use Rattle.table_records.specs.Shown.{held_records}
use Rattle.table.proofs.Laws.{none_end, none_no, none_more}
use Rattle.table.proofs.tags_once_by_marks.Goals as goal

pub returns-then-tag_again_marked : goal.returns-then-tag_again_marked
returns-then-tag_again_marked c = sym (c.loop-i.invariant.0 ∙ none_no (tag_repeated (held_records c.args.records.now)) c.args.records.now.table.now c.args.records.now.unpacked.now c.args.records.now.count _ c.loop-i-test.true (sym c.tag_again_marked.ensures.value ∙ c.if-tag_again_marked.true))

pub loop-i-preserved : goal.loop-i-preserved
loop-i-preserved c = (c.loop-i.invariant.0 ∙ none_more (tag_repeated (held_records c.args.records.now)) c.args.records.now.table.now c.args.records.now.unpacked.now c.args.records.now.count _ c.loop-i-test.true (sym c.tag_again_marked.ensures.value ∙ c.if-tag_again_marked.false), c.tag_again_marked.ensures.marked_before_2)

pub returns : goal.returns
returns c = sym (c.loop-i.invariant.0 ∙ none_end (tag_repeated (held_records c.args.records.now)) c.args.records.now.table.now c.args.records.now.unpacked.now c.args.records.now.count _ c.loop-i-test.false)
