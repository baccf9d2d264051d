use mathlib.Core.Path.{refl, ◌∙◌}
use native.Mathlib.Omega.{arith}
use Rattle.definition_cells.proofs.PlaceLaws.{loop_start, loop_more, loop_end}
use Rattle.table_tags.proofs.Marking.{marked_none}
use Rattle.definition_faults.specs.RecordFaults.{tag_fault}
use Rattle.definition_faults.proofs.repeated_tag.Goals as goal

pub loop-i-init : goal.loop-i-init
loop-i-init c = record { so_far = loop_start (tag_fault c.args.noted.now.cells.now c.args.records.now) c.args.records.now.count; marked = marked_none _ _ _ refl }

pub loop-i-preserved : goal.loop-i-preserved
loop-i-preserved c = record {
  so_far = loop_more (tag_fault c.args.noted.now.cells.now c.args.records.now) c.args.records.now.count c.loop-i.i _ _ _ c.loop-i.invariant.so_far (omega arith) (c.at_if.ensures ∙ rw (c.tag_again_marked-again.ensures.value, c.cell-tag.ensures)) ∙ rw c.lesser-least.ensures;
  marked = c.tag_again_marked-again.ensures.marked_before_2;
}

pub returns : goal.returns
returns c = loop_end (tag_fault c.args.noted.now.cells.now c.args.records.now) c.args.records.now.count c.loop-i.i _ _ c.loop-i.least c.loop-i.invariant.so_far (omega arith)
