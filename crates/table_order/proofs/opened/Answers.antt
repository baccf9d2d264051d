use mathlib.Core.Path.{ap, sym, ◌∙◌}
use native.Mathlib.Omega.{arith}
use Rattle.definition_rules.specs.Words.{kind_is_compound}
use Rattle.table_rules.specs.RecordRules.{in_extension}
use Rattle.table_records.specs.Shown.{held_record}
use Rattle.table_order.specs.Open.{frames_of}
use Rattle.table_order.proofs.Frames.{opened_yes, opened_no}
use Rattle.table_order.proofs.opened.Goals as goal

pub returns-then-is_compound : goal.returns-then-is_compound
returns-then-is_compound c = (rw c.set.ensures (opened_yes c.note_extension.new.bodies c.args.depth c.args.i (in_extension (held_record c.args.records.now c.args.i).extension (frames_of c.args.bodies.now c.args.depth)) (kind_is_compound (held_record c.args.records.now c.args.i).kind) (rw c.extension_at.ensures at c.note_extension.ensures) (omega (arith, c.note_extension.auto.bodies, c.requires.1 (ap kind_is_compound (sym c.kind_at.ensures) ∙ (sym c.is_compound.ensures ∙ c.if-is_compound.true)))) (ap kind_is_compound (sym c.kind_at.ensures) ∙ (sym c.is_compound.ensures ∙ c.if-is_compound.true))), omega (arith, c.requires.1 (ap kind_is_compound (sym c.kind_at.ensures) ∙ (sym c.is_compound.ensures ∙ c.if-is_compound.true))))

pub returns : goal.returns
returns c = (opened_no c.note_extension.new.bodies c.args.depth c.args.i (in_extension (held_record c.args.records.now c.args.i).extension (frames_of c.args.bodies.now c.args.depth)) (kind_is_compound (held_record c.args.records.now c.args.i).kind) (rw c.extension_at.ensures at c.note_extension.ensures) (ap kind_is_compound (sym c.kind_at.ensures) ∙ (sym c.is_compound.ensures ∙ c.if-is_compound.false)), c.requires.0)
