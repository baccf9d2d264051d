use mathlib.Core.Path.{sym, ◌∙◌}
use Rattle.table_records.specs.Shown.{held_record}
use Rattle.table_checks.proofs.Parents.{parent_number_lem}
use Rattle.table_order.specs.Open.{frames_of}
use Rattle.table_order.proofs.Frames.{length_frames}
use Rattle.table_order.proofs.Order.{stands_not, stands_late, stands_so}
use Rattle.table_order.proofs.stands_in.Goals as goal

pub returns-then-not-is_parent : goal.returns-then-not-is_parent
returns-then-not-is_parent c = sym (stands_not (frames_of c.args.bodies.now c.args.depth) (held_record c.args.records.now c.args.i) _ (parent_number_lem c.args.records.now.table.now c.args.records.now.unpacked.now c.args.i _ c.parent_at.ensures) (sym c.is_parent.ensures ∙ c.if-not-is_parent.true))

pub returns-then-not-may_stand : goal.returns-then-not-may_stand
returns-then-not-may_stand c = sym (stands_late (frames_of c.args.bodies.now c.args.depth) (held_record c.args.records.now c.args.i) _ _ (parent_number_lem c.args.records.now.table.now c.args.records.now.unpacked.now c.args.i _ c.parent_at.ensures) (sym c.is_parent.ensures ∙ c.if-not-is_parent.false) c.extension_at.ensures (sym c.may_stand.ensures ∙ c.if-not-may_stand.true))

pub returns : goal.returns
returns c = rw (c.is_compound.ensures, c.kind_at.ensures) (sym (stands_so (frames_of c.args.bodies.now c.args.depth) (held_record c.args.records.now c.args.i) _ _ _ (length_frames c.args.bodies.now c.args.depth) (parent_number_lem c.args.records.now.table.now c.args.records.now.unpacked.now c.args.i _ c.parent_at.ensures) (sym c.is_parent.ensures ∙ c.if-not-is_parent.false) c.extension_at.ensures (sym c.may_stand.ensures ∙ c.if-not-may_stand.false)))
