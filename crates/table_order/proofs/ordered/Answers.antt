use mathlib.Core.Path.{refl, sym, ◌∙◌}
use native.Mathlib.Omega.{arith}
use Rattle.definition_rules.specs.Table.{number_up}
use Rattle.table_records.specs.Shown.{held_record}
use Rattle.table_checks.proofs.Parents.{parent_number_lem}
use Rattle.table_order.specs.Open.{frames_of}
use Rattle.table_order.proofs.Frames.{length_frames}
use Rattle.table_order.proofs.Order.{stands_room, order_start, order_end, order_stop, order_more}
use Rattle.table_order.proofs.ordered.Goals as goal

pub loop-i-init : goal.loop-i-init
unfolding frames_of
loop-i-init c = (order_start c.args.records.now.table.now c.args.records.now.unpacked.now c.args.records.now.count, omega arith, refl)

pub returns-then-not-stands_in : goal.returns-then-not-stands_in
returns-then-not-stands_in c = sym (c.loop-i.invariant.0 ∙ order_stop c.args.records.now.table.now c.args.records.now.unpacked.now c.args.records.now.count c.loop-i.i (frames_of c.loop-i.bodies c.loop-i.depth) (frames_of c.loop-i.bodies c.closed_to-depth.result) (number_up c.parent_at.result) (parent_number_lem c.args.records.now.table.now c.args.records.now.unpacked.now c.loop-i.i _ c.parent_at.ensures) c.closed_to-depth.ensures.0 c.loop-i-test.true (sym c.stands_in.ensures ∙ c.if-not-stands_in.true))

pub opened-depth-requires : goal.opened-depth-requires
opened-depth-requires c = (omega (arith, c.closed_to-depth.ensures.1, c.loop-i.invariant.1, c.loop-i.invariant.2), λ k. omega (arith, stands_room (frames_of c.loop-i.bodies c.closed_to-depth.result) (held_record c.args.records.now c.loop-i.i) (sym c.stands_in.ensures ∙ c.if-not-stands_in.false) k, length_frames c.loop-i.bodies c.closed_to-depth.result, c.loop-i.invariant.2))

pub loop-i-preserved : goal.loop-i-preserved
loop-i-preserved c = (c.loop-i.invariant.0 ∙ order_more c.args.records.now.table.now c.args.records.now.unpacked.now c.args.records.now.count c.loop-i.i (frames_of c.loop-i.bodies c.loop-i.depth) (frames_of c.loop-i.bodies c.closed_to-depth.result) (number_up c.parent_at.result) (parent_number_lem c.args.records.now.table.now c.args.records.now.unpacked.now c.loop-i.i _ c.parent_at.ensures) c.closed_to-depth.ensures.0 c.loop-i-test.true (frames_of c.opened-depth.new.bodies c.opened-depth.result) (sym c.stands_in.ensures ∙ c.if-not-stands_in.false) c.opened-depth.ensures.0, omega (arith, c.opened-depth.ensures.1, c.loop-i.invariant.2), omega (arith, c.opened-depth.auto.bodies, c.loop-i.invariant.2))

pub returns : goal.returns
returns c = sym (c.loop-i.invariant.0 ∙ order_end c.args.records.now.table.now c.args.records.now.unpacked.now c.args.records.now.count c.loop-i.i (frames_of c.loop-i.bodies c.loop-i.depth) c.loop-i-test.false)
