use mathlib.Core.Path.{◌≡◌}
use mathlib.Core.Bool.{false}
use native.Mathlib.Omega.{arith}
use lib.ListN.{length, replicate}
use Rattle.std.proofs.Common.{rules}
use Rattle.table_records.specs.Shown.{held_records}
use Rattle.table_records.proofs.Laws.{length_records}
use Rattle.table_checks.specs.Sweeps.{NoneMarked}
use Rattle.table_checks.proofs.Bodies.{none_marked}
use Rattle.table_checks.proofs.Sweeping.{going_start, going_more, going_still, going_end}
use Rattle.table_checks.proofs.finites.Goals as goal

pub loop-init : goal.loop-init
loop-init c =
    let none : c.fill.new.self ≡ replicate (length c.args.have.now) false = search rules in
    let unmarked : NoneMarked c.fill.new.self = rw none (none_marked (length c.args.have.now)) in
    λ w. going_start (held_records c.args.records.now) _ (omega (arith, length_records c.args.records.now.table.now c.args.records.now.unpacked.now c.args.records.now.count 0, c.fill.ensures.len)) unmarked

pub loop-preserved : goal.loop-preserved
loop-preserved c = λ w. going_more (held_records c.args.records.now) c.loop.counter c.loop.have _ _ c.sweep-is_done.auto.have (c.sweep-is_done.ensures w) (c.loop.invariant w)

pub returns-then-is_done : goal.returns-then-is_done
returns-then-is_done c = λ w h l. going_still (held_records c.args.records.now) c.loop.counter c.loop.have _ _ c.sweep-is_done.auto.have (c.sweep-is_done.ensures w) (c.loop.invariant w) c.if-is_done.true

pub returns : goal.returns
returns c = λ w h l. going_end (held_records c.args.records.now) c.loop.counter c.loop.have (omega (arith, length_records c.args.records.now.table.now c.args.records.now.unpacked.now c.args.records.now.count 0, c.loop-test.false)) (c.loop.invariant w)
