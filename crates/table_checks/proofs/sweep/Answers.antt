use native.Mathlib.Omega.{arith}
use Rattle.table_checks.proofs.Sweeping.{part_start, part_more, part_end}
use Rattle.table_checks.proofs.sweep.Goals as goal

pub loop-i-init : goal.loop-i-init
loop-i-init c = λ w. part_start c.args.records.now.table.now c.args.records.now.unpacked.now c.args.records.now.count w c.args.have.now _ (c.begin.ensures c.args.have.now)

pub loop-i-preserved : goal.loop-i-preserved
loop-i-preserved c = λ w. part_more c.args.records.now.table.now c.args.records.now.unpacked.now c.args.records.now.count w c.args.have.now c.loop-i.i c.loop-i.have c.loop-i.rest _ _ c.loop-i.more _ c.loop-i-test.true (omega arith) (omega arith) c.add_if-more.ensures.value c.add_if-more.ensures.have_after c.join.ensures (c.loop-i.invariant w)

pub returns : goal.returns
returns c = λ w. part_end c.args.records.now.table.now c.args.records.now.unpacked.now c.args.records.now.count w c.args.have.now c.loop-i.i c.loop-i.have c.loop-i.rest c.loop-i.more c.loop-i-test.false (c.loop-i.invariant w)
