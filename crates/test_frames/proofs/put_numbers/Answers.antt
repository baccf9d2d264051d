use Rattle.text.specs.Text.{spaced}
use Rattle.text.proofs.Writing.{none, more, all}
use Rattle.test_frames.proofs.put_numbers.Goals as goal

pub loop-n-init : goal.loop-n-init
loop-n-init c = none spaced c.args.numbers.now c.args.page.now

pub loop-n-preserved : goal.loop-n-preserved
loop-n-preserved c = more spaced _ _ c.loop-n-test.true c.loop-n.invariant c.number.ensures

pub returns : goal.returns
returns c = all spaced _ _ c.loop-n-test.false c.loop-n.invariant
