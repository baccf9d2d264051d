use lib.Seq.{take_all}
use Rattle.text.proofs.Writing.{nothing, more_text}
use Rattle.text.proofs.Page.text.Goals as goal

pub loop-b-init : goal.loop-b-init
loop-b-init c = nothing c.args.self.now

pub loop-b-preserved : goal.loop-b-preserved
loop-b-preserved c = more_text _ _ c.loop-b-test.true c.loop-b.invariant c.byte.ensures

pub returns : goal.returns
returns c = rw (take_all c.loop-b.b-index c.args.text.now c.loop-b-test.false) at c.loop-b.invariant
