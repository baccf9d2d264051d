use Rattle.text.specs.Text.{hex_byte}
use Rattle.text.proofs.Writing.{none, more, all}
use Rattle.text.proofs.Page.hex.Goals as goal

pub loop-b-init : goal.loop-b-init
loop-b-init c = none hex_byte c.args.bytes.now c.args.self.now

pub loop-b-preserved : goal.loop-b-preserved
loop-b-preserved c = more hex_byte _ _ c.loop-b-test.true c.loop-b.invariant c.hex_byte.ensures

pub returns : goal.returns
returns c = all hex_byte _ _ c.loop-b-test.false c.loop-b.invariant
