use native.Mathlib.Omega.{arith}
use mathlib.Core.Path.{ap}
use lib.ListN.{length}
use Rattle.test_frames.proofs.Moves.{moved_more}
use Rattle.test_frames.proofs.to_front.Goals as goal

pub loop-i-preserved : goal.loop-i-preserved
loop-i-preserved c = rw c.loop-i.invariant (moved_more c.args.d.now c.args.from c.args.to c.loop-i.i (omega (arith, ap length c.part-n.ensures)))
