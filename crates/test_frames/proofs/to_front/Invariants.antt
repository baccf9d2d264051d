use mathlib.Core.Path.{◌≡◌}
use lib.ListN.{take}
use lib.Seq.{sets}
use Rattle.classes.specs.Lists.{part}
use Rattle.test_frames.proofs.to_front.Given as goal

abbrev pub invariant-loop-i : goal.invariant-loop-i
invariant-loop-i l = l.d ≡ sets l.initial.d 0 (take l.i (part l.initial.d l.from l.to))
