use lib.ListN.{take}
use Rattle.text.specs.Text.{Added, each, spaced}
use Rattle.test_frames.proofs.put_numbers.Given as goal

abbrev pub invariant-loop-n : goal.invariant-loop-n
invariant-loop-n l = Added (each spaced (take l.n-index l.numbers)) l.initial.page l.page
