use Rattle.std.proofs.Common.{◌-◌, length}
use Rattle.message_tokens.specs.Turn.{PlainEnd}
use Rattle.message_tokens.proofs.plain_end.Given as goal

abbrev pub invariant-loop-i : goal.invariant-loop-i
invariant-loop-i l = PlainEnd l.s l.at l.i

abbrev pub decreases-loop-i : goal.decreases-loop-i
decreases-loop-i l = length l.s - l.i
