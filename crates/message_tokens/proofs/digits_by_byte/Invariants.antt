use Rattle.std.proofs.Common.{◌-◌, length}
use Rattle.message_tokens.proofs.Naturals.{Summed}
use Rattle.message_tokens.proofs.digits_by_byte.Given as goal

abbrev pub invariant-loop-i : goal.invariant-loop-i
invariant-loop-i l = Summed l.s l.at l.i l.sum

abbrev pub decreases-loop-i : goal.decreases-loop-i
decreases-loop-i l = length l.s - l.i
