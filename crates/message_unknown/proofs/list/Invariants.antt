use Prim.Native.Nat.{◌-◌}
use lib.ListN.{length}
use Rattle.message_unknown.proofs.Steps.{UnknownListed}
use Rattle.message_unknown.proofs.list.Given as goal

abbrev pub invariant-loop-past : goal.invariant-loop-past
invariant-loop-past l = UnknownListed l.base l.s l.initial.u.at l.u.at

abbrev pub decreases-loop-past : goal.decreases-loop-past
decreases-loop-past l = length l.s - l.u.at
