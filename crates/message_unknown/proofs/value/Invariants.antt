use Prim.Native.Nat.{◌-◌}
use lib.ListN.{length}
use Rattle.message_unknown.specs.Passing.{unknown_from}
use Rattle.message_unknown.proofs.Steps.{Went}
use Rattle.message_unknown.proofs.value.Given as goal

abbrev pub invariant-loop-next : goal.invariant-loop-next
invariant-loop-next l = Went (unknown_from l.base l.s l.initial.u.at) (unknown_from l.base l.s l.u.at) l.base l.s l.initial.u.at l.u.at

abbrev pub decreases-loop-next : goal.decreases-loop-next
decreases-loop-next l = length l.s - l.u.at
