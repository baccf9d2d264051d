use Prim.Native.Nat.{◌-◌, ◌≤◌}
use lib.ListN.{length}
use Rattle.message_unknown.specs.Passing.{braces_from}
use Rattle.message_unknown.proofs.Steps.{Went}
use Rattle.message_unknown.proofs.braces.Given as goal

abbrev pub invariant-loop-open : goal.invariant-loop-open
invariant-loop-open l = (Went (braces_from l.base l.s 0 0) (braces_from l.base l.s l.u.at l.open) l.base l.s 0 l.u.at) × (l.open ≤ l.u.at)

abbrev pub decreases-loop-open : goal.decreases-loop-open
decreases-loop-open l = length l.s - l.u.at
