use Prim.Native.Nat.{◌-◌}
use lib.ListN.{length}
use Rattle.definition_scanner.proofs.Steps.{Along}
use Rattle.definition_scanner.proofs.Cursor.next.Given as goal

abbrev pub invariant-loop-e : goal.invariant-loop-e
invariant-loop-e l = Along l.text l.initial.at l.at

abbrev pub decreases-loop-e : goal.decreases-loop-e
decreases-loop-e l = length l.text - l.at
