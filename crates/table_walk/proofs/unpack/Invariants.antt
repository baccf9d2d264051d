use mathlib.Core.Path.{◌≡◌}
use Prim.Native.Nat.{◌-◌}
use lib.ListN.{length}
use Rattle.table_walk.proofs.Walking.{WalkedTo}
use Rattle.table_walk.proofs.unpack.Given as goal

abbrev pub invariant-loop-at : goal.invariant-loop-at
invariant-loop-at l = WalkedTo l.table l.unpacked l.n l.at × (length l.unpacked ≡ length l.initial.unpacked)

abbrev pub decreases-loop-at : goal.decreases-loop-at
decreases-loop-at l = length l.table - l.at
