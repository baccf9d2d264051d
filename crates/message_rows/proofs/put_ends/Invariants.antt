use Prim.Native.Nat.{◌-◌}
use mathlib.Core.Path.{◌≡◌}
use lib.ListN.{length}
use Rattle.message_rows.specs.Filled.{with_ends}
use Rattle.message_rows.proofs.put_ends.Given as goal

abbrev pub invariant-loop-k : goal.invariant-loop-k
invariant-loop-k l = (with_ends l.rows l.k (l.last - l.k) l.end ≡ with_ends l.initial.rows l.first (l.last - l.first) l.end) × (length l.rows ≡ length l.initial.rows)

abbrev pub decreases-loop-k : goal.decreases-loop-k
decreases-loop-k l = l.last - l.k
