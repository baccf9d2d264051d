use mathlib.Core.Path.{◌≡◌}
use Prim.Native.Nat.{◌-◌, ◌≤◌}
use lib.ListN.{length, drop}
use Rattle.classes.specs.Lists.{same_bytes}
use Rattle.classes.proofs.same_before_last.Given as goal

abbrev pub invariant-loop-i : goal.invariant-loop-i
invariant-loop-i l = (same_bytes (drop (l.i - 1) l.a) (drop (l.i - 1) l.b) ≡ same_bytes l.a l.b) × ((1 ≤ l.i) × (l.i - 1 ≤ length l.a - 1))
