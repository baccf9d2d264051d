use mathlib.Core.Path.{◌≡◌}
use mathlib.Core.Bool.{Bool, false}
use mathlib.Core.List.{List, []}
use Prim.Native.Nat.{ℕ, ◌<◌}
use lib.ListN.{get_or}
use Rattle.table_records.specs.Shown.{held_record}
use Rattle.table_checks.specs.Sweeps.{body_over}
use Rattle.table_checks.proofs.begin.Given as goal

abbrev pub invariant-loop-i : goal.invariant-loop-i
invariant-loop-i l = (have : List Bool) (k : ℕ) → k < l.i → get_or l.rest k false ≡ body_over have k (held_record l.records k) k []
