use mathlib.Core.Path.{◌≡◌}
use Prim.Native.Nat.{ℕ}
use lib.ListN.{drop}
use Rattle.definition_rules.specs.Scan.{scan, comment}
use Rattle.definition_scanner.proofs.comment_end.Given as goal

abbrev pub invariant-loop-at : goal.invariant-loop-at
invariant-loop-at l = (q : ℕ) → scan (comment q) l.from (drop l.from l.text) ≡ scan (comment q) l.at (drop l.at l.text)
