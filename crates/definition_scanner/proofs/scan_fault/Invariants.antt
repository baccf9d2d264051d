use mathlib.Core.Path.{◌≡◌}
use Prim.Native.Nat.{◌-◌, ◌≤◌}
use lib.ListN.{length}
use Rattle.definition_rules.specs.Scan.{items_of}
use Rattle.definition_rules.specs.Compile.{faults2}
use Rattle.definition_scanner.specs.First.{faults_from}
use Rattle.definition_scanner.proofs.scan_fault.Given as goal

abbrev pub invariant-loop-d : goal.invariant-loop-d
invariant-loop-d l = (faults2 (items_of l.text) ≡ faults_from l.text l.c.at l.deep) × (l.deep ≤ 8)

abbrev pub decreases-loop-d : goal.decreases-loop-d
decreases-loop-d l = length l.text - l.c.at
