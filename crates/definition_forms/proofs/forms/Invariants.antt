use mathlib.Core.Path.{◌≡◌}
use mathlib.Core.List.{[]}
use Prim.Native.Nat.{ℕ, ◌-◌, ◌≤◌}
use lib.ListN.{length}
use Rattle.definition_rules.specs.Scan.{items_of}
use Rattle.definition_rules.specs.Compile.{faults2}
use Rattle.definition_automaton.specs.Codes.{stand_of, hand_of}
use Rattle.definition_forms.specs.Sees.{Sees, sight_of}
use Rattle.definition_forms.proofs.Loop.{Inv}
use Rattle.definition_forms.proofs.forms.Given as goal

abbrev pub invariant-loop-x : goal.invariant-loop-x
invariant-loop-x l = record {
  read : faults2 (items_of l.text) ≡ [] → Inv l.text l.cells (sight_of l.x) (stand_of l.st) (hand_of l.p);
  at : ℕ;
  sees : Sees l.text at (sight_of l.x);
  room : 4096 ≤ length l.cells;
  short : length l.text ≤ 65535;
}

abbrev pub decreases-loop-x : goal.decreases-loop-x
decreases-loop-x l = length l.text - l.x.start
