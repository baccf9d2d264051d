use mathlib.Core.Path.{◌≡◌}
use Rattle.definition_rules.specs.Table.{number_up}
use Rattle.table_rules.specs.RecordRules.{closed_to}
use Rattle.table_order.specs.Open.{frames_of}
use Rattle.table_order.proofs.closed_to.Given as goal

abbrev pub invariant-loop-d : goal.invariant-loop-d
invariant-loop-d l = closed_to (number_up l.p) (frames_of l.bodies l.depth) ≡ closed_to (number_up l.p) (frames_of l.bodies l.d)
