use Prim.Native.Nat.{◌≤◌, min}
use mathlib.Core.Path.{◌≡◌}
use lib.ListN.{drop}
use Rattle.numbers.specs.Decimal.{cap, number_of, read_digits}
use Rattle.numbers.proofs.number_from.Given as goal

abbrev pub invariant-loop-b : goal.invariant-loop-b
invariant-loop-b l = (l.sum ≤ cap) × (min cap (read_digits l.sum (drop l.b-index l.digits)) ≡ min cap (number_of l.digits))
