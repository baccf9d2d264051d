use Rattle.std.proofs.Common.{◌≡◌, ℕ, Option, ◌<◌, ◌-◌}
use Rattle.definition_cells.specs.Places.{lesser, least_from}
use Rattle.definition_cells.proofs.least_fault.Given as goal

abbrev pub invariant-loop-i : goal.invariant-loop-i
invariant-loop-i g l =
    (f : ℕ → Option ℕ) → ((i : ℕ) (place : Option ℕ) → i < l.count → goal.F-post g l.fault i place → place ≡ f i) → least_from f l.count 0 ≡ lesser l.least (least_from f (l.count - l.i) l.i)
