use mathlib.Core.Path.{◌≡◌}
use mathlib.Core.Bool.{not}
use Rattle.definition_rules.specs.Faults.{is_new_key}
use Rattle.definition_checks.specs.Checks.{key_at, keys_below}
use Rattle.definition_checks.proofs.is_repeated.Given as goal

abbrev pub invariant-loop-j : goal.invariant-loop-j
invariant-loop-j l = not (is_new_key (key_at l.noted.text.now l.noted.cells.now l.i) (keys_below l.noted.text.now l.noted.cells.now l.i)) ≡ not (is_new_key (key_at l.noted.text.now l.noted.cells.now l.i) (keys_below l.noted.text.now l.noted.cells.now l.j))
