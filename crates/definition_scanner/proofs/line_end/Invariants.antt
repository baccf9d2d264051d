use mathlib.Core.Path.{◌≡◌}
use lib.ListN.{drop}
use Rattle.definition_rules.specs.Scan.{scan, line_comment}
use Rattle.definition_scanner.proofs.line_end.Given as goal

abbrev pub invariant-loop-at : goal.invariant-loop-at
invariant-loop-at l = scan line_comment l.from (drop l.from l.text) ≡ scan line_comment l.at (drop l.at l.text)
