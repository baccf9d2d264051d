use mathlib.Core.List.{[], ◌∷◌}
use lib.ListN.{take}
use Rattle.text.specs.Text.{Added, each}
use Rattle.cli_report.specs.Shown.{shown_byte}
use Rattle.cli_report.proofs.refusals.put_shown.Given as goal

abbrev pub invariant-loop-b : goal.invariant-loop-b
invariant-loop-b l = Added (each (λ b. shown_byte b ∷ []) (take l.b-index l.bytes)) l.initial.page l.page
