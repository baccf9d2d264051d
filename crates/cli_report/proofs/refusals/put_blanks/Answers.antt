use mathlib.Core.List.{[], ◌∷◌}
use Rattle.text.proofs.Writing.{none, more, all}
use Rattle.cli_report.specs.Shown.{blank_for}
use Rattle.cli_report.proofs.refusals.put_blanks.Goals as goal

pub loop-b-init : goal.loop-b-init
loop-b-init c = none (λ b. blank_for b ∷ []) c.args.bytes.now c.args.page.now

pub loop-b-preserved : goal.loop-b-preserved
loop-b-preserved c = more (λ b. blank_for b ∷ []) _ _ c.loop-b-test.true c.loop-b.invariant (rw (← c.blank.ensures) c.byte.ensures)

pub returns : goal.returns
returns c = all (λ b. blank_for b ∷ []) _ _ c.loop-b-test.false c.loop-b.invariant
