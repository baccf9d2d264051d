use mathlib.Core.Path.{sym, ◌∙◌}
use native.Mathlib.Omega.{arith}
use Rattle.definition_scanner.proofs.FaultLaws.{fault_end, fault_bad, fault_run, fault_mark, fault_deep, open_few}
use Rattle.definition_scanner.proofs.check_next.Goals as goal

pub returns-then-too_deep : goal.returns-then-too_deep
returns-then-too_deep c = fault_deep _ _ _ (rw c.in-Mark.is at c.next.ensures) (sym c.too_deep.ensures ∙ c.if-too_deep.true)

pub returns-in-Run : goal.returns-in-Run
returns-in-Run c = let r = rw c.in-Run.is at c.next.ensures in record { same = fault_run _ _ _ r; after = omega (arith, r.after, r.some); within = r.within; few = c.requires }

pub returns-else-too_deep : goal.returns-else-too_deep
returns-else-too_deep c = let m = rw c.in-Mark.is at c.next.ensures in record { same = fault_mark _ _ _ m (sym c.too_deep.ensures ∙ c.if-too_deep.false) ∙ rw c.open_after.ensures; after = omega (arith, m.after, m.next); within = m.within; few = rw c.open_after.ensures (open_few _ _ (sym c.too_deep.ensures ∙ c.if-too_deep.false) c.requires) }

pub returns-in-Bad : goal.returns-in-Bad
returns-in-Bad c = fault_bad _ _ _ (rw c.in-Bad.is at c.next.ensures)

pub returns-in-End : goal.returns-in-End
returns-in-End c = fault_end _ _ _ (rw c.in-End.is at c.next.ensures)
