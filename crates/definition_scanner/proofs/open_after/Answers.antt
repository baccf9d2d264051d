use native.Mathlib.Omega.{arith}
use borrow.Author.Tests.{eq-eqb, ne_eqb}
use Rattle.classes.specs.Lists.{pick}
use Rattle.definition_rules.specs.Scan.{braces_after}
use Rattle.definition_scanner.proofs.open_after.Goals as goal

pub returns-then-b-eq123 : goal.returns-then-b-eq123
unfolding braces_after pick
returns-then-b-eq123 c = simp (eq-eqb _ _ c.if-b-eq123.true) (omega arith)

pub returns-then-b-eq125 : goal.returns-then-b-eq125
unfolding braces_after pick
returns-then-b-eq125 c = simp (ne_eqb _ _ c.if-b-eq123.false, eq-eqb _ _ c.if-b-eq125.true) (omega arith)

pub returns : goal.returns
unfolding braces_after pick
returns c = simp (ne_eqb _ _ c.if-b-eq123.false, ne_eqb _ _ c.if-b-eq125.false)
