use borrow.Author.Tests.{eq-eqb, ne_eqb}
use Rattle.cli_wanted.specs.Wanted.{resolved_in}
use Rattle.cli_wanted.proofs.resolved.Goals as goal

pub returns-then-kind_at-eq-REFERENCE : goal.returns-then-kind_at-eq-REFERENCE
unfolding resolved_in
returns-then-kind_at-eq-REFERENCE c = rw (← c.kind_at.ensures, eq-eqb _ 10 c.if-kind_at-eq-REFERENCE.true) c.target_at.ensures

pub returns : goal.returns
unfolding resolved_in
returns c = rw (← c.kind_at.ensures, ne_eqb _ 10 c.if-kind_at-eq-REFERENCE.false)
