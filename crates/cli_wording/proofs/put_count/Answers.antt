use borrow.Author.Tests.{eq-eqb, ne_eqb}
use Rattle.text.proofs.Writing.{both, nothing}
use Rattle.cli_wording.specs.Sayings.{counted, bytes}
use Rattle.cli_wording.proofs.put_count.Goals as goal

pub returns-then-count-ne1 : goal.returns-then-count-ne1
unfolding counted bytes
returns-then-count-ne1 c = rw (ne_eqb _ 1 c.if-count-ne1.true) (both (both (both c.decimal.ensures c.byte.ensures) c.text.ensures) c.byte-then-count-ne1.ensures)

pub returns-else-count-ne1 : goal.returns-else-count-ne1
unfolding counted bytes
returns-else-count-ne1 c = rw (eq-eqb _ 1 c.if-count-ne1.false) (both (both (both c.decimal.ensures c.byte.ensures) c.text.ensures) (nothing _))
