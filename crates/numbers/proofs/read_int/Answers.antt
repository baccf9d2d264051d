use mathlib.Core.Path.{sym}
use Rattle.numbers.proofs.Ranges.{int_read, int_unread}
use Rattle.numbers.proofs.read_int.Goals as goal

pub returns-then-is_int-int_within : goal.returns-then-is_int-int_within
returns-then-is_int-int_within c = sym (int_read _ _ (rw (c.is_int.ensures, c.int_within.ensures) at c.if-is_int-int_within.true) c.biased_int.ensures)

pub returns : goal.returns
returns c = sym (int_unread c.args.w.now (rw (c.is_int.ensures, c.int_within.ensures) at c.if-is_int-int_within.false))
