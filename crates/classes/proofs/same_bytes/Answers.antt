use mathlib.Core.Path.{sym}
use Rattle.classes.proofs.Rows.{same_length, same_not_last}
use Rattle.classes.proofs.same_bytes.Goals as goal

pub returns-then-a-b : goal.returns-then-a-b
returns-then-a-b c = sym (same_length _ _ c.if-a-b.true)

pub returns-then-last_byte : goal.returns-then-last_byte
returns-then-last_byte c = sym (same_not_last _ _ (rw (c.last_byte.ensures, c.last_byte-2.ensures) at c.if-last_byte.true))
