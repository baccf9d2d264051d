use mathlib.Core.Path.{sym, ◌∙◌}
use Rattle.message_lookup.proofs.IntLists.{ints_some}
use Rattle.message_lookup.proofs.ints_of.Goals as goal

pub returns : goal.returns
returns c = ints_some _ _ _ _ _ c.core-u.ensures c.if-records-u.false _ _ _ _ _ _ (sym c.kind_at.ensures ∙ c.if-kind_at-ne-INT.false) (rw c.most_at-most.ensures at c.if-most-lt-BIAS.false) (rw c.least_at.ensures at c.above_zero.ensures) (rw c.most_at-most.ensures at c.above_zero-2.ensures) c.packed.ensures c.packed-2.ensures c.hi.ensures c.most_values.ensures
