use mathlib.Core.Path.{sym, ◌∙◌}
use native.Mathlib.Omega.{arith}
use Rattle.message_lists.proofs.Parts.{value_bare, value_grows, value_long, value_last, value_short}
use Rattle.message_lists.proofs.after_value.Goals as goal

pub returns-then-lo-c : goal.returns-then-lo-c
returns-then-lo-c c = value_bare _ _ c.args.s.now _ _ _ (c.lacks_comma.ensures c.if-lacks_comma.true) (rw (← c.lo.ensures) c.if-lo-c.true)

pub overflow_add-refusal : goal.overflow_add-refusal
overflow_add-refusal c = omega (arith, (c.head-h.ensures 0).within, c.requires)

pub returns-in-Comma : goal.returns-in-Comma
returns-in-Comma c = value_grows _ _ _ _ _ _ c.head-h.result (c.head-h.ensures _) c.in-Comma.is (rw (← c.hi.ensures) (sym c.may_grow.ensures ∙ c.if-may_grow.true))

pub returns-in-Comma-2 : goal.returns-in-Comma-2
returns-in-Comma-2 c = value_long _ _ _ _ _ _ c.head-h.result (c.head-h.ensures _) c.in-Comma.is (rw (← c.hi.ensures) (sym c.may_grow.ensures ∙ c.if-may_grow.false))

pub returns-then-lo-c-2 : goal.returns-then-lo-c-2
returns-then-lo-c-2 c = value_last _ _ _ _ _ _ c.head-h.result (c.head-h.ensures _) c.in_default.not-Comma (rw (← c.lo-in_default.ensures) c.if-lo-c-2.true)

pub returns-else-lo-c-2 : goal.returns-else-lo-c-2
returns-else-lo-c-2 c = value_short _ _ _ _ _ _ c.head-h.result (c.head-h.ensures _) c.in_default.not-Comma (rw (← c.lo-in_default.ensures) c.if-lo-c-2.false)
