use mathlib.Core.Path.{sym, ◌∙◌}
use native.Mathlib.Omega.{arith}
use Rattle.message_choices.proofs.Parts.{alternative_none, alternative_open, alternative_void, alternative_equals}
use Rattle.message_choices.proofs.alternative.Goals as goal

pub returns-in_default : goal.returns-in_default
returns-in_default c = alternative_none c.args.records.now _ c.args.f _ _ _ 0 (sym (rw c.in_default.is at c.find.ensures))

pub returns-then-is_void : goal.returns-then-is_void
returns-then-is_void c = alternative_void c.args.records.now _ c.args.f _ _ _ _ (sym (rw c.in-Some.is at c.find.ensures)) (sym c.is_void.ensures ∙ c.if-is_void.true)

pub returns-in-Equals : goal.returns-in-Equals
returns-in-Equals c = alternative_equals c.args.records.now _ c.args.f _ _ _ _ c.head-h.result (sym (rw c.in-Some.is at c.find.ensures)) (sym c.is_void.ensures ∙ c.if-is_void.false) (c.head-h.ensures _) c.in-Equals.is

pub overflow_add-result-in_default-kind : goal.overflow_add-result-in_default-kind
overflow_add-result-in_default-kind c = omega (arith, (c.head-h.ensures 0).within, c.requires.s_bound.0)

pub returns-in_default-kind : goal.returns-in_default-kind
returns-in_default-kind c = alternative_open c.args.records.now _ c.args.f _ _ _ _ c.head-h.result (sym (rw c.in-Some.is at c.find.ensures)) (sym c.is_void.ensures ∙ c.if-is_void.false) (c.head-h.ensures _) c.in_default-kind.not-Equals
