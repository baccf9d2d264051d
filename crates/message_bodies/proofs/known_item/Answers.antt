use mathlib.Core.Path.{sym, ◌∙◌, refl}
use native.Mathlib.Omega.{arith}
use Rattle.message_frame.proofs.AtToken.{step_of_equals}
use Rattle.message_bodies.proofs.Parts.{known_again, known_bare}
use Rattle.message_bodies.proofs.known_item.Goals as goal

pub returns-then-get_or : goal.returns-then-get_or
returns-then-get_or c = λ vs next ks w i m h. known_again _ _ _ _ _ _ _ vs next ks w i m h (sym c.get_or.ensures ∙ c.if-get_or.true)

pub returns-in-Equals : goal.returns-in-Equals
returns-in-Equals c = record { same = refl; new = sym c.get_or.ensures ∙ c.if-get_or.false; void = sym c.is_void.ensures ∙ c.if-is_void.false; place = c.head-h.result.start; step = step_of_equals _ _ _ c.head-h.result (c.head-h.ensures _) c.in-Equals.is }

pub overflow_add-result-in_default : goal.overflow_add-result-in_default
overflow_add-result-in_default c = omega (arith, (c.head-h.ensures 0).within, c.requires.0)

pub returns-in_default : goal.returns-in_default
returns-in_default c = λ vs next ks w i m h. known_bare _ _ _ _ _ _ _ vs next ks w i m h c.head-h.result (c.head-h.ensures _) (sym c.get_or.ensures ∙ c.if-get_or.false) (sym c.is_void.ensures ∙ c.if-is_void.false) c.in_default.not-Equals
