use mathlib.Core.Path.{ap, ◌∙◌}
use native.Mathlib.Omega.{arith}
use lib.Dec.{eqb}
use Rattle.std.specs.Prelude.{Some}
use Rattle.message_lookup.specs.Questions.{broken_number}
use Rattle.message_bodies.specs.Bodies.{end_or}
use Rattle.message_bodies.proofs.Parts.{end_answered, end_broken, field_starts, field_ends, field_stopped}
use Rattle.message_bodies.proofs.field_at.Goals as goal

pub returns-in_default : goal.returns-in_default
returns-in_default c = field_starts _ _ c.args.f _ c.head-h.result (c.head-h.ensures _) _ _ (ap (λ k. eqb k 0) c.lo-is_complete.ensures) (end_answered _ _ _ 1 c.end_at.ensures) (ap (end_or 1) c.in_default.is)

pub returns-in-Ok : goal.returns-in-Ok
returns-in-Ok c = field_ends _ _ c.args.f _ c.head-h.result (c.head-h.ensures _) _ _ (ap (λ k. eqb k 0) c.lo-is_complete.ensures) (end_answered _ _ _ 1 c.end_at.ensures) (ap (end_or 1) c.in-Some.is ∙ ap broken_number c.in-Ok.is)

pub overflow_add-result : goal.overflow_add-result
overflow_add-result c = omega (arith, (c.head-h.ensures 0).within, c.requires)

pub returns-in-Err : goal.returns-in-Err
returns-in-Err c = let b = end_broken _ _ _ c.in-Err.rule c.end_at.ensures (c.in-Some.is ∙ ap Some c.in-Err.is) in field_stopped _ _ c.args.f _ c.head-h.result (c.head-h.ensures _) _ _ (ap (λ k. eqb k 0) c.lo-is_complete.ensures) (rw (c.in-Some.is, c.in-Err.is) at (end_answered _ _ _ 1 c.end_at.ensures)) (λ z. omega (arith, b, z)) (λ z. omega (arith, b, z))
