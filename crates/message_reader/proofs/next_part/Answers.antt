use mathlib.Core.Path.{sym}
use native.Mathlib.Omega.{arith}
use Rattle.message_lookup.proofs.Laws.{untagged_next, untagged_none}
use Rattle.std.specs.Prelude.{Ok}
use Rattle.std.proofs.lemmas.Result.{err_from_is_err_and}
use Rattle.message_reader.proofs.Steps.{next_between, field_none, bodying_out, bodying_stopped, due_field}
use Rattle.message_reader.proofs.next_part.Goals as goal

pub overflow_add-result : goal.overflow_add-result
overflow_add-result c = let b = (next_between _ _ _ _ _ _ (sym (rw c.in-Some.is at c.next_untagged.ensures))) in omega (arith, b, c.requires.room.known)

pub returns-in-None : goal.returns-in-None
returns-in-None c = λ e before i. c.item.ensures e before (rw (untagged_none _ _ _ _ _ (sym (rw c.in-None.is at c.next_untagged.ensures))) at i)

pub returns-in-List : goal.returns-in-List
returns-in-List c = λ e before i. due_field (rw (untagged_next _ _ _ _ _ _ (sym (rw c.in-Some.is at c.next_untagged.ensures))) at i) _ (next_between _ _ _ _ _ _ (sym (rw c.in-Some.is at c.next_untagged.ensures))).1 ((rw (c.in-List.is, c.for_field.ensures) at c.in_ok-field_at-in-Some.ensures) _ _ _)

pub returns-in-End : goal.returns-in-End
returns-in-End c = λ e before i. bodying_out (rw (untagged_next _ _ _ _ _ _ (sym (rw c.in-Some.is at c.next_untagged.ensures))) at i) _ (Ok (record { past = record { at = c.args.f.at }; row = c.args.f.row })) (λ fuel. field_none _ _ c.args.f _ _ _ _ ((rw (c.in-End.is, c.for_field.ensures) at c.in_ok-field_at-in-Some.ensures) _ _ _) c.requires.room.here)

pub returns-in_err-field_at-in-Some : goal.returns-in_err-field_at-in-Some
returns-in_err-field_at-in-Some c = λ e before i.
    let p = err_from_is_err_and c.from_residual.result c.from_residual.ensures.1 in
    rw (p.1, p.2) (bodying_stopped (rw (untagged_next _ _ _ _ _ _ (sym (rw c.in-Some.is at c.next_untagged.ensures))) at i) _ _ (λ fuel. (rw c.for_field.ensures at c.in_err-field_at-in-Some.ensures) _ _ _))
