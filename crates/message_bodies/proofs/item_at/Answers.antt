use mathlib.Core.Path.{sym, ap, ◌∙◌}
use native.Mathlib.Omega.{arith}
use Rattle.std.proofs.lemmas.Result.{err_from_is_err_and}
use Rattle.message_lookup.proofs.Marked.{complete_marks}
use Rattle.message_frame.proofs.AtToken.{step_of_word}
use Rattle.std.specs.Prelude.{Some}
use Rattle.message_lookup.specs.Questions.{broken_number}
use Rattle.message_bodies.specs.Bodies.{end_or}
use Rattle.message_bodies.proofs.Parts.{end_answered, end_broken, unknown_ends, unknown_stopped, known_ends, items_done, items_stopped}
use borrow.Author.Rules.{rules}
use Rattle.message_bodies.proofs.item_at.Goals as goal

pub slice_bounds-find-count : goal.slice_bounds-find-count
slice_bounds-find-count c = let w = step_of_word c.args.f.base c.args.s.now c.args.f.at c.head-h.result (c.head-h.ensures c.args.f.base) c.in-Word.is in omega (arith, w.less, w.within)

pub slice_bounds-find-start : goal.slice_bounds-find-start
slice_bounds-find-start c = let w = step_of_word c.args.f.base c.args.s.now c.args.f.at c.head-h.result (c.head-h.ensures c.args.f.base) c.in-Word.is in omega (arith, w.less, w.within)

pub slice_bounds-find-end : goal.slice_bounds-find-end
slice_bounds-find-end c = let w = step_of_word c.args.f.base c.args.s.now c.args.f.at c.head-h.result (c.head-h.ensures c.args.f.base) c.in-Word.is in omega (arith, w.less, w.within)

pub known_item-requires : goal.known_item-requires
known_item-requires c = let w = step_of_word c.args.f.base c.args.s.now c.args.f.at c.head-h.result (c.head-h.ensures c.args.f.base) c.in-Word.is in search rules

pub returns-in-Some : goal.returns-in-Some
returns-in-Some c = known_ends c.args.records.now _ c.args.f _ _ _ _ (step_of_word _ _ _ c.head-h.result (c.head-h.ensures _) c.in-Word.is) _ (sym (rw c.in-Some.is at c.find.ensures)) c.known_item.result c.known_item.ensures

pub returns-in_ok-unknown_item-in-None : goal.returns-in_ok-unknown_item-in-None
returns-in_ok-unknown_item-in-None c = λ ks m. unknown_ends c.args.records.now _ c.args.f _ c.args.seen.now _ _ (step_of_word _ _ _ c.head-h.result (c.head-h.ensures _) c.in-Word.is) (sym (rw c.in-None.is at c.find.ensures)) ks _ c.in_ok-unknown_item-in-None.ensures

pub returns-in_err-unknown_item-in-None : goal.returns-in_err-unknown_item-in-None
returns-in_err-unknown_item-in-None c = λ ks m.
    let p = err_from_is_err_and c.from_residual.result c.from_residual.ensures.1 in
    rw (p.1, p.2) (unknown_stopped c.args.records.now _ c.args.f _ c.args.seen.now _ _ (step_of_word _ _ _ c.head-h.result (c.head-h.ensures _) c.in-Word.is) (sym (rw c.in-None.is at c.find.ensures)) ks _ _ c.in_err-unknown_item-in-None.ensures)

pub overflow_add-result : goal.overflow_add-result
overflow_add-result c = omega (arith, (c.head-h.ensures 0).within, c.requires.s_bound)

pub overflow_add-result-in-Err : goal.overflow_add-result-in-Err
overflow_add-result-in-Err c = omega (arith, (c.head-h.ensures 0).within, c.requires.s_bound)

pub returns-in_default-end_at : goal.returns-in_default-end_at
returns-in_default-end_at c = λ ks m. items_stopped _ _ c.args.f _ ks c.head-h.result (c.head-h.ensures _) _ _ (c.complete-is_complete.ensures ∙ complete_marks _ _ _ ks m) (rw c.in_default-end_at.is at (end_answered _ _ _ 23 c.end_at.ensures)) c.in_default.not-Word (λ z. omega (arith, z))

pub returns-in-Ok : goal.returns-in-Ok
returns-in-Ok c = λ ks m. items_done _ _ c.args.f _ ks c.head-h.result (c.head-h.ensures _) _ _ (c.complete-is_complete.ensures ∙ complete_marks _ _ _ ks m) (end_answered _ _ _ 23 c.end_at.ensures) c.in_default.not-Word (ap (end_or 23) c.in-Some-end_at.is ∙ ap broken_number c.in-Ok.is)

pub returns-in-Err : goal.returns-in-Err
returns-in-Err c = λ ks m. let b = end_broken _ _ _ c.in-Err.rule c.end_at.ensures (c.in-Some-end_at.is ∙ ap Some c.in-Err.is) in items_stopped _ _ c.args.f _ ks c.head-h.result (c.head-h.ensures _) _ _ (c.complete-is_complete.ensures ∙ complete_marks _ _ _ ks m) (rw (c.in-Some-end_at.is, c.in-Err.is) at (end_answered _ _ _ 23 c.end_at.ensures)) c.in_default.not-Word (λ z. omega (arith, b, z))
