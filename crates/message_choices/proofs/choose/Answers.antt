use mathlib.Core.Path.{sym, ap}
use native.Mathlib.Omega.{arith}
use Rattle.message_lookup.specs.Questions.{broken_number}
use Rattle.message_frame.proofs.AtToken.{step_of_word, union_stopped}
use Rattle.message_choices.proofs.Parts.{int_whole, int_stopped, chosen_ends}
use borrow.Author.Rules.{rules}
use Rattle.message_choices.proofs.choose.Goals as goal

pub slice_bounds-word-count : goal.slice_bounds-word-count
slice_bounds-word-count c = let w = step_of_word c.args.f.base c.args.s.now c.args.f.at c.head-h.result (c.head-h.ensures c.args.f.base) c.in-Word.is in omega (arith, w.less, w.within)

pub slice_bounds-word-start : goal.slice_bounds-word-start
slice_bounds-word-start c = let w = step_of_word c.args.f.base c.args.s.now c.args.f.at c.head-h.result (c.head-h.ensures c.args.f.base) c.in-Word.is in omega (arith, w.less, w.within)

pub slice_bounds-word-end : goal.slice_bounds-word-end
slice_bounds-word-end c = let w = step_of_word c.args.f.base c.args.s.now c.args.f.at c.head-h.result (c.head-h.ensures c.args.f.base) c.in-Word.is in omega (arith, w.less, w.within)

pub returns-in-Ok : goal.returns-in-Ok
returns-in-Ok c = int_whole c.args.records.now _ c.args.f _ _ _ _ (step_of_word _ _ _ c.head-h.result (c.head-h.ensures _) c.in-Word.is) _ (sym (rw c.in-Some.is at c.bare_for.ensures)) _ c.judge.ensures.number (ap broken_number c.in-Ok.is)

pub overflow_add-result : goal.overflow_add-result
overflow_add-result c = omega (arith, (c.head-h.ensures 0).within, c.requires.s_bound)

pub returns-in-Err : goal.returns-in-Err
returns-in-Err c = int_stopped c.args.records.now _ c.args.f _ _ _ _ (step_of_word _ _ _ c.head-h.result (c.head-h.ensures _) c.in-Word.is) _ (sym (rw c.in-Some.is at c.bare_for.ensures)) _ (rw c.in-Err.is at c.judge.ensures.number) (rw c.in-Err.is at c.judge.ensures.broken)

pub alternative-requires-clause-s_bound : goal.alternative-requires-clause-s_bound
alternative-requires-clause-s_bound c = let w = step_of_word c.args.f.base c.args.s.now c.args.f.at c.head-h.result (c.head-h.ensures c.args.f.base) c.in-Word.is in search rules

pub returns-in-None : goal.returns-in-None
returns-in-None c = chosen_ends c.args.records.now _ c.args.f _ _ _ (step_of_word _ _ _ c.head-h.result (c.head-h.ensures _) c.in-Word.is) (sym (rw c.in-None.is at c.bare_for.ensures)) c.alternative.result c.alternative.ensures

pub overflow_add-result-in_default : goal.overflow_add-result-in_default
overflow_add-result-in_default c = omega (arith, (c.head-h.ensures 0).within, c.requires.s_bound)

pub returns-in_default : goal.returns-in_default
returns-in_default c = union_stopped _ _ _ c.head-h.result (c.head-h.ensures _) _ _ _ c.in_default.not-Word c.unfit.ensures
