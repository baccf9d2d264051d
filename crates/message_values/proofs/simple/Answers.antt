use native.Mathlib.Omega.{arith}
use Rattle.message_frame.proofs.AtToken.{step_of_word, step_of_string}
use Rattle.message_values.proofs.Parts.{leaf_ends, word_judged, string_judged, simple_stopped}
use borrow.Author.Rules.{rules}
use Rattle.message_values.proofs.simple.Goals as goal

pub slice_bounds-judge-count : goal.slice_bounds-judge-count
slice_bounds-judge-count c = let w = step_of_word c.args.f.base c.args.s.now c.args.f.at c.head-h.result (c.head-h.ensures c.args.f.base) c.in-Word.is in omega (arith, w.less, w.within)

pub slice_bounds-judge-start : goal.slice_bounds-judge-start
slice_bounds-judge-start c = let w = step_of_word c.args.f.base c.args.s.now c.args.f.at c.head-h.result (c.head-h.ensures c.args.f.base) c.in-Word.is in omega (arith, w.less, w.within)

pub slice_bounds-judge-end : goal.slice_bounds-judge-end
slice_bounds-judge-end c = let w = step_of_word c.args.f.base c.args.s.now c.args.f.at c.head-h.result (c.head-h.ensures c.args.f.base) c.in-Word.is in omega (arith, w.less, w.within)

pub leaf-requires-clause-at_bound : goal.leaf-requires-clause-at_bound
leaf-requires-clause-at_bound c = let w = step_of_word c.args.f.base c.args.s.now c.args.f.at c.head-h.result (c.head-h.ensures c.args.f.base) c.in-Word.is in search rules

pub returns-in-Word : goal.returns-in-Word
returns-in-Word c = leaf_ends _ _ c.args.f _ _ _ _ _ _ _ (step_of_word c.args.f.base c.args.s.now c.args.f.at c.head-h.result (c.head-h.ensures c.args.f.base) c.in-Word.is) (λ r. word_judged _ _ _ r) c.judge.ensures.number c.leaf.result c.leaf.ensures

pub between-requires : goal.between-requires
between-requires c = let w = step_of_string c.args.f.base c.args.s.now c.args.f.at c.head-h.result (c.head-h.ensures c.args.f.base) c.in-String.is in search rules

pub leaf-requires-in-String-clause-at_bound : goal.leaf-requires-in-String-clause-at_bound
leaf-requires-in-String-clause-at_bound c = let w = step_of_string c.args.f.base c.args.s.now c.args.f.at c.head-h.result (c.head-h.ensures c.args.f.base) c.in-String.is in search rules

pub returns-in-String : goal.returns-in-String
returns-in-String c = leaf_ends _ _ c.args.f _ _ _ _ _ _ _ (step_of_string c.args.f.base c.args.s.now c.args.f.at c.head-h.result (c.head-h.ensures c.args.f.base) c.in-String.is) (λ r. string_judged _ _ _ r) (rw c.between.ensures at c.judge-in-String.ensures.number) c.leaf-in-String.result c.leaf-in-String.ensures

pub overflow_add-result : goal.overflow_add-result
overflow_add-result c = omega (arith, (c.head-h.ensures 0).within, c.requires)

pub returns-in_default : goal.returns-in_default
returns-in_default c = simple_stopped _ _ _ c.head-h.result (c.head-h.ensures _) _ _ _ c.in_default.not-Word c.in_default.not-String c.unfit.ensures
