use native.Mathlib.Omega.{arith}
use mathlib.Core.Path.{sym, ap, ◌∙◌}
use Rattle.std.proofs.Common.{rules, ◌≡◌, Err}
use Rattle.numbers.specs.declared.Rule.TheVariants.{LabelTwice, Target}
use Rattle.definition.specs.Answers.{refused_at, stop_finding}
use Rattle.definition.proofs.Order.{at_seven, at_eight, at_nine, at_ten}
use Rattle.definition.proofs.record_fault.Goals as goal

pub returns-in_err-refuse : goal.returns-in_err-refuse
returns-in_err-refuse c = λ n w. let q : c.from_residual.result ≡ Err c.in_err-refuse.field-0.0 = search rules in rw q (at_seven c.args.noted.now.text.now c.args.noted.now.cells.now c.args.noted.now.count c.args.records.now n _ (search rules) _ (sym c.refuse.ensures ∙ c.in_err-refuse.was))

pub returns-in_err-refuse-2 : goal.returns-in_err-refuse-2
returns-in_err-refuse-2 c = λ n w. let q : c.from_residual-in_err-refuse-2.result ≡ Err c.in_err-refuse-2.field-0.0 = search rules in rw q (at_eight c.args.noted.now.text.now c.args.noted.now.cells.now c.args.noted.now.count c.args.records.now n _ (search rules) _ (sym c.refuse.ensures ∙ c.in_ok-refuse.was) _ _ c.repeated_name-names.ensures c.repeated_tag-tags.ensures _ (sym (c.refuse-2.ensures ∙ ap (refused_at LabelTwice) c.lesser.ensures) ∙ c.in_err-refuse-2.was))

pub returns-in_err-refuse-3 : goal.returns-in_err-refuse-3
returns-in_err-refuse-3 c = λ n w. let q : c.from_residual-in_err-refuse-3.result ≡ Err c.in_err-refuse-3.field-0.0 = search rules in rw q (at_nine c.args.noted.now.text.now c.args.noted.now.cells.now c.args.noted.now.count c.args.records.now n _ (search rules) _ (sym c.refuse.ensures ∙ c.in_ok-refuse.was) _ _ c.repeated_name-names.ensures c.repeated_tag-tags.ensures _ (sym (c.refuse-2.ensures ∙ ap (refused_at LabelTwice) c.lesser.ensures) ∙ c.in_ok-refuse-2.was) _ _ c.root_no_struct-root.ensures c.dangling-lost.ensures _ (sym (c.refuse-3.ensures ∙ ap (refused_at Target) c.lesser-2.ensures) ∙ c.in_err-refuse-3.was))

pub returns : goal.returns
returns c = λ n w. ap stop_finding c.refuse-4.ensures ∙ at_ten c.args.noted.now.text.now c.args.noted.now.cells.now c.args.noted.now.count c.args.records.now n _ (search rules) _ (sym c.refuse.ensures ∙ c.in_ok-refuse.was) _ _ c.repeated_name-names.ensures c.repeated_tag-tags.ensures _ (sym (c.refuse-2.ensures ∙ ap (refused_at LabelTwice) c.lesser.ensures) ∙ c.in_ok-refuse-2.was) _ _ c.root_no_struct-root.ensures c.dangling-lost.ensures _ (sym (c.refuse-3.ensures ∙ ap (refused_at Target) c.lesser-2.ensures) ∙ c.in_ok-refuse-3.was) _ (c.finites.ensures w (omega arith) (omega arith)) _ c.endless.ensures
