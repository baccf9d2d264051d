use mathlib.Core.Path.{sym, ◌∙◌}
use Rattle.definition_checks.proofs.CheckLaws.{below_same, below_other, below_end}
use Rattle.definition_checks.proofs.is_repeated.Goals as goal

pub returns-then-same_key : goal.returns-then-same_key
returns-then-same_key c = sym (c.loop-j.invariant ∙ below_same c.args.noted.now.text.now c.args.noted.now.cells.now c.args.i c.loop-j.j c.loop-j-test.true (sym c.same_key.ensures ∙ c.if-same_key.true))

pub loop-j-preserved : goal.loop-j-preserved
loop-j-preserved c = c.loop-j.invariant ∙ below_other c.args.noted.now.text.now c.args.noted.now.cells.now c.args.i c.loop-j.j c.loop-j-test.true (sym c.same_key.ensures ∙ c.if-same_key.false)

pub returns : goal.returns
returns c = sym (c.loop-j.invariant ∙ below_end c.args.noted.now.text.now c.args.noted.now.cells.now c.args.i c.loop-j.j c.loop-j-test.false)
