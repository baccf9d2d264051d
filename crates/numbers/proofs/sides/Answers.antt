use mathlib.Core.Path.{sym, ◌∙◌}
use Rattle.numbers.proofs.Ranges.{cut_missing, cut_found}
use Rattle.numbers.proofs.sides.Goals as goal

pub returns-then-get_or-ne46 : goal.returns-then-get_or-ne46
returns-then-get_or-ne46 c = cut_missing c.args.w.now _ c.first_dot-dot.ensures.0 (λ h. c.if-get_or-ne46.true (c.get_or.ensures ∙ h))

pub returns : goal.returns
returns c = cut_found c.args.w.now _ c.first_dot-dot.ensures.0 (sym c.get_or.ensures ∙ c.if-get_or-ne46.false)
