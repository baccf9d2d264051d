use mathlib.Core.Path.{◌∙◌}
use lib.Dec.{eqb}
use Rattle.definition_rules.specs.Words.{has_dot}
use Rattle.classes.proofs.Chains.{some_any}
use Rattle.definition_words.proofs.has_dot.Goals as goal

pub returns : goal.returns
unfolding has_dot
returns c = c.contains.ensures.value ∙ some_any (λ b. eqb b 46) c.args.w.now
