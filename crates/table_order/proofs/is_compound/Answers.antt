use mathlib.Core.Path.{refl}
use Rattle.definition_rules.specs.Words.{kind_is_compound}
use Rattle.table_order.proofs.is_compound.Goals as goal

pub returns : goal.returns
unfolding kind_is_compound
returns c = refl
