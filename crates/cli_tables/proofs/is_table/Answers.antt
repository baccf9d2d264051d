use mathlib.Core.Path.{◌∙◌}
use lib.Dec.{eqb}
use Rattle.classes.proofs.Chains.{some_any}
use Rattle.cli_tables.specs.Made.{is_table}
use Rattle.cli_tables.proofs.is_table.Goals as goal

pub returns : goal.returns
unfolding is_table
returns c = c.contains.ensures.value ∙ some_any (λ b. eqb b 0) c.args.bytes.now
