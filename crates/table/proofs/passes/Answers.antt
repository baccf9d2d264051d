use mathlib.Core.Path.{◌∙◌}
use Rattle.table.proofs.Laws.{checked_kept}
use Rattle.table.proofs.passes.Goals as goal

pub returns : goal.returns
returns c = c.is_some.ensures ∙ checked_kept _ _ c.checked.result c.checked.ensures
