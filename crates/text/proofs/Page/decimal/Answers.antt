use mathlib.Core.Path.{sym, ◌∙◌}
use Rattle.text.proofs.Decimal.{fewest}
use Rattle.text.proofs.Page.decimal.Goals as goal

pub returns : goal.returns
returns c = rw (sym (fewest _ _ c.decimal-k.ensures.len c.ranges.n.fits) ∙ sym c.decimal-k.ensures.digits) c.text.ensures
