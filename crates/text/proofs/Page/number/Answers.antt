use Rattle.text.specs.Text.{spaced}
use Rattle.text.proofs.Writing.{both}
use Rattle.text.proofs.Page.number.Goals as goal

pub returns : goal.returns
unfolding spaced
returns c = both c.byte.ensures c.decimal.ensures
