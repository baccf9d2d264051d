use Rattle.text.proofs.Writing.{hex_two}
use Rattle.text.proofs.Page.hex_byte.Goals as goal

pub returns : goal.returns
returns c = hex_two _ _ _ c.digit.ensures c.digit-2.ensures c.byte.ensures c.byte-2.ensures
