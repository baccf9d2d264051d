use Rattle.text.proofs.Writing.{both}
use Rattle.cli_wording.specs.Sayings.{explanation, bytes}
use Rattle.cli_wording.proofs.put_explanation.Goals as goal

pub returns : goal.returns
unfolding explanation bytes
returns c = both (both (both c.put_refused.ensures c.text.ensures) (rw c.place_meaning.ensures at c.text-2.ensures)) c.text-3.ensures
