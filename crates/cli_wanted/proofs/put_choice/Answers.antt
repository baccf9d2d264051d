use Rattle.cli_wording.specs.Sayings.{bytes}
use Rattle.cli_wanted.specs.Wanted.{choice_text}
use Rattle.cli_wanted.proofs.put_choice.Goals as goal

pub returns-then-choice : goal.returns-then-choice
unfolding choice_text bytes
returns-then-choice c = rw c.if-choice.true c.text.ensures

pub returns-else-choice : goal.returns-else-choice
unfolding choice_text bytes
returns-else-choice c = rw c.if-choice.false c.byte.ensures
