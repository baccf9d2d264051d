use mathlib.Core.Path.{sym, refl}
use Rattle.message_reader.specs.Turning.{is_union}
use Rattle.message_reader.proofs.Steps.{no_choice}
use Rattle.message_reader.proofs.is_union.Goals as goal

pub returns-in-Union : goal.returns-in-Union
unfolding is_union
returns-in-Union c = rw (← c.kind.ensures, c.in-Union.is) refl

pub returns-in_default : goal.returns-in_default
returns-in_default c = rw (← c.kind.ensures) (sym (no_choice _ c.in_default.not-Union))
