use Rattle.text.proofs.Writing.{both}
use Rattle.cli_wording.specs.Sayings.{bytes}
use Rattle.cli_wanted.specs.Wanted.{type_text}
use Rattle.cli_wanted.proofs.put_type.Goals as goal

pub returns-then-kind : goal.returns-then-kind
unfolding type_text
returns-then-kind c = rw (← c.kind_at-kind.ensures, c.if-kind.true) c.put_kind.ensures

pub returns : goal.returns
unfolding type_text bytes
returns c = rw (← c.kind_at-kind.ensures, c.if-kind.false, ← c.least_at.ensures, ← c.most_at.ensures) (both (both (both c.put_kind.ensures c.byte.ensures) c.put_bounds.ensures) c.byte-2.ensures)
