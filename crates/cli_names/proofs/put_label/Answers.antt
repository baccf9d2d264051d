use mathlib.Core.Path.{sym, ◌∙◌}
use Rattle.text.proofs.Writing.{both}
use Rattle.cli_names.specs.Labels.{shown_label}
use Rattle.cli_names.proofs.put_label.Goals as goal

pub returns-then-same_bytes : goal.returns-then-same_bytes
unfolding shown_label
returns-then-same_bytes c = rw (sym c.same_bytes.ensures ∙ c.if-same_bytes.true) c.text.ensures

pub returns : goal.returns
unfolding shown_label
returns c = rw (sym c.same_bytes.ensures ∙ c.if-same_bytes.false) (both (both (both c.text-2.ensures c.text-3.ensures) c.text-4.ensures) c.text-5.ensures)
