use mathlib.Core.Path.{◌∙◌, refl}
use Rattle.message_rows.proofs.Stores.{rows_append}
use Rattle.message_reader.proofs.whole.Goals as goal

pub returns : goal.returns
returns c = record { same = refl; written = c.put_row-2.ensures ∙ rw c.put_row.ensures (rows_append _ _ _ _ _ refl); sized = refl }
