use mathlib.Core.Path.{◌∙◌, sym}
use Rattle.table_records.specs.Stored.{record_in}
use Rattle.definition_rules.proofs.TableLaws.{up_number_lem}
use Rattle.table_records.proofs.Records.parent_at.Goals as goal

pub returns : goal.returns
unfolding record_in
returns c = c.cell.ensures ∙ sym (up_number_lem _)
