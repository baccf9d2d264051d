use Rattle.table_records.specs.Stored.{record_in}
use Rattle.table_records.proofs.Fields.{under_number}
use Rattle.table_records.proofs.Records.is_under.Goals as goal

pub returns : goal.returns
unfolding record_in
returns c = under_number _ _ _ c.cell-up.ensures
