-- Which of a record's cells each is.
use Rattle.std.specs.Prelude.{ℕ}
use Rattle.table_records.specs.declared.RecordCell.{RecordCell}
use Rattle.table_records.specs.declared.RecordCell.TheVariants.{Bytes, Kind, Parent, Flags, LoCount, HiCount, Least, Most, Target, LabelLength}

abbrev pub cell_number : RecordCell → ℕ
cell_number Bytes = 0
cell_number Kind = 1
cell_number Parent = 2
cell_number Flags = 3
cell_number LoCount = 4
cell_number HiCount = 5
cell_number Least = 6
cell_number Most = 7
cell_number Target = 8
cell_number LabelLength = 9
