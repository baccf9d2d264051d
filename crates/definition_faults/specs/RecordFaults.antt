-- The faults that records alone show, by parameter, at the places that its declaration keeps.
use Rattle.std.specs.Prelude.{Bool, List, ℕ, Option}
use Rattle.reading_rules.specs.Record.{Record}
use Rattle.definition_rules.specs.Faults.{tag_repeated}
use Rattle.definition_cells.specs.Cells.{cell_at, name_cell, tag_cell}
use Rattle.definition_cells.specs.Places.{at_if}
use Rattle.table_records.specs.Shown.{held_record, held_records}
use Rattle.table_records.specs.declared.Records.{Records}

-- 8 for tags: the fault of parameter i at its tag
abbrev pub tag_fault : List ℕ → Records → ℕ → Option ℕ
tag_fault cs r i = at_if (tag_repeated (held_records r) i (held_record r i)) (cell_at cs i tag_cell)

-- the fault of parameter i by one test, at its name: that of 7, the root's of 9, or that of 10
abbrev pub name_fault : (ℕ → Record → Bool) → List ℕ → Records → ℕ → Option ℕ
name_fault broken cs r i = at_if (broken i (held_record r i)) (cell_at cs i name_cell)
