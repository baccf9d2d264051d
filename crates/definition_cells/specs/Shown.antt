-- What the code's declarations are.
use Rattle.std.specs.Prelude.{List, ℕ}
use Rattle.definition_rules.specs.Declarations.{Noted}
use Rattle.definition_cells.specs.Cells.{noted_at, noted_from}
use Rattle.definition_cells.specs.declared.Declarations.{Declarations}

-- declaration i
abbrev pub declared_at : Declarations → ℕ → Noted
declared_at d i = noted_at d.text.now d.cells.now i

-- all of them, as many as are counted
abbrev pub declared : Declarations → List Noted
declared d = noted_from d.text.now d.cells.now d.count 0
