-- "A row's bytes can be asked for: they come back as that part of the message itself."
use Rattle.std.specs.Prelude.{Bool, true, false, ◌&&◌, List, [], ℕ, ◌+◌, ◌-◌, ◌*◌, leb, length, take, drop, get_or}
use Rattle.numbers.specs.Limits.{row_width}

-- a row's numbers
abbrev pub row_from : List ℕ → ℕ → ℕ
row_from lent row = get_or lent (row_width * row + 2) 0

abbrev pub row_to : List ℕ → ℕ → ℕ
row_to lent row = get_or lent (row_width * row + 3) 0

-- the whole row is there, and its span lies in the message
abbrev pub row_lies : List ℕ → List ℕ → ℕ → Bool
row_lies message lent row = leb (row_width * row + row_width) (length lent) && (leb (row_from lent row) (row_to lent row) && leb (row_to lent row) (length message))

-- "If the whole row isn't there, or its span ends before it starts or doesn't lie in the message, the empty part comes back."
unfoldable pub row_bytes : List ℕ → List ℕ → ℕ → List ℕ
row_bytes message lent row = elim (row_lies message lent row) [ true ↦ take (row_to lent row - row_from lent row) (drop (row_from lent row) message) | false ↦ [] ]

-- where that part starts in the message; the empty part stands at its start
unfoldable pub row_start : List ℕ → List ℕ → ℕ → ℕ
row_start message lent row = elim (row_lies message lent row) [ true ↦ row_from lent row | false ↦ 0 ]

-- the pointer, a block and an offset, that points n elements further
abbrev pub further : ℕ × ℕ → ℕ → ℕ × ℕ
further pointer n = (pointer.0, n + pointer.1)
