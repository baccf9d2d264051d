-- The walk over a table's records, by their lengths.
use Rattle.std.specs.Prelude.{◌≡◌, Bool, ◌&&◌, List, ℕ, ◌+◌, ◌-◌, ◌*◌, ◌≤◌, ◌<◌, eqb, ltb, leb, length, Option, Some, None}
use Rattle.numbers.specs.Limits.{parameter_limit}
use Rattle.numbers.specs.LittleEndian.{le16}
use Rattle.classes.specs.Lists.{pick}
use Rattle.reading_rules.specs.Record.{Record}
use Rattle.definition_rules.specs.Table.{just, decode}
use Rattle.table_records.specs.Stored.{record_cells, records_at, Laid}

-- a whole record begins at this place
unfoldable pub is_whole : List ℕ → ℕ → Bool
is_whole t at =
    leb 24 (length t - at) && (eqb (le16 t at) (24 + le16 t (at + 22)) && (ltb (le16 t (at + 6)) 8 && leb (le16 t at) (length t - at)))

-- its length; 0 where none begins
unfoldable pub length_at : List ℕ → ℕ → ℕ
length_at t at = pick (is_whole t at) (le16 t at) 0

-- what the code says of a place: that length, or that none begins there
abbrev pub TellsLength : List ℕ → ℕ → Option ℕ → Type 0
TellsLength t at (Some n) = (n ≡ length_at t at) × (0 < n) × (n < 65536)
TellsLength t at None = length_at t at ≡ 0

-- there is room to unpack the records of a table of so many bytes
abbrev pub Enough : ℕ → ℕ → Type 0
Enough bytes room = (n : ℕ) → n ≤ parameter_limit → 24 * n ≤ bytes → record_cells * n ≤ room

-- what a walk says: the table is these records, no more than there may be
pub record RecordsCounted (t unpacked : List ℕ) (n : ℕ) : Type 0 where
  pub few : n ≤ parameter_limit
  pub long : 24 * n ≤ length t
  pub these : decode t ≡ just (records_at t unpacked n)
  pub laid : Laid t unpacked n

-- or it is no row of whole records, or of too many
abbrev pub Uncounted : List ℕ → Type 0
Uncounted t = (rs : List Record) → decode t ≡ just rs → parameter_limit < length rs

unfoldable pub Walked : List ℕ → List ℕ → Option ℕ → Type 0
Walked t unpacked (Some n) = RecordsCounted t unpacked n
Walked t unpacked None = Uncounted t
