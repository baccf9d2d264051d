-- The search for a tag: what it answers, and what it asks of a table's records.
use Rattle.std.specs.Prelude.{◌≡◌, true, List, ℕ, ◌<◌, length, Option, Some, None}
use Rattle.reading_rules.specs.Record.{Record, record_at, AfterParents}
use Rattle.reading_rules.specs.Schema as schema
use Rattle.reading_rules.specs.Schema.{is_tagged_as, first_where}
use Rattle.table_records.specs.Stored.{records_at, Laid}

-- what the code's answer means
abbrev pub found_of : Option ℕ → schema.Found
found_of None = schema.nowhere
found_of (Some q) = schema.found q

-- the field or alternative of p with this wire tag: the first of all records that is one
abbrev pub searched : List ℕ → List ℕ → ℕ → ℕ → List ℕ → schema.Found
searched t cs n p w = first_where (is_tagged_as p w) 0 (records_at t cs n)

-- a wire tag stands once in a body
abbrev pub TagsOnce : List Record → Type 0
TagsOnce rs = (p i j : ℕ) (w : List ℕ) → i < length rs → j < length rs → is_tagged_as p w (record_at rs i) ≡ true → is_tagged_as p w (record_at rs j) ≡ true → i ≡ j

-- records that can be searched from any of them on: they lie in the table one after the other, each behind the record of its body, and no tag stands twice
pub record Searchable (t cs : List ℕ) (n : ℕ) : Type 0 where
  pub laid : Laid t cs n
  pub behind : AfterParents (records_at t cs n)
  pub once : TagsOnce (records_at t cs n)
