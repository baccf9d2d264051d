-- Keys of the tags, and marks for those that were met.
use Rattle.std.specs.Prelude.{◌≡◌, Bool, true, false, List, [], ◌∷◌, ℕ, ◌+◌, ◌*◌, ◌%◌, ◌<◌, length, get_or}
use Rattle.numbers.specs.Limits.{parameter_limit}
use Rattle.reading_rules.specs.Record.{Record}
use Rattle.definition_rules.specs.Table.{up_number}
use Rattle.table_records.specs.Stored.{record_in}

-- how many marks there are
abbrev pub tag_marks : ℕ
tag_marks = 4 * parameter_limit

-- how far apart a byte more or less sets two keys
abbrev pub key_spread : ℕ
key_spread = 37

-- the key of a label in the body of p, the number of its mark: each byte of the label changes it
unfoldable pub key_from : ℕ → List ℕ → ℕ
key_from k [] = k
key_from k (b ∷ w) = key_from ((key_spread * k + b) % tag_marks) w

abbrev pub tag_key : ℕ → List ℕ → ℕ
tag_key p w = key_from (p % tag_marks) w

abbrev pub key_in : Record → ℕ
key_in r = tag_key (up_number r.parent) r.label

-- the keys of the records before the i-th are marked
pub record MarkedBefore (t cs : List ℕ) (i : ℕ) (marks : List Bool) : Type 0 where
  pub size : length marks ≡ tag_marks
  pub marked : (j : ℕ) → j < i → get_or marks (key_in (record_in t cs j)) false ≡ true
