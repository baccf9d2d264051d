-- The compiler's checks of records alone.
use Rattle.std.specs.Prelude.{◌≡◌, Bool, true, false, ◌||◌, List, ℕ, Option, Some, None}
use Rattle.reading_rules.specs.Record.{Record}
use Rattle.definition_rules.specs.Faults.{void_many, rule7_broken, root_no_struct}
use Rattle.numbers.specs.Limits.{parameter_limit}
use Rattle.table_rules.specs.RecordRules.{table_rules}
use Rattle.table_tags.specs.Search.{Searchable}
use Rattle.table_walk.specs.Walked.{RecordsCounted}

-- what the compiler asks of the i-th record, r, but for its tag and its values
unfoldable pub is_broken : List Record → ℕ → Record → Bool
is_broken rs i r = root_no_struct i r || (void_many i r || rule7_broken rs i r)

-- a table that keeps the rules, and its records, which can be searched
pub record Fine (t cs : List ℕ) (n : ℕ) : Type 0 where
  pub kept : table_rules parameter_limit t ≡ true
  pub counted : RecordsCounted t cs n
  pub searchable : Searchable t cs n

-- what the check of a table says
unfoldable pub Checked : List ℕ → List ℕ → Option ℕ → Type 0
Checked t cs (Some n) = Fine t cs n
Checked t cs None = table_rules parameter_limit t ≡ false
