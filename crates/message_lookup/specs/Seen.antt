-- The fields that have appeared in a body, as marks, and what is still required.
use Rattle.std.specs.Prelude.{◌≡◌, Bool, true, false, not, ◌&&◌, ◌||◌, List, [], ◌∷◌, ℕ, suc, eqb, length, get_or, replicate}
use Rattle.numbers.specs.Limits.{parameter_limit}
use Rattle.reading_rules.specs.Record.{Record}
use Rattle.reading_rules.specs.Schema.{is_tagged_of}
use Rattle.reading_rules.specs.Count.{has}

-- the marks of the fields ks
pub record Marks (seen : List Bool) (ks : List ℕ) : Type 0 where
  pub size : length seen ≡ parameter_limit
  pub marked : (k : ℕ) → get_or seen k false ≡ has ks k

unfoldable pub no_marks : List Bool
no_marks = replicate parameter_limit false

-- "A field .. that isn't directly in an extension, isn't plugin and has lo over 0 must appear"
abbrev pub is_required_of : ℕ → Record → Bool
is_required_of p r = is_tagged_of p r && not ((r.extension || r.plugin) || eqb r.lo_count 0)

-- the record i of p's body must appear and has no mark
abbrev pub is_missing : ℕ → List Bool → ℕ → Record → Bool
is_missing p seen i r = is_required_of p r && not (get_or seen i false)

-- nothing is missing among the records from i on
unfoldable pub complete_from : ℕ → List Bool → ℕ → List Record → Bool
complete_from p seen i [] = true
complete_from p seen i (r ∷ rs) = not (is_missing p seen i r) && complete_from p seen (suc i) rs
