-- The items of a text without its gaps, from a place on.
use Rattle.std.specs.Prelude.{List, [], ◌∷◌, ℕ, ◌≤◌, drop}
use Rattle.definition_rules.specs.Scan.{Item, gap, item, bad, outside, scan}

unfoldable pub live : List Item → List Item
live [] = []
live (gap ∷ r) = live r
live (bad p ∷ r) = bad p ∷ live r
live (item p t ∷ r) = item p t ∷ live r

-- from a place that is inside no comment
abbrev pub live_from : List ℕ → ℕ → List Item
live_from text at = live (scan outside at (drop at text))

-- all their places are k or more
unfoldable pub Ahead : ℕ → List Item → Type 0
Ahead k [] = Unit {0}
Ahead k (gap ∷ r) = Ahead k r
Ahead k (bad p ∷ r) = (k ≤ p) × Ahead k r
Ahead k (item p t ∷ r) = (k ≤ p) × Ahead k r
