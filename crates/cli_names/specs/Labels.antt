-- A field's name beside its tag.
use Rattle.std.specs.Prelude.{cond, List, [], ◌∷◌, ◌++◌, ℕ}
use Rattle.classes.specs.Lists.{same_bytes}

-- "depth (d)", or the label alone where it is the name; 40 and 41 are ( and )
unfoldable pub shown_label : List ℕ → List ℕ → List ℕ
shown_label name label = cond (same_bytes name label) label (name ++ (32 ∷ 40 ∷ []) ++ label ++ 41 ∷ [])
