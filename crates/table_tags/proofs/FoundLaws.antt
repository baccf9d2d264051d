-- What the code's search says.
use mathlib.Core.Path.{◌≡◌, sym, ap, ◌∙◌}
use Prim.Native.Nat.{ℕ}
use Rattle.std.specs.Prelude.{Option, Some, None}
use Rattle.reading_rules.specs.Schema.{nowhere, found}
use Rattle.reading_rules.specs.Schema as schema
use Rattle.table_tags.specs.Search.{found_of}

pub found_at : (r : Option ℕ) (q : ℕ) (g : schema.Found) → r ≡ Some q → found_of r ≡ g → g ≡ found q
found_at r q g e h = sym h ∙ ap found_of e

pub found_none : (r : Option ℕ) (g : schema.Found) → r ≡ None → found_of r ≡ g → g ≡ nowhere
found_none r g e h = sym h ∙ ap found_of e
