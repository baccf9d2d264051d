-- The least of some places, if there is any.
use Rattle.std.specs.Prelude.{Bool, List, [], ◌∷◌, ℕ, zero, suc, min, Option, Some, None}
use Rattle.classes.specs.Lists.{pick}
use Rattle.definition_rules.specs.Compile.{least_of}
use Rattle.definition_rules.specs.Declarations.{Declaration, Spots, Noted, noted}

-- "at its smallest place"
unfoldable pub least_place : List ℕ → Option ℕ
least_place [] = None
least_place (p ∷ r) = Some (least_of p r)

unfoldable pub lesser : Option ℕ → Option ℕ → Option ℕ
lesser None y = y
lesser (Some p) None = Some p
lesser (Some p) (Some q) = Some (min p q)

abbrev pub at_if : Bool → ℕ → Option ℕ
at_if hit at = pick hit (Some at) None

-- the least of f i, f (i + 1) .., n of them
unfoldable pub least_from : (ℕ → Option ℕ) → ℕ → ℕ → Option ℕ
least_from f zero i = None
least_from f (suc n) i = lesser (f i) (least_from f n (suc i))

-- the place of a declaration that fails a test
unfoldable pub spot_of : (Declaration → Bool) → (Spots → ℕ) → Noted → Option ℕ
spot_of f at (noted s d) = at_if (f d) (at s)
