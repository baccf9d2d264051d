-- Declarations with places in the text where the definitions have numbers of tokens.
use Rattle.std.specs.Prelude.{List, [], ◌∷◌, ℕ}
use Rattle.definition_rules.specs.Scan.{items_of}
use Rattle.definition_rules.specs.Declarations.{Spots, Noted, noted}
use Rattle.definition_rules.specs.Compile.{token_place}

unfoldable pub placed_spots : (ℕ → ℕ) → Spots → Spots
placed_spots f s = record { type_at = f s.type_at; range_at = f s.range_at; name_at = f s.name_at; card_at = f s.card_at; tag_at = f s.tag_at }

unfoldable pub placed_noted : (ℕ → ℕ) → Noted → Noted
placed_noted f (noted s d) = noted (placed_spots f s) d

unfoldable pub placed_by : (ℕ → ℕ) → List Noted → List Noted
placed_by f [] = []
placed_by f (n ∷ ns) = placed_noted f n ∷ placed_by f ns

-- each spot of a declaration is its token's place
abbrev pub placed : List ℕ → List Noted → List Noted
placed text ns = placed_by (token_place text (items_of text)) ns
