-- Worked cases.
use mathlib.Core.List.{[], ◌∷◌}
use mathlib.Core.Path.{◌≡◌, refl}
use Rattle.text.specs.Text.{places_from, decimal, hex_byte}

-- "0", "4294967295"
zero_text : decimal 0 ≡ 48 ∷ []
unfolding decimal places_from
zero_text = refl

most_text : decimal 4294967295 ≡ 52 ∷ 50 ∷ 57 ∷ 52 ∷ 57 ∷ 54 ∷ 55 ∷ 50 ∷ 57 ∷ 53 ∷ []
unfolding decimal places_from
most_text = refl

-- "0a"
hex_text : hex_byte 10 ≡ 48 ∷ 97 ∷ []
unfolding hex_byte
hex_text = refl
