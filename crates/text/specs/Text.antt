-- Text that is written into a row of bytes at a place.
use Rattle.std.specs.Prelude.{cond, List, [], ◌∷◌, ◌++◌, ◌≡◌, ℕ, zero, suc, ◌+◌, ◌/◌, ◌%◌, ◌^◌, min, max, ltb, length}
use Rattle.std.proofs.lemmas.List.Edits.{sets}
use Rattle.io.specs.Digits.{hex_digit_ascii, last_digits}
use Rattle.text.specs.declared.Page.{Page}

-- what lies past the end is dropped; the next place is behind the text, or the end
pub record Wrote (text before : List ℕ) (at : ℕ) (after : List ℕ) (next : ℕ) : Type 0 where
  pub bytes : after ≡ sets before at text
  pub place : next ≡ max at (min (length before) (at + length text))

-- the same of a page, which keeps the bytes that it was lent
pub record Added (text : List ℕ) (before after : Page) : Type 0 where
  pub wrote : Wrote text before.out.now before.at after.out.now after.at
  pub same : after.out.ghost_name ≡ before.out.ghost_name

-- the texts of some numbers, one behind the other
unfoldable pub each : (ℕ → List ℕ) → List ℕ → List ℕ
each f [] = []
each f (n ∷ l) = f n ++ each f l

-- two lowercase digits
unfoldable pub hex_byte : ℕ → List ℕ
hex_byte b = hex_digit_ascii (b / 16) ∷ hex_digit_ascii (b % 16) ∷ []

-- the least k from some k on with n below 10 ^ k, after some steps at most
unfoldable pub places_from : ℕ → ℕ → ℕ → ℕ
places_from zero k n = k
places_from (suc steps) k n = cond (ltb n (10 ^ k)) k (places_from steps (suc k) n)

-- a number of 64 bits in as many digits as it takes
unfoldable pub decimal : ℕ → List ℕ
decimal n = last_digits 10 (places_from 20 1 n) n

-- a space and the number
unfoldable pub spaced : ℕ → List ℕ
spaced n = 32 ∷ decimal n
