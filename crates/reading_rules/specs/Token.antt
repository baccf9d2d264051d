-- The tokens of a message. They carry their text and no place.
use Rattle.std.specs.Prelude.{Bool, true, false, List, [], ◌∷◌, ℕ}
use Rattle.classes.specs.Bytes.{is_word_byte, is_string_byte}
use Rattle.classes.specs.Lists.{every}

-- "a word .., a string (`"`, bytes .., `"`), and `= , { }`": a string's text is what stands between its quotes
pub data Token : Type 0 where
  word : List ℕ → Token
  string : List ℕ → Token
  equals comma opening closing : Token

-- the bytes can be those of such a token
unfoldable pub is_token : Token → Bool
is_token (word []) = false
is_token (word (b ∷ l)) = every is_word_byte (b ∷ l)
is_token (string l) = every is_string_byte l
is_token equals = true
is_token comma = true
is_token opening = true
is_token closing = true

-- a word or a string: what a simple value can be
unfoldable pub is_text : Token → Bool
is_text (word w) = true
is_text (string w) = true
is_text equals = false
is_text comma = false
is_text opening = false
is_text closing = false
