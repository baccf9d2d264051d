-- The classes of bytes that 01 names.
use Rattle.std.specs.Prelude.{Bool, not, ◌&&◌, ◌||◌, List, ℕ, ◌<◌, eqb, leb, get_or}

abbrev pub Byte : ℕ → Type 0
Byte b = b < 256

-- a row of bytes: each number in it is under 256
abbrev pub IsBytes : List ℕ → Type 0
IsBytes l = (i : ℕ) → get_or l i 0 < 256

-- from low to high, both included
abbrev pub between : ℕ → ℕ → ℕ → Bool
between low high n = leb low n && leb n high

-- ---- both languages

-- "Blanks are space, tab, CR, LF."
unfoldable pub is_blank : ℕ → Bool
is_blank b = eqb b 32 || (eqb b 9 || (eqb b 13 || eqb b 10))

-- "digits"
unfoldable pub is_digit : ℕ → Bool
is_digit b = between 48 57 b

-- "letters", of both cases
unfoldable pub is_letter : ℕ → Bool
is_letter b = between 97 122 b || between 65 90 b

-- ---- the definition's text

-- "A run is the longest row of letters, digits, `-`, `_`, `.`, `*`."
unfoldable pub is_run_byte : ℕ → Bool
unfolding is_letter is_digit
is_run_byte b = is_letter b || (is_digit b || (eqb b 45 || (eqb b 95 || (eqb b 46 || eqb b 42))))

-- "Other tokens are the single bytes `< > [ ] { } ; ?`."
unfoldable pub is_mark : ℕ → Bool
is_mark b = eqb b 60 || (eqb b 62 || (eqb b 91 || (eqb b 93 || (eqb b 123 || (eqb b 125 || (eqb b 59 || eqb b 63))))))

-- "A name: a letter, then letters, digits, `-`, `_`"
unfoldable pub is_name_byte : ℕ → Bool
unfolding is_letter is_digit
is_name_byte b = is_letter b || (is_digit b || (eqb b 45 || eqb b 95))

-- "A tag: 1 to 63 letters, digits, `-`, `_`, `.`."
unfoldable pub is_tag_byte : ℕ → Bool
unfolding is_name_byte
is_tag_byte b = is_name_byte b || eqb b 46

-- ---- a message

-- "a word (longest row of 0x21 to 0x7E without `= , " ' { } ( ) ?`)"
unfoldable pub is_word_byte : ℕ → Bool
is_word_byte b = between 0x21 0x7E b && not (eqb b 61 || (eqb b 44 || (eqb b 34 || (eqb b 39 || (eqb b 123 || (eqb b 125 || (eqb b 40 || (eqb b 41 || eqb b 63))))))))

-- a byte that number 22 passes over: a blank, a word's byte, `=` or `,`
unfoldable pub is_plain : ℕ → Bool
is_plain b = is_blank b || (is_word_byte b || (eqb b 61 || eqb b 44))

-- "a string (`"`, bytes 0x20 to 0x7E but `"`, `"`)"
unfoldable pub is_string_byte : ℕ → Bool
is_string_byte b = between 0x20 0x7E b && not (eqb b 34)

abbrev pub is_quote : ℕ → Bool
is_quote b = eqb b 34
