-- The lines that answer frames.
use Rattle.std.specs.Prelude.{Bool, true, false, List, [], ◌∷◌, ◌++◌, ℕ, ◌*◌, take}
use Rattle.numbers.specs.Limits.{row_width}
use Rattle.test_frames.specs.Lent.{kept_from}
use Rattle.text.specs.Text.{each, hex_byte, spaced}

-- " kept" or " touched", and the line's end
unfoldable pub kept_text : Bool → List ℕ
kept_text true = 32 ∷ 107 ∷ 101 ∷ 112 ∷ 116 ∷ 10 ∷ []
kept_text false = 32 ∷ 116 ∷ 111 ∷ 117 ∷ 99 ∷ 104 ∷ 101 ∷ 100 ∷ 10 ∷ []

-- "ok"
unfoldable pub ok_text : List ℕ
ok_text = 111 ∷ 107 ∷ []

-- "refused", the number and the place
unfoldable pub refused_text : ℕ → ℕ → List ℕ
refused_text number place = (114 ∷ 101 ∷ 102 ∷ 117 ∷ 115 ∷ 101 ∷ 100 ∷ []) ++ spaced number ++ spaced place

-- "ok LENGTH HEX kept"
unfoldable pub table_line : ℕ → List ℕ → List ℕ
table_line length lent =
    ok_text ++ spaced length ++ (32 ∷ []) ++ each hex_byte (take length lent) ++ kept_text (kept_from 0xA5 lent length)

-- "ok COUNT n n n n n .. kept"
unfoldable pub rows_line : ℕ → List ℕ → List ℕ
rows_line count lent =
    ok_text ++ spaced count ++ each spaced (take (row_width * count) lent) ++ kept_text (kept_from 0xA5A5A5A5 lent (row_width * count))

-- "refused NUMBER PLACE kept", where the lent numbers were each of some value
unfoldable pub refused_line : ℕ → ℕ → ℕ → List ℕ → List ℕ
refused_line before number place lent = refused_text number place ++ kept_text (kept_from before lent 0)

-- "yes" or "no"
unfoldable pub yes_line : Bool → List ℕ
yes_line true = 121 ∷ 101 ∷ 115 ∷ 10 ∷ []
yes_line false = 110 ∷ 111 ∷ 10 ∷ []

-- "bytes HEX", or "bytes" alone
unfoldable pub bytes_line : List ℕ → List ℕ
bytes_line [] = 98 ∷ 121 ∷ 116 ∷ 101 ∷ 115 ∷ 10 ∷ []
bytes_line (b ∷ l) = (98 ∷ 121 ∷ 116 ∷ 101 ∷ 115 ∷ 32 ∷ []) ++ each hex_byte (b ∷ l) ++ (10 ∷ [])
