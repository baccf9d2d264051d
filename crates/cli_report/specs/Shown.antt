-- The lines of a refusal.
use Rattle.std.specs.Prelude.{Bool, true, false, ◌||◌, cond, List, [], ◌∷◌, ◌++◌, ℕ, ◌+◌, ◌-◌, min, max, eqb, ltb, length}
use Rattle.classes.specs.Bytes.{between}
use Rattle.classes.specs.Lists.{part}
use Rattle.text.specs.Text.{each, decimal, spaced}
use Rattle.cli_places.specs.Lines.{line_of, line_start, line_end, column_of, text_end}
use Rattle.cli_wording.specs.Sayings.{bytes, meaning_line}

-- a byte as it is shown: a tab as it is, a line's end as a space, what is no character as a question mark
unfoldable pub shown_byte : ℕ → ℕ
shown_byte b = cond (eqb b 9) 9 (cond (eqb b 10 || eqb b 13) 32 (cond (between 32 126 b) b 63))

-- a blank as wide as the byte is shown
unfoldable pub blank_for : ℕ → ℕ
blank_for b = cond (eqb b 9) 9 32

abbrev pub shown_text : List ℕ → List ℕ
shown_text s = each (λ b. shown_byte b ∷ []) s

abbrev pub blanks_for : List ℕ → List ℕ
blanks_for s = each (λ b. blank_for b ∷ []) s

-- of a long line 78 bytes are shown, and no more than 60 of them stand before the place
unfoldable pub view_start : List ℕ → ℕ → ℕ
view_start s p = max (line_start s p) (p - 60)

unfoldable pub view_end : List ℕ → ℕ → ℕ
view_end s p = min (line_end s p) (view_start s p + 78)

-- the place's mark, with a word where the text ends
unfoldable pub mark_text : Bool → List ℕ
mark_text last = cond last (bytes "^ the end\n") (bytes "^\n")

-- the line of a place, and under it the mark at the place
unfoldable pub view_text : List ℕ → ℕ → Bool → List ℕ
view_text s p last =
    shown_text (part s (view_start s p) (view_end s p))
    ++ bytes "\n"
    ++ blanks_for (part s (view_start s p) p)
    ++ mark_text last

-- "tile.msg:1:9: "
unfoldable pub where_text : List ℕ → List ℕ → ℕ → List ℕ
where_text file s p = file ++ bytes ":" ++ decimal (line_of s p) ++ bytes ":" ++ decimal (column_of s p) ++ bytes ": "

-- a refusal at a place of a text, at a byte of a table, and one that says how many bytes or rows are needed
unfoldable pub in_text : List ℕ → List ℕ → ℕ → ℕ → Bool → List ℕ
in_text file s number p last = where_text file s p ++ meaning_line number ++ view_text s p last

unfoldable pub in_table : List ℕ → ℕ → ℕ → List ℕ
in_table file number p = file ++ bytes ": byte " ++ decimal p ++ bytes ": " ++ meaning_line number

unfoldable pub needed_text : List ℕ → ℕ → ℕ → List ℕ
needed_text file number n = file ++ bytes ": " ++ decimal n ++ bytes " needed: " ++ meaning_line number

-- the lines of a refusal; the text's end, and any place past it, is shown behind the last byte that is no blank
unfoldable pub refusal_text : List ℕ → List ℕ → ℕ → ℕ → List ℕ
refusal_text file s number p =
    cond (eqb number 11 || eqb number 29) (needed_text file number p)
    (cond (eqb number 20) (in_table file number p)
    (cond (ltb p (length s)) (in_text file s number p false) (in_text file s number (text_end s) true)))

-- "tile.msg:1:26: unknown, passed over: tide"
unfoldable pub unknown_line : List ℕ → List ℕ → ℕ → List ℕ → List ℕ
unknown_line file s p word = where_text file s p ++ bytes "unknown, passed over: " ++ word ++ bytes "\n"

-- an int that is counted from the least i32
unfoldable pub int_text : ℕ → List ℕ
int_text n = cond (ltb n 0x80000000) (45 ∷ decimal (0x80000000 - n)) (decimal (n - 0x80000000))

-- "-180..180"
unfoldable pub bounds_text : ℕ → ℕ → List ℕ
bounds_text least most = int_text least ++ bytes ".." ++ int_text most

-- ---- rows

-- the five numbers of a row, bare
unfoldable pub numbers_text : ℕ → ℕ → ℕ → ℕ → ℕ → List ℕ
numbers_text parameter parent start end index = decimal parameter ++ spaced parent ++ spaced start ++ spaced end ++ spaced index ++ bytes "\n"
