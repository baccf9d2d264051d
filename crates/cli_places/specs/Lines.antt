-- Lines and columns of a place in a text.
use Rattle.std.specs.Prelude.{Bool, not, cond, List, ℕ, zero, suc, ◌+◌, ◌-◌, ◌≤◌, ◌<◌, ◌^◌, eqb, length, get_or, drop}
use Rattle.classes.specs.Bytes.{is_blank}
use Rattle.classes.specs.Lists.{run_of}

-- a place in a text, or its end; the text is one that numbers of 64 bits can count
abbrev pub InText : List ℕ → ℕ → Type 0
InText s p = (p ≤ length s) × (length s < 2 ^ 32)

-- 1 for the byte that ends a line
abbrev pub break_of : ℕ → ℕ
break_of b = cond (eqb b 10) 1 0

-- how many of the bytes before a place end a line
unfoldable pub breaks_before : List ℕ → ℕ → ℕ
breaks_before s zero = 0
breaks_before s (suc p) = breaks_before s p + break_of (get_or s p 0)

-- the line, counted from 1
abbrev pub line_of : List ℕ → ℕ → ℕ
line_of s p = 1 + breaks_before s p

-- where the line begins: behind the last line's end before the place, or at 0
unfoldable pub line_start : List ℕ → ℕ → ℕ
line_start s zero = 0
line_start s (suc p) = cond (eqb (get_or s p 0) 10) (suc p) (line_start s p)

abbrev pub not_break : ℕ → Bool
not_break b = not (eqb b 10)

-- where the line ends: at the first line feed from the place on, or at the text's end
unfoldable pub line_end : List ℕ → ℕ → ℕ
line_end s p = p + run_of not_break (drop p s)

-- the column, counted from 1
abbrev pub column_of : List ℕ → ℕ → ℕ
column_of s p = p - line_start s p + 1

-- where the bytes before a place end without the blanks that stand last
unfoldable pub blanks_off : List ℕ → ℕ → ℕ
blanks_off s zero = 0
blanks_off s (suc p) = cond (is_blank (get_or s p 0)) (blanks_off s p) (suc p)

abbrev pub text_end : List ℕ → ℕ
text_end s = blanks_off s (length s)
