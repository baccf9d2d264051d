-- "all numbers little-endian": u16, u32 and i32 as bytes.
use Rattle.std.specs.Prelude.{List, ◌∷◌, ℕ, ◌+◌, ◌-◌, ◌*◌, ◌/◌, ◌%◌, ltb, get_or, set}
use Rattle.classes.specs.Lists.{pick}
use Rattle.numbers.specs.Limits.{bias}

-- ---- in front of what follows

unfoldable pub put16 : ℕ → List ℕ → List ℕ
put16 n r = n % 256 ∷ n / 256 ∷ r

unfoldable pub put32 : ℕ → List ℕ → List ℕ
put32 n r = put16 (n % 65536) (put16 (n / 65536) r)

-- an i32 counted from the least, as the number of its four bytes (two's complement), and back
unfoldable pub signed : ℕ → ℕ
signed z = pick (ltb z bias) (z + bias) (z - bias)

-- ---- at a place in a row of bytes

abbrev pub le16 : List ℕ → ℕ → ℕ
le16 s at = get_or s at 0 + 256 * get_or s (at + 1) 0

abbrev pub le32 : List ℕ → ℕ → ℕ
le32 s at = le16 s at + 65536 * le16 s (at + 2)

-- an i32, counted from the least
abbrev pub le_int : List ℕ → ℕ → ℕ
le_int s at = signed (le32 s at)

abbrev pub set16 : List ℕ → ℕ → ℕ → List ℕ
set16 d at v = set (set d at (v % 256)) (at + 1) (v / 256)

abbrev pub set32 : List ℕ → ℕ → ℕ → List ℕ
set32 d at v = set16 (set16 d at (v % 65536)) (at + 2) (v / 65536)

abbrev pub set_int : List ℕ → ℕ → ℕ → List ℕ
set_int d at v = set32 d at (signed v)
