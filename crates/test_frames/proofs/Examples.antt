-- Worked cases.
use mathlib.Core.List.{List, [], ◌∷◌}
use mathlib.Core.Path.{◌≡◌, refl}
use Prim.Native.Nat.{ℕ}
use Rattle.test_frames.specs.declared.Front.TheVariants.{Part, Long, Whole}
use Rattle.test_frames.specs.Frame.{frame_head, front_by}
use Rattle.classes.specs.Lists.{every}
use Rattle.text.specs.Text.{each, hex_byte, places_from, decimal, spaced}
use Rattle.test_frames.specs.Lines.{kept_text, ok_text, refused_text, table_line, rows_line, refused_line, bytes_line}

-- "ok 2 1aff kept", with a lent byte behind the table
table_kept : table_line 2 (0x1A ∷ 0xFF ∷ 0xA5 ∷ []) ≡ 111 ∷ 107 ∷ 32 ∷ 50 ∷ 32 ∷ 49 ∷ 97 ∷ 102 ∷ 102 ∷ 32 ∷ 107 ∷ 101 ∷ 112 ∷ 116 ∷ 10 ∷ []
unfolding table_line ok_text spaced decimal places_from each hex_byte kept_text every
table_kept = refl

-- "ok 1 0 7 0 3 1 touched", where a number behind the row is changed
rows_touched : rows_line 1 (0 ∷ 7 ∷ 0 ∷ 3 ∷ 1 ∷ 0xA5A5A5A4 ∷ [])
    ≡ 111 ∷ 107 ∷ 32 ∷ 49 ∷ 32 ∷ 48 ∷ 32 ∷ 55 ∷ 32 ∷ 48 ∷ 32 ∷ 51 ∷ 32 ∷ 49 ∷ 32 ∷ 116 ∷ 111 ∷ 117 ∷ 99 ∷ 104 ∷ 101 ∷ 100 ∷ 10 ∷ []
unfolding rows_line ok_text spaced decimal places_from each kept_text every
rows_touched = refl

-- "refused 11 156 kept"
refused_kept : refused_line 0xA5 11 156 (0xA5 ∷ [])
    ≡ 114 ∷ 101 ∷ 102 ∷ 117 ∷ 115 ∷ 101 ∷ 100 ∷ 32 ∷ 49 ∷ 49 ∷ 32 ∷ 49 ∷ 53 ∷ 54 ∷ 32 ∷ 107 ∷ 101 ∷ 112 ∷ 116 ∷ 10 ∷ []
unfolding refused_line refused_text spaced decimal places_from kept_text every
refused_kept = refl

-- "bytes 62"
some_bytes : bytes_line (98 ∷ []) ≡ 98 ∷ 121 ∷ 116 ∷ 101 ∷ 115 ∷ 32 ∷ 54 ∷ 50 ∷ 10 ∷ []
unfolding bytes_line each hex_byte
some_bytes = refl

-- a frame of kind 3 with two bytes: cut, whole, and with a room of 100,001
cut : List ℕ
cut = 3 ∷ 0 ∷ 0 ∷ 0 ∷ 0 ∷ 2 ∷ 0 ∷ 0 ∷ 0 ∷ 0 ∷ 0 ∷ 0 ∷ 0 ∷ 97 ∷ []

whole : List ℕ
whole = 3 ∷ 0 ∷ 0 ∷ 0 ∷ 0 ∷ 2 ∷ 0 ∷ 0 ∷ 0 ∷ 0 ∷ 0 ∷ 0 ∷ 0 ∷ 97 ∷ 98 ∷ []

long : List ℕ
long = 3 ∷ 0xA1 ∷ 0x86 ∷ 1 ∷ 0 ∷ 2 ∷ 0 ∷ 0 ∷ 0 ∷ 0 ∷ 0 ∷ 0 ∷ 0 ∷ 97 ∷ []

fronts : (front_by cut (frame_head cut) ≡ Part)
    × (front_by whole (frame_head whole) ≡ Whole (record { kind = 3; room = 0; a = 2; b = 0 }))
    × (front_by long (frame_head long) ≡ Long 15)
unfolding front_by frame_head cut whole long
fronts = (refl, refl, refl)
