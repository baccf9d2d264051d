-- The pieces of a line, as the code finds them.
use Prim.Native.Nat.{ℕ, ◌*◌, ◌≤◌, min}
use mathlib.Core.Bool.{Bool}
use mathlib.Core.List.{List, [], ◌∷◌, ◌++◌}
use mathlib.Core.Path.{◌≡◌, refl, sym, ◌∙◌}
use native.Mathlib.Decide.{dec_le}
use native.Mathlib.Nat.{sub-zero}
use native.Mathlib.Omega.{arith}
use lib.ListN.{length, take, drop, drop_of_length-le}
use lib.Seq.{take_all}
use Rattle.numbers.specs.Limits.{row_width}
use Rattle.test_frames.specs.Lent.{kept_from}
use Rattle.classes.specs.Lists.{part}
use Rattle.text.specs.Text.{Added, each, hex_byte, spaced}
use Rattle.text.specs.declared.Page.{Page}
use Rattle.test_frames.specs.Lines.{kept_text, ok_text, refused_text, table_line, rows_line, refused_line, bytes_line}

module _ {p q : Page} where
  pub table_line_lem : (n : ℕ) (lent taken : List ℕ) (kept : Bool) → taken ≡ part lent 0 n → kept ≡ kept_from 0xA5 lent n
      → Added (ok_text ++ spaced n ++ (32 ∷ []) ++ each hex_byte taken ++ kept_text kept) p q → Added (table_line n lent) p q
  unfolding table_line
  table_line_lem n lent taken kept e k u = rw (e, sub-zero, k) at u

  pub refused_line_lem : (before number place : ℕ) (lent : List ℕ) (kept : Bool) → kept ≡ kept_from before lent 0
      → Added (refused_text number place ++ kept_text kept) p q → Added (refused_line before number place lent) p q
  unfolding refused_line
  refused_line_lem before number place lent kept k u = rw k at u

take_least : (n : ℕ) (l : List ℕ) → Dec (n ≤ length l) → take (min n (length l)) l ≡ take n l
take_least n l (yes h) = let e : min n (length l) ≡ n = omega arith in rw e
take_least n l (no h) =
    let e : min n (length l) ≡ length l = omega (arith, h) in
    rw e (take_all (length l) l (omega arith) ∙ sym (take_all n l (omega (arith, h))))

drop_least : (n : ℕ) (l : List ℕ) → Dec (n ≤ length l) → drop (min n (length l)) l ≡ drop n l
drop_least n l (yes h) = let e : min n (length l) ≡ n = omega arith in rw e
drop_least n l (no h) =
    let e : min n (length l) ≡ length l = omega (arith, h) in
    rw e (drop_of_length-le l {i = length l} (omega arith) ∙ sym (drop_of_length-le l {i = n} (omega (arith, h))))

pub rows_line_lem : {p q : Page} (count n : ℕ) (lent : List ℕ) (kept : Bool) → n ≡ min (row_width * count) (length lent) → kept ≡ kept_from 0xA5A5A5A5 lent n
    → Added (ok_text ++ spaced count ++ each spaced (take n lent) ++ kept_text kept) p q → Added (rows_line count lent) p q
unfolding rows_line
rows_line_lem count n lent kept e k u =
    let d = dec_le (row_width * count) (length lent) in
    rw (k, e, take_least (row_width * count) lent d, drop_least (row_width * count) lent d) at u

pub bytes_line_lem : {p q : Page} (l : List ℕ) → (length l ≡ 0 → ⊥)
    → Added ((98 ∷ 121 ∷ 116 ∷ 101 ∷ 115 ∷ 32 ∷ []) ++ each hex_byte l ++ (10 ∷ [])) p q → Added (bytes_line l) p q
unfolding bytes_line
bytes_line_lem [] h u = absurd (h refl)
bytes_line_lem (b ∷ l) h u = u

pub no_bytes : (l : List ℕ) → length l ≡ 0 → bytes_line l ≡ 98 ∷ 121 ∷ 116 ∷ 101 ∷ 115 ∷ 10 ∷ []
unfolding bytes_line
no_bytes [] h = refl
no_bytes (b ∷ l) h = absurd (omega arith)
