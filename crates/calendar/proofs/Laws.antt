-- Dates and times by the pairs of their digits.
use Prim.Native.Nat.{ℕ, suc, ◌+◌, ◌*◌, ◌<◌}
use mathlib.Core.Bool.{true, ◌&&◌}
use mathlib.Core.List.{List, [], ◌∷◌}
use mathlib.Core.Path.{◌≡◌}
use native.Mathlib.Numerals.{add-one}
use native.Mathlib.Omega.{arith}
use borrow.Author.Tests.{eqb-true}
use lib.Dec.{eqb, leb}
use lib.ListN.{length, take, drop, drop_of_length-le}
use lib.Seq.{drop-cons}
use Rattle.classes.proofs.Bools.{both_true}
use Rattle.classes.specs.Lists.{every}
use Rattle.classes.specs.Bytes.{between, is_digit}
use Rattle.numbers.specs.Decimal.{number_of, read_digits}
use Rattle.calendar.specs.Calendar.{days_of, date_form, date_within, time_form, time_within, pair_at}

two : (w : List ℕ) (i : ℕ) → i + 1 < length w → number_of (take 2 (drop i w)) ≡ pair_at w i
unfolding read_digits
two w i h = rw (add-one, drop-cons w i 0 (omega arith), drop-cons w (suc i) 0 (omega arith)) (omega arith)

last : (w : List ℕ) (i : ℕ) → length w ≡ i + 2 → number_of (drop i w) ≡ pair_at w i
unfolding read_digits
last w i h =
    rw (
      add-one,
      drop-cons w i 0 (omega arith),
      drop-cons w (suc i) 0 (omega arith),
      drop_of_length-le w {i = suc (suc i)} (omega arith),
    )
    (omega arith)

four : (w : List ℕ) → 3 < length w → number_of (take 4 w) ≡ pair_at w 0 * 100 + pair_at w 2
unfolding read_digits
four [] h = absurd (omega arith)
four (a ∷ []) h = absurd (omega arith)
four (a ∷ b ∷ []) h = absurd (omega arith)
four (a ∷ b ∷ c ∷ []) h = absurd (omega arith)
four (a ∷ b ∷ c ∷ d ∷ w) h = omega arith

-- so many digits have that length
digits_long : (w : List ℕ) (n : ℕ) → eqb (length w) n && every is_digit w ≡ true → length w ≡ n
digits_long w n e = eqb-true (length w) n (both_true (eqb (length w) n) (every is_digit w) e).0

module _ (w : List ℕ) where
  pub date_parts : (y m d n : ℕ) → date_form w ≡ true → y ≡ pair_at w 0 * 100 + pair_at w 2 → m ≡ pair_at w 4 → d ≡ pair_at w 6 → n ≡ days_of y m → date_within w ≡ leb 1 y && (between 1 12 m && between 1 n d)
  unfolding date_form date_within
  date_parts y m d n f a b c e =
      let h = digits_long w 8 f in
      rw (e, a, b, c, four w (omega arith), two w 4 (omega arith), last w 6 h)

  pub time_parts : time_form w ≡ true → time_within w ≡ leb (pair_at w 0) 23 && (leb (pair_at w 2) 59 && leb (pair_at w 4) 59)
  unfolding time_form time_within
  time_parts f = let h = digits_long w 6 f in rw (two w 0 (omega arith), two w 2 (omega arith), last w 4 h)
