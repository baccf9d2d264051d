-- How great a number of many digits is, at least.
use mathlib.Core.Path.{◌≡◌, refl}
use mathlib.Core.Bool.{Bool, true, false, ◌&&◌}
use mathlib.Core.List.{List, [], ◌∷◌}
use Prim.Native.Nat.{ℕ, zero, suc, ◌+◌, ◌-◌, ◌*◌, ◌≤◌, ◌<◌}
use native.Mathlib.Omega.{arith}
use lib.Dec.{leb, ltb}
use lib.ListN.{length}
use borrow.Author.Tests.{lt-leb, ltb-true}
use Rattle.classes.proofs.Bools.{both_true, and_off}
use Rattle.classes.specs.Bytes.{between}
use Rattle.numbers.specs.Limits.{bias, int_most}
use Rattle.numbers.specs.Decimal.{read_digits, number_of, is_natural, is_minus, is_int, int_within}

digits_more : (l : List ℕ) (a b : ℕ) → a ≤ b → read_digits a l ≤ read_digits b l
unfolding read_digits
digits_more [] a b h = h
digits_more (c ∷ l) a b h = digits_more l (a * 10 + (c - 48)) (b * 10 + (c - 48)) (omega arith)

digits_grow : (l : List ℕ) (a b : ℕ) → a ≤ b → a ≤ read_digits b l
unfolding read_digits
digits_grow [] a b h = h
digits_grow (c ∷ l) a b h = digits_grow l a (b * 10 + (c - 48)) (omega arith)

-- a with n zeros behind it
shifted : ℕ → ℕ → ℕ
shifted zero a = a
shifted (suc n) a = shifted n (a * 10)

still_less : (a b c : ℕ) → a ≤ b → b ≤ c → a ≤ c
still_less a b c h k = omega arith

digits_shift : (n : ℕ) (l : List ℕ) (a : ℕ) → n ≤ length l → shifted n a ≤ read_digits a l
unfolding read_digits shifted
digits_shift zero l a h = digits_grow l a a (omega arith)
digits_shift (suc n) [] a h = absurd (omega arith)
digits_shift (suc n) (c ∷ l) a h =
    still_less (shifted n (a * 10)) (read_digits (a * 10) l) (read_digits (a * 10 + (c - 48)) l)
    (digits_shift n l (a * 10) (omega arith))
    (digits_more l (a * 10) (a * 10 + (c - 48)) (omega arith))

ten_zeros : (a : ℕ) → 1 ≤ a → 10_000_000_000 ≤ shifted 10 a
unfolding shifted
ten_zeros a h = let g : 10_000_000_000 ≤ a * 10 * 10 * 10 * 10 * 10 * 10 * 10 * 10 * 10 * 10 = omega arith in g

-- eleven digits without leading zero write more than any range has
eleven_digits : (l : List ℕ) → is_natural l ≡ true → 11 ≤ length l → 10_000_000_000 ≤ number_of l
unfolding is_natural read_digits
eleven_digits [] e h = absurd (omega arith)
eleven_digits (b ∷ []) e h = absurd (omega arith)
eleven_digits (b ∷ c ∷ l) e h =
    let k = ltb-true 48 b (both_true (ltb 48 b) _ e).0 in
    still_less 10_000_000_000 (shifted 10 (0 * 10 + (b - 48))) (read_digits (0 * 10 + (b - 48)) (c ∷ l))
    (ten_zeros (0 * 10 + (b - 48)) (omega arith))
    (digits_shift 10 (c ∷ l) (0 * 10 + (b - 48)) (omega arith))

-- and so an int of so many is in none
pub past_every_range : (least most : ℕ) (w : List ℕ) → most ≤ int_most → is_int w ≡ true → 11 < length w → int_within least most w ≡ false
unfolding is_int int_within
past_every_range least most [] m e h = refl
past_every_range least most (b ∷ l) m e h = go (is_minus b) e
  where
    go : (s : Bool) → elim s [ true ↦ is_natural l && ltb 0 (number_of l) | false ↦ is_natural (b ∷ l) ] ≡ true
        → elim s [ true ↦ leb (number_of l) bias && between least most (bias - number_of l) | false ↦ between least most (bias + number_of (b ∷ l)) ] ≡ false
    go true q =
        let g = eleven_digits l (both_true (is_natural l) _ q).0 (omega arith) in
        rw (lt-leb (number_of l) bias (omega arith))
    go false q = let g = eleven_digits (b ∷ l) q (omega arith) in rw (lt-leb (bias + number_of (b ∷ l)) most (omega arith)) (and_off (leb least (bias + number_of (b ∷ l))))
