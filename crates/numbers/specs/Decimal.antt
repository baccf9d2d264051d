-- Decimal words, of any number of digits.
use Rattle.std.specs.Prelude.{Bool, true, false, ◌&&◌, List, [], ◌∷◌, ℕ, ◌+◌, ◌-◌, ◌*◌, eqb, leb, ltb}
use Rattle.classes.specs.Lists.{every}
use Rattle.classes.specs.Bytes.{between, is_digit}
use Rattle.numbers.specs.Limits.{bias}

-- the number that digits write, after a
unfoldable pub read_digits : ℕ → List ℕ → ℕ
read_digits a [] = a
read_digits a (b ∷ l) = read_digits (a * 10 + (b - 48)) l

abbrev pub number_of : List ℕ → ℕ
number_of l = read_digits 0 l

-- "one or more digits"
unfoldable pub is_digits : List ℕ → Bool
is_digits [] = false
is_digits (b ∷ l) = every is_digit (b ∷ l)

-- "digits without leading zero": 0 itself has none
unfoldable pub is_natural : List ℕ → Bool
is_natural [] = false
is_natural (b ∷ []) = is_digit b
is_natural (b ∷ c ∷ l) = ltb 48 b && every is_digit (b ∷ c ∷ l)

abbrev pub is_minus : ℕ → Bool
is_minus b = eqb b 45

-- "an optional `-` and one or more digits"
unfoldable pub is_int_like : List ℕ → Bool
is_int_like [] = false
is_int_like (b ∷ l) = elim (is_minus b) [ true ↦ is_digits l | false ↦ is_digits (b ∷ l) ]

-- "Int: a word, digits without leading zero, `-` before all but 0."
unfoldable pub is_int : List ℕ → Bool
is_int [] = false
is_int (b ∷ l) = elim (is_minus b) [ true ↦ is_natural l && ltb 0 (number_of l) | false ↦ is_natural (b ∷ l) ]

-- the int lies from least to most, both counted from the least i32
unfoldable pub int_within : ℕ → ℕ → List ℕ → Bool
int_within least most [] = false
int_within least most (b ∷ l) = elim (is_minus b) [
  | true ↦ leb (number_of l) bias && between least most (bias - number_of l)
  | false ↦ between least most (bias + number_of (b ∷ l))
]

-- the int's number, counted from the least i32, where it is one
unfoldable pub biased_int : List ℕ → ℕ
biased_int [] = 0
biased_int (b ∷ l) = elim (is_minus b) [ true ↦ bias - number_of l | false ↦ bias + number_of (b ∷ l) ]

-- where the code's sums stop: above every u32
abbrev pub cap : ℕ
cap = 0x1_0000_0000
