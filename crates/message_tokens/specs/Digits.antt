-- A word of digits without leading zero.
use Rattle.std.specs.Prelude.{◌≡◌, ℕ, zero, suc, ◌+◌, ◌*◌, ◌%◌, ◌<◌, ◌≤◌, true, false, List, length, ◌≢◌, bit_and, slice_index}
use Rattle.classes.specs.Bytes.{is_word_byte}
use Rattle.numbers.specs.Decimal.{number_of, is_natural}
use Rattle.numbers.specs.Packed.{Packed, packed_limit}
use Rattle.reading_rules.specs.Token.{word, comma}
use Rattle.message_tokens.specs.Cursor.{part, cut_at, Step}
use Rattle.message_tokens.specs.declared.Digits.{Digits}
use Rattle.message_tokens.specs.declared.Digits.TheVariants.{Other, Before, Number}

-- the digits from at to e are some, without leading zero
pub record Led (s : List ℕ) (at e : ℕ) : Type 0 where
  pub less : at < e
  pub single : (at + 1 < e → slice_index s at ≢ 48)

-- the digits from at on end at i, before the byte b, packed in sum
abbrev pub DigitsEnd : List ℕ → ℕ → ℕ → ℕ → ℕ → Digits → Type 0
DigitsEnd s at i sum b Other = Unit {0}
DigitsEnd s at i sum b (Before e n) = (e ≡ i) × (n ≡ sum) × (b ≡ 44) × Led s at e
DigitsEnd s at i sum b (Number e n) = (e ≡ i) × (n ≡ sum) × (is_word_byte b ≡ false) × Led s at e

pub record DigitsCounted (s : List ℕ) (at e n : ℕ) : Type 0 where
  pub within : e ≤ length s
  pub natural : is_natural (part s at e) ≡ true
  pub packed : Packed (number_of (part s at e)) n
  pub first : (base : ℕ) → Step (cut_at base s at) base s at (word (part s at e)) at e

-- with a comma at e
pub record CountedBefore (s : List ℕ) (at e n : ℕ) : Type 0 where
  pub counted : DigitsCounted s at e n
  pub second : (base : ℕ) → Step (cut_at base s e) base s e comma e (e + 1)

abbrev pub DigitsAt : List ℕ → ℕ → Digits → Type 0
DigitsAt s at Other = Unit {0}
DigitsAt s at (Before e n) = CountedBefore s at e n
DigitsAt s at (Number e n) = DigitsCounted s at e n

-- ---- eight bytes at once

-- the first k bytes from at on as one number, the first highest
unfoldable pub joined : ℕ → List ℕ → ℕ → ℕ
joined zero s at = 0
joined (suc k) s at = joined k s at * 256 + slice_index s (at + k)

-- in each of eight bytes: the digit 0, the high half, and 6
abbrev pub zeros : ℕ
zeros = 0x3030_3030_3030_3030

abbrev pub high_halves : ℕ
high_halves = 0xF0F0_F0F0_F0F0_F0F0

abbrev pub sixes : ℕ
sixes = 0x0606_0606_0606_0606

-- the high half of each byte is 0, and still is with 6 more: each byte is at most 9
pub record Nines (d : ℕ) : Type 0 where
  pub halves : bit_and d high_halves ≡ 0
  pub still : bit_and ((d + sixes) % packed_limit) high_halves ≡ 0
