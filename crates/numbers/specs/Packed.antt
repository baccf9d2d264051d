-- The digits of a number in bytes of their own: numbers so packed are in the order of the numbers.
use Rattle.std.specs.Prelude.{ℕ, ◌+◌, ◌*◌, ◌≤◌, ◌<◌}

-- p holds the digits of n, a byte each, the last lowest
pub data Packed : ℕ → ℕ → Type 0 where
  none : Packed 0 0
  more : {n p : ℕ} (d : ℕ) → d < 10 → Packed n p → Packed (n * 10 + d) (p * 256 + d)

-- eight bytes hold less
abbrev pub packed_limit : ℕ
packed_limit = 0x1_0000_0000_0000_0000

-- of numbers with at most eight digits, p bounds those packed as v bounds the numbers
pub record PackedBound (v p : ℕ) : Type 0 where
  pub least : (n d : ℕ) → Packed n d → d < packed_limit → p ≤ d → v ≤ n
  pub most : (n d : ℕ) → Packed n d → d < packed_limit → d ≤ p → n ≤ v
