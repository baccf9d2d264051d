-- The number of a number's decimal digits.
use Prim.Native.Nat.{ℕ, zero, suc, ◌+◌, ◌-◌, ◌^◌, ◌<◌, ◌≤◌}
use mathlib.Core.Bool.{Bool, true, false, cond}
use mathlib.Core.Path.{◌≡◌, refl}
use native.Mathlib.Nat.{pow-le-pow_right}
use native.Mathlib.Decide.{dec_le}
use native.Mathlib.Omega.{arith}
use borrow.Author.Tests.{ltb-true, ltb-false}
use lib.Dec.{ltb}
use Rattle.io.specs.Digits.{last_digits, IsDigitCount}
use Rattle.text.specs.Text.{places_from, decimal}

module _ (n k : ℕ) (f : IsDigitCount 10 1 n k) where
  least_by : (j : ℕ) → Dec (suc j ≤ k) → 1 ≤ j → j ≤ k → n < 10 ^ j → j ≡ k
  least_by j (yes h) one below l =
      let p : 10 ^ j ≤ 10 ^ (k - 1) = pow-le-pow_right (omega arith) (omega arith) in
      let q : 10 ^ (k - 1) ≤ n = f.2 (omega arith) in
      absurd (omega arith)
  least_by j (no h) one below l = omega (arith, h)

  beyond_by : (j : ℕ) → Dec (suc j ≤ k) → j ≤ k → 10 ^ j ≤ n → suc j ≤ k
  beyond_by j (yes h) below l = h
  beyond_by j (no h) below l =
      let e : k ≡ j = omega (arith, h) in
      let q : n < 10 ^ j = rw e at f.1 in
      absurd (omega arith)

  step : (j : ℕ) (t : Bool) (r : ℕ) → 1 ≤ j → j ≤ k → ltb n (10 ^ j) ≡ t → (suc j ≤ k → r ≡ k) → cond t j r ≡ k
  step j true r one below e rest = least_by j (dec_le (suc j) k) one below (ltb-true n (10 ^ j) e)
  step j false r one below e rest = rest (beyond_by j (dec_le (suc j) k) below (ltb-false n (10 ^ j) e))

  steps : (s j : ℕ) → 1 ≤ j → j ≤ k → k ≤ j + s → places_from s j n ≡ k
  unfolding places_from
  steps zero j one below h = omega arith
  steps (suc s) j one below h = step j (ltb n (10 ^ j)) (places_from s (suc j) n) one below refl (λ b. steps s (suc j) (omega arith) b (omega arith))

  small_by : Dec (k ≤ 20) → n < 2 ^ 64 → k ≤ 20
  small_by (yes h) l = h
  small_by (no h) l =
      let p : 10 ^ 20 ≤ 10 ^ (k - 1) = pow-le-pow_right {n = 10} (omega arith) {i = 20} {j = k - 1} (omega (arith, h)) in
      let q : 10 ^ (k - 1) ≤ n = f.2 (omega (arith, h)) in
      absurd (omega arith)

  pub fewest : n < 2 ^ 64 → last_digits 10 k n ≡ decimal n
  unfolding decimal
  fewest l = rw (steps 20 1 (omega arith) f.0 (omega (arith, small_by (dec_le k 20) l)))
