-- Digits by eight bytes at once.
use Rattle.std.proofs.Common.{◌≡◌, ℕ, zero, suc, ◌+◌, ◌-◌, ◌*◌, ◌/◌, ◌%◌, ◌^◌, ◌<◌, ◌≤◌, Bool, true, false, not, ◌&&◌, ◌||◌, eqb, ltb, List, [], ◌∷◌, length, get_or, sym, refl, ap, ◌∙◌, subst, ⊎_elim, add-zero, add-suc, mod-eq_of_lt, eq-or-lt_of_le, pow-suc, div-one, arith, lt-ltb, eqb-true}
use native.Mathlib.Nat.{pow-succ', div-div-eq-div-mul, suc_inj}
use Rattle.std.specs.Int.{w64, from_be_bytes}
use lib.Bits.{bit_and, bit_xor, and_block, xor_block, xor_lt, and_high}
use Rattle.classes.specs.Bytes.{is_digit}
use Rattle.classes.proofs.Segment.{segment}
use Rattle.reading_rules.proofs.CountLaws.{clash_bool, and_both}
use Rattle.numbers.specs.Packed.{packed_limit}
use Rattle.message_tokens.specs.Digits.{joined, zeros, high_halves, sixes, Nines}
use Rattle.message_tokens.proofs.Naturals.{Summed, summed_start, summed_more}

-- the number of k bytes that are all m
unfoldable repeated : ℕ → ℕ → ℕ
repeated m zero = 0
repeated m (suc k) = repeated m k * 256 + m

-- a byte that has a digit's high half has its number left
digit_of : (b : ℕ) → b < 256 → bit_xor b 48 < 10 → (is_digit b ≡ true) × (bit_xor b 48 ≡ b - 48)
unfolding is_digit
digit_of b h l =
    let e : true ≡ not (ltb (bit_xor b 48) 10) || (is_digit b && eqb (bit_xor b 48) (b - 48)) = segment (λ b. not (ltb (bit_xor b 48) 10) || (is_digit b && eqb (bit_xor b 48) (b - 48))) [] {v = true} {b = b} 0 256 tt (omega arith) h tt in
    told (ltb (bit_xor b 48) 10) (is_digit b) (lt-ltb (bit_xor b 48) 10 l) (sym e)
  where
    told : (p q : Bool) → p ≡ true → not p || (q && eqb (bit_xor b 48) (b - 48)) ≡ true → (q ≡ true) × (bit_xor b 48 ≡ b - 48)
    told true q e r = and_both q (eqb (bit_xor b 48) (b - 48)) r (λ x y. (x, eqb-true (bit_xor b 48) (b - 48) y))
    told false q e r = clash_bool e

-- the high half of a byte is 0
low_half : (b : ℕ) → b < 256 → bit_and b 0xF0 ≡ 0 → b < 16
low_half b h e =
    let q : b / 16 % 16 ≡ b / 16 = mod-eq_of_lt (omega arith) in
    let z : (b / 16 % 16) * 16 ≡ 0 = sym (and_high b 4 4) ∙ e in
    omega arith

-- shifts are by whole bytes
powers : (c : ℕ) → c ≤ 7 → (2 ^ (64 - 8 * c) ≡ 256 ^ (8 - c)) × (256 ^ c ≤ 256 ^ 7)
powers zero h = (refl, omega arith)
powers (suc zero) h = (refl, omega arith)
powers (suc (suc zero)) h = (refl, omega arith)
powers (suc (suc (suc zero))) h = (refl, omega arith)
powers (suc (suc (suc (suc zero)))) h = (refl, omega arith)
powers (suc (suc (suc (suc (suc zero))))) h = (refl, omega arith)
powers (suc (suc (suc (suc (suc (suc zero)))))) h = (refl, omega arith)
powers (suc (suc (suc (suc (suc (suc (suc zero))))))) h = (refl, omega arith)
powers (suc (suc (suc (suc (suc (suc (suc (suc n)))))))) h = absurd (omega arith)

module _ (s : List ℕ) (at : ℕ) (byte : (i : ℕ) → get_or s i 0 < 256) where
  -- the digit that stands k places on, where one does
  abbrev digit_at : ℕ → ℕ
  digit_at k = bit_xor (get_or s (at + k) 0) 48

  unfoldable spread : ℕ → ℕ
  spread zero = 0
  spread (suc k) = spread k * 256 + digit_at k

  digit_byte : (k : ℕ) → digit_at k < 256
  digit_byte k = xor_lt 8 (get_or s (at + k) 0) 48 (byte (at + k)) (omega arith)

  -- each byte's high half at once
  spread_is : (k : ℕ) → bit_xor (joined k s at) (repeated 48 k) ≡ spread k
  unfolding joined spread repeated
  spread_is zero = refl
  spread_is (suc k) =
      xor_block 8 (joined k s at) (repeated 48 k) (get_or s (at + k) 0) 48 (byte (at + k)) (omega arith)
      ∙ ap (λ x. x * 256 + digit_at k) (spread_is k)

  -- the last bytes fall away
  spread_high : (k j : ℕ) → spread (k + j) / 256 ^ j ≡ spread k
  unfolding spread
  spread_high k zero = rw (add-zero k) (div-one (spread k))
  spread_high k (suc j) =
      let d = digit_byte (k + j) in
      let z : (spread (k + j) * 256 + digit_at (k + j)) / 256 ≡ spread (k + j) = omega arith in
      rw (add-suc k j, pow-succ' 256 j, ← div-div-eq-div-mul (spread (k + j) * 256 + digit_at (k + j)) 256 (256 ^ j), z) (spread_high k j)

  -- no byte is more than 9
  digits_small : (k j : ℕ) → k ≤ j → bit_and (spread k) (repeated 0xF0 j) ≡ 0 → bit_and (spread k + repeated 6 j) (repeated 0xF0 j) ≡ 0 → (i : ℕ) → i < k → digit_at i < 10
  unfolding spread repeated
  digits_small zero j h a b i l = absurd (omega arith)
  digits_small (suc k) zero h a b i l = absurd (omega arith)
  digits_small (suc k) (suc j) h a b i l =
      let y = digit_byte k in
      let p = sym (and_block 8 (spread k) (repeated 0xF0 j) (digit_at k) 0xF0 y (omega arith)) ∙ a in
      let q : digit_at k < 16 = low_half (digit_at k) y (omega arith) in
      let r : (spread k * 256 + digit_at k) + (repeated 6 j * 256 + 6) ≡ (spread k + repeated 6 j) * 256 + (digit_at k + 6) = omega arith in
      let u = sym (and_block 8 (spread k + repeated 6 j) (repeated 0xF0 j) (digit_at k + 6) 0xF0 (omega arith) (omega arith)) ∙ (ap (λ x. bit_and x (repeated 0xF0 j * 256 + 0xF0)) (sym r) ∙ b) in
      let v : digit_at k + 6 < 16 = low_half (digit_at k + 6) (omega arith) (omega arith) in
      ⊎_elim (λ e. subst (λ x. digit_at x < 10) (sym (suc_inj e)) (omega arith)) (λ g. digits_small k j (omega arith) (omega arith) (omega arith) i (omega arith)) (eq-or-lt_of_le l)

  spread_below : (k : ℕ) → spread k < 256 ^ k
  unfolding spread
  spread_below zero = omega arith
  spread_below (suc k) = let y = digit_byte k in let i = spread_below k in rw (pow-suc 256 k) (omega arith)

  -- the digits one after the other
  summed_first : at + 8 ≤ length s → (k : ℕ) → k ≤ 8 → ((i : ℕ) → i < k → digit_at i < 10) → Summed s at (at + k) (spread k)
  unfolding spread
  summed_first h zero l f = rw (add-zero at) (summed_start s at)
  summed_first h (suc k) l f =
      let d = digit_of (get_or s (at + k) 0) (byte (at + k)) (f k (omega arith)) in
      let e : at + suc k ≡ at + k + 1 = omega arith in
      rw e (summed_more s at (at + k) (spread k) (spread (suc k)) (summed_first h k (omega arith) (λ i g. f i (omega arith))) (omega arith) d.0 (rw d.1))

  pub eight_summed : (c d : ℕ) → at + 8 ≤ length s → c ≤ 7 → d ≡ bit_xor (joined 8 s at) zeros / 2 ^ (64 - 8 * c) → Nines d → Summed s at (at + c) d
  unfolding repeated
  eight_summed c d h l e n =
      let p = powers c l in
      let q : c + (8 - c) ≡ 8 = omega arith in
      let z : d ≡ spread c = e ∙ (ap (λ x. x / 2 ^ (64 - 8 * c)) (spread_is 8) ∙ (ap (λ x. spread 8 / x) p.0 ∙ (ap (λ x. spread x / 256 ^ (8 - c)) (sym q) ∙ spread_high c (8 - c)))) in
      let b = spread_below c in
      let w : (spread c + sixes) % packed_limit ≡ spread c + sixes = mod-eq_of_lt (omega (arith, p.1)) in
      rw z (summed_first h c (omega arith) (digits_small c 8 (omega arith) (rw z at n.halves) (rw (z, w) at n.still)))

-- ---- what the code joins and tests

pub eight_joined : (s : List ℕ) (at n : ℕ) → n ≡ from_be_bytes w64 (get_or s at 0 ∷ get_or s (at + 1) 0 ∷ get_or s (at + 2) 0 ∷ get_or s (at + 3) 0 ∷ get_or s (at + 4) 0 ∷ get_or s (at + 5) 0 ∷ get_or s (at + 6) 0 ∷ get_or s (at + 7) 0 ∷ []) → n ≡ joined 8 s at
unfolding joined
eight_joined s at n e = let z : at + 0 ≡ at = add-zero at in e ∙ rw z (omega arith)

pub nines : (d w : ℕ) → w ≡ (d + sixes) % packed_limit → eqb (bit_and d high_halves) 0 && eqb (bit_and w high_halves) 0 ≡ true → Nines d
nines d w e b = and_both (eqb (bit_and d high_halves) 0) (eqb (bit_and w high_halves) 0) b (λ x y. record { halves = eqb-true (bit_and d high_halves) 0 x; still = rw e at (eqb-true (bit_and w high_halves) 0 y) })
