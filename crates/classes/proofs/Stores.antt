-- Stores in a row of numbers, one after the other; a number past the end is not stored.
use mathlib.Core.Path.{◌≡◌, refl}
use mathlib.Core.List.{List, [], ◌∷◌, ◌++◌}
use Prim.Native.Nat.{ℕ, zero, suc, ◌+◌, ◌<◌, ◌≤◌}
use native.Mathlib.Nat.{add-zero}
use native.Mathlib.Omega.{arith}
use lib.ListN.{length, get_or, set, take}
use lib.Seq.{sets, set_out}

pub sets_out : (xs l : List ℕ) (i : ℕ) → length l ≤ i → sets l i xs ≡ l
sets_out [] l i h = refl
sets_out (x ∷ xs) l i h = rw (set_out l i x h) (sets_out xs l (suc i) (omega arith))

pub sets_append : (xs ys l : List ℕ) (i : ℕ) → sets (sets l i xs) (i + length xs) ys ≡ sets l i (xs ++ ys)
sets_append [] ys l i = rw (add-zero i)
sets_append (x ∷ xs) ys l i =
    let p : i + suc (length xs) ≡ suc i + length xs = omega arith in
    rw p (sets_append xs ys (set l i x) (suc i))

pub four_sets : (l : List ℕ) (i a b c d : ℕ) → set (set (set (set l i a) (i + 1) b) (i + 2) c) (i + 3) d ≡ sets l i (a ∷ b ∷ c ∷ d ∷ [])
four_sets l i a b c d =
    let p : i + 1 ≡ suc i = omega arith in
    let q : i + 2 ≡ suc (suc i) = omega arith in
    let r : i + 3 ≡ suc (suc (suc i)) = omega arith in
    rw (p, q, r)

-- one number more of a row
pub sets_more : (row xs : List ℕ) (at i : ℕ) → i < length row → set (sets xs at (take i row)) (at + i) (get_or row i 0) ≡ sets xs at (take (suc i) row)
sets_more [] xs at i h = absurd (omega arith)
sets_more (v ∷ row) xs at zero h = rw (add-zero at)
sets_more (v ∷ row) xs at (suc i) h =
    let e : at + suc i ≡ suc at + i = omega arith in
    rw e (sets_more row (set xs at v) (suc at) i (omega arith))
