-- What "balanced" says, by counting: as many `{` as `}`, and no beginning of the row closes more than it opened.
use mathlib.Core.Path.{◌≡◌}
use mathlib.Core.Bool.{true}
use mathlib.Core.List.{List, [], ◌∷◌}
use Prim.Native.Nat.{ℕ, zero, suc, ◌+◌, ◌≤◌}
use native.Mathlib.Omega.{arith}
use lib.ListN.{take}
use borrow.Author.Tests.{eqb-true, eq-eqb}
use Rattle.reading_rules.specs.Token.{Token, word, string, equals, comma, opening, closing}
use Rattle.reading_rules.proofs.CountLaws.{clash_bool}
use Rattle.reading_rules.specs.Reading.{balanced_from, Balanced, opened, closed}

-- with k open before
abbrev pub EvenFrom : List Token → ℕ → Type 0
EvenFrom ts k = (k + opened ts ≡ closed ts) × ((n : ℕ) → closed (take n ts) ≤ k + opened (take n ts))

counts : (ts : List Token) (k : ℕ) → balanced_from ts k ≡ true → EvenFrom ts k
unfolding balanced_from opened closed
counts [] k e = (omega (arith, eqb-true k 0 e), λ n. go n)
  where
    go : (n : ℕ) → closed (take n []) ≤ k + opened (take n [])
    go zero = omega arith
    go (suc n) = omega arith
counts (word w ∷ ts) k e = let g = counts ts k e in (g.0, λ n. elim n as (λ n. closed (take n (word w ∷ ts)) ≤ k + opened (take n (word w ∷ ts))) [ zero ↦ omega arith | suc m ↦ g.1 m ])
counts (string w ∷ ts) k e = let g = counts ts k e in (g.0, λ n. elim n as (λ n. closed (take n (string w ∷ ts)) ≤ k + opened (take n (string w ∷ ts))) [ zero ↦ omega arith | suc m ↦ g.1 m ])
counts (equals ∷ ts) k e = let g = counts ts k e in (g.0, λ n. elim n as (λ n. closed (take n (equals ∷ ts)) ≤ k + opened (take n (equals ∷ ts))) [ zero ↦ omega arith | suc m ↦ g.1 m ])
counts (comma ∷ ts) k e = let g = counts ts k e in (g.0, λ n. elim n as (λ n. closed (take n (comma ∷ ts)) ≤ k + opened (take n (comma ∷ ts))) [ zero ↦ omega arith | suc m ↦ g.1 m ])
counts (opening ∷ ts) k e = let g = counts ts (suc k) e in (omega arith, λ n. elim n as (λ n. closed (take n (opening ∷ ts)) ≤ k + opened (take n (opening ∷ ts))) [ zero ↦ omega arith | suc m ↦ omega (arith, g.1 m) ])
counts (closing ∷ ts) zero e = clash_bool e
counts (closing ∷ ts) (suc k) e = let g = counts ts k e in (omega arith, λ n. elim n as (λ n. closed (take n (closing ∷ ts)) ≤ (suc k) + opened (take n (closing ∷ ts))) [ zero ↦ omega arith | suc m ↦ omega (arith, g.1 m) ])

counted : (ts : List Token) (k : ℕ) → EvenFrom ts k → balanced_from ts k ≡ true
unfolding balanced_from opened closed
counted [] k h = eq-eqb k 0 (omega (arith, h.0))
counted (word w ∷ ts) k h = counted ts k (h.0, λ n. h.1 (suc n))
counted (string w ∷ ts) k h = counted ts k (h.0, λ n. h.1 (suc n))
counted (equals ∷ ts) k h = counted ts k (h.0, λ n. h.1 (suc n))
counted (comma ∷ ts) k h = counted ts k (h.0, λ n. h.1 (suc n))
counted (opening ∷ ts) k h = counted ts (suc k) (omega (arith, h.0), λ n. omega (arith, h.1 (suc n)))
counted (closing ∷ ts) zero h = absurd (omega (arith, h.1 1))
counted (closing ∷ ts) (suc k) h = counted ts k (omega (arith, h.0), λ n. omega (arith, h.1 (suc n)))

pub balanced_counts : (ts : List Token) → Balanced ts → (opened ts ≡ closed ts) × ((n : ℕ) → closed (take n ts) ≤ opened (take n ts))
balanced_counts ts e = let g = counts ts 0 e in (omega (arith, g.0), λ n. omega (arith, g.1 n))

pub counts_balanced : (ts : List Token) → opened ts ≡ closed ts → ((n : ℕ) → closed (take n ts) ≤ opened (take n ts)) → Balanced ts
counts_balanced ts a b = counted ts 0 (omega arith, λ n. omega (arith, b n))
