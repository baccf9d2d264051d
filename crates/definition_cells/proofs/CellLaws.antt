-- Declarations as they are kept. Assumes nothing.
use mathlib.Core.Path.{◌≡◌}
use mathlib.Core.List.{List, [], ◌∷◌}
use Prim.Native.Nat.{ℕ, suc, ◌+◌, ◌-◌, ◌<◌, ◌≤◌}
use native.Mathlib.Numerals.{add-one}
use native.Mathlib.Omega.{arith}
use Rattle.definition_cells.specs.Cells.{noted_at, noted_from}

-- ---- the declarations from i on

module _ (t cs : List ℕ) (n i : ℕ) where
  pub noted_more : i < n → noted_from t cs (n - i) i ≡ noted_at t cs i ∷ noted_from t cs (n - (i + 1)) (i + 1)
  unfolding noted_from
  noted_more h =
      let p : n - i ≡ suc (n - (i + 1)) = omega arith in
      rw (p, add-one i)

  pub noted_end : n ≤ i → noted_from t cs (n - i) i ≡ []
  unfolding noted_from
  noted_end h = let p : n - i ≡ 0 = omega arith in rw p

pub noted_all : (t cs : List ℕ) (n : ℕ) → noted_from t cs (n - 0) 0 ≡ noted_from t cs n 0
noted_all t cs n = let p : n - 0 ≡ n = omega arith in rw p
