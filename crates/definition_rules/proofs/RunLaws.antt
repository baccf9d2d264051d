-- The kind that a run names is one of ten.
use mathlib.Core.Bool.{Bool, true, false}
use mathlib.Core.List.{List, [], ◌∷◌}
use Prim.Native.Nat.{ℕ, suc, ◌+◌, ◌≤◌}
use native.Mathlib.Omega.{arith}
use lib.ListN.{length}
use Rattle.classes.specs.Lists.{same_bytes}
use Rattle.definition_rules.specs.Words.{kw_void, kw_bool, kw_int, kw_ascii, kw_unquoted, kw_date, kw_time, kw_struct, kw_union, number_if, number_in, kind_of_run}

pub number_le : (vs : List (List ℕ)) (k : ℕ) (w : List ℕ) → number_in vs k w ≤ k + length vs
unfolding number_in
number_le [] k w = omega arith
number_le (v ∷ vs) k w = by (same_bytes v w) (number_le vs (suc k) w)
  where
    by : (b : Bool) → number_in vs (suc k) w ≤ suc k + length vs → number_if b k (number_in vs (suc k) w) ≤ k + suc (length vs)
    by true h = unfold number_if in omega arith
    by false h = unfold number_if in omega arith

pub kind_le : (w : List ℕ) → kind_of_run w ≤ 10
unfolding kind_of_run
kind_le w = omega (arith, number_le (kw_void ∷ kw_bool ∷ kw_int ∷ kw_ascii ∷ kw_unquoted ∷ kw_date ∷ kw_time ∷ kw_struct ∷ kw_union ∷ []) 1 w)
