-- A part that is moved to the front.
use Prim.Native.Nat.{ℕ, suc, ◌+◌, ◌-◌, ◌<◌, ◌≤◌}
use mathlib.Core.List.{List, [], ◌∷◌, ◌++◌}
use mathlib.Core.Path.{◌≡◌, refl, sym, ◌∙◌}
use native.Mathlib.Numerals.{add-one}
use native.Mathlib.Omega.{arith}
use lib.ListN.{length, get_or, take, drop, set, length-take}
use lib.Seq.{sets, take-suc, get_or-take, get_or-drop, get_or-set_other, length-take-le}
use Rattle.classes.specs.Lists.{part}
use Rattle.classes.proofs.Stores.{sets_append}

get_d_sets_after : (xs l : List ℕ) (i k : ℕ) → i + length xs ≤ k → get_or (sets l i xs) k 0 ≡ get_or l k 0
get_d_sets_after [] l i k h = refl
get_d_sets_after (x ∷ xs) l i k h =
    get_d_sets_after xs (set l i x) (suc i) k (omega arith)
    ∙ get_or-set_other l i k x 0 (λ e. omega (arith, e))

stored : (d x : List ℕ) (i a b : ℕ) → length x ≡ i → a ≡ b → set (sets d 0 x) i a ≡ sets d 0 (x ++ (b ∷ []))
stored d x i a b l e =
    let p : 0 + length x ≡ i = omega arith in
    rw (e, ← p) (sets_append x (b ∷ []) d 0)

-- one byte more of a part that is moved to the front
pub moved_more : (d : List ℕ) (from to i : ℕ) → i < length (part d from to)
    → set (sets d 0 (take i (part d from to))) i (get_or (sets d 0 (take i (part d from to))) (from + i) 0) ≡ sets d 0 (take (i + 1) (part d from to))
moved_more d from to i h =
    let l : length (take i (part d from to)) ≡ i = length-take-le i (part d from to) (omega arith) in
    let w : i < to - from = omega (arith, simp length-take at h) in
    rw (add-one, take-suc (part d from to) i 0 h)
    (stored d (take i (part d from to)) i _ _ l
    (get_d_sets_after (take i (part d from to)) d 0 (from + i) (omega arith)
    ∙ sym (get_or-take (to - from) (drop from d) i 0 w ∙ get_or-drop from d i 0)))
