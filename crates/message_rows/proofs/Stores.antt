-- Stores of rows: one after the other, a row before its children's, one end for a chain of rows.
use mathlib.Core.Path.{◌≡◌, refl, sym, ap, ◌∙◌}
use mathlib.Core.List.{List, [], ◌∷◌, ◌++◌, append_assoc}
use Prim.Native.Nat.{ℕ, zero, suc, ◌+◌, ◌-◌, ◌*◌, ◌<◌, ◌≤◌}
use native.Mathlib.Omega.{arith}
use native.Mathlib.Nat.{add-zero}
use lib.ListN.{length, take, drop, get_or, set}
use borrow.Rule.Slice.PartMut.{put_mid}
use Rattle.std.proofs.lemmas.List.Edits.{sets-eq}
use lib.Seq.{sets, drop-drop, set_comm, set-set, set_out}
use Rattle.classes.proofs.Stores.{sets_append, four_sets}
use Rattle.numbers.specs.Limits.{row_width}
use Rattle.message_rules.specs.Rows.{Row, cells}
use Rattle.message_rules.proofs.RowLaws.{cells_counted}
use Rattle.message_rows.specs.Filled.{with_ends, ended}

-- a row's numbers, one after the other
pub row_sets : (l : List ℕ) (i a b c d f : ℕ) → set (set (set (set (set l i a) (i + 1) b) (i + 2) c) (i + 3) d) (i + 4) f ≡ sets l i (a ∷ b ∷ c ∷ d ∷ f ∷ [])
row_sets l i a b c d f = ap (λ (z : List ℕ). set z (i + 4) f) (four_sets l i a b c d) ∙ sets_append (a ∷ b ∷ c ∷ d ∷ []) (f ∷ []) l i

-- a row past the end is not stored
pub row_out : (e : List ℕ) (i a b c d f : ℕ) → length e ≤ i → e ≡ sets e i (a ∷ b ∷ c ∷ d ∷ f ∷ [])
row_out e i a b c d f h =
    sym (rw (set_out e i a h, set_out e (i + 1) b (omega arith), set_out e (i + 2) c (omega arith), set_out e (i + 3) d (omega arith), set_out e (i + 4) f (omega arith)) refl)
    ∙ row_sets e i a b c d f

-- a part as long as what is copied into it
pub row_copied : (l vs : List ℕ) (i n : ℕ) → i + length vs ≤ length l → n ≡ length vs → put_mid i n l vs ≡ sets l i vs
row_copied l vs i n h e = rw (e, sets-eq vs l i h) (ap (λ (z : List ℕ). take i l ++ (vs ++ z)) (drop-drop (length vs) i l) ∙ sym (append_assoc (take i l) vs (drop (i + length vs) l)))

-- one number more
pub sets_more : (vs l : List ℕ) (i k : ℕ) → k < length vs → set (sets l i (take k vs)) (i + k) (get_or vs k 0) ≡ sets l i (take (k + 1) vs)
sets_more [] l i k h = absurd (omega (arith, h))
sets_more (v ∷ vs) l i zero h = rw (add-zero i) refl
sets_more (v ∷ vs) l i (suc k) h =
    let e : i + suc k ≡ suc i + k = omega arith in
    let f : suc (k + 1) ≡ suc k + 1 = omega arith in
    ap (λ (j : ℕ). set (sets (set l i v) (suc i) (take k vs)) j (get_or vs k 0)) e
    ∙ (sets_more vs (set l i v) (suc i) k (omega (arith, h)) ∙ ap (λ (m : ℕ). sets l i (take m (v ∷ vs))) f)

set_sets : (ys e : List ℕ) (i j x : ℕ) → i < j → set (sets e j ys) i x ≡ sets (set e i x) j ys
set_sets [] e i j x h = refl
set_sets (y ∷ ys) e i j x h =
    set_sets ys (set e j y) i (suc j) x (omega arith)
    ∙ ap (λ (l : List ℕ). sets l (suc j) ys) (set_comm e j i y x (λ q. omega arith))

sets_sets : (xs ys e : List ℕ) (i j : ℕ) → i + length xs ≤ j → sets (sets e j ys) i xs ≡ sets (sets e i xs) j ys
sets_sets [] ys e i j h = refl
sets_sets (x ∷ xs) ys e i j h =
    ap (λ (l : List ℕ). sets l (suc i) xs) (set_sets ys e i j x (omega arith))
    ∙ sets_sets xs ys (set e i x) (suc i) j (omega arith)

pub cells_append : (a b : List Row) → cells (a ++ b) ≡ cells a ++ cells b
unfolding cells
cells_append [] b = refl
cells_append (r ∷ a) b = ap (λ (l : List ℕ). r.parameter ∷ r.parent ∷ r.start ∷ r.end ∷ r.index ∷ l) (cells_append a b)

-- rows, and then those after them
pub rows_append : (e : List ℕ) (n m : ℕ) (a b : List Row) → m ≡ n + length a → sets (sets e (row_width * n) (cells a)) (row_width * m) (cells b) ≡ sets e (row_width * n) (cells (a ++ b))
rows_append e n m a b h =
    let q : row_width * m ≡ row_width * n + length (cells a) = omega (arith, h, cells_counted a) in
    rw (cells_append a b, q) (sets_append (cells a) (cells b) e (row_width * n))

-- a row over its children's, stored last
pub row_first : (e : List ℕ) (n : ℕ) (r : Row) (rs : List Row) → sets (sets e (row_width * (n + 1)) (cells rs)) (row_width * n) (cells (r ∷ [])) ≡ sets e (row_width * n) (cells (r ∷ rs))
unfolding cells
row_first e n r rs =
    sets_sets (r.parameter ∷ r.parent ∷ r.start ∷ r.end ∷ r.index ∷ []) (cells rs) e (row_width * n) (row_width * (n + 1)) (omega arith)
    ∙ ap (λ (k : ℕ). sets (sets e (row_width * n) (r.parameter ∷ r.parent ∷ r.start ∷ r.end ∷ r.index ∷ [])) k (cells rs)) (omega arith)
    ∙ sets_append (r.parameter ∷ r.parent ∷ r.start ∷ r.end ∷ r.index ∷ []) (cells rs) e (row_width * n)

pub ended_append : (e : ℕ) (a b : List Row) → ended e (a ++ b) ≡ ended e a ++ ended e b
unfolding ended
ended_append e [] b = refl
ended_append e (r ∷ a) b = ap (λ (l : List Row). record { parameter = r.parameter; parent = r.parent; start = r.start; end = e; index = r.index } ∷ l) (ended_append e a b)

pub ended_length : (e : ℕ) (a : List Row) → length (ended e a) ≡ length a
unfolding ended
ended_length e [] = refl
ended_length e (r ∷ a) = ap suc (ended_length e a)

-- one row's end, with rows after it
end_first : (l : List ℕ) (i j a b c d f e : ℕ) (cs : List ℕ) → j ≡ i + row_width → set (sets l i (a ∷ b ∷ c ∷ d ∷ f ∷ cs)) (i + 3) e ≡ sets (sets l i (a ∷ b ∷ c ∷ e ∷ f ∷ [])) j cs
end_first l i j a b c d f e cs h =
    let p : i + 3 ≡ suc (suc (suc i)) = omega arith in
    let q : j ≡ suc (suc (suc (suc (suc i)))) = omega (arith, h) in
    let z : List ℕ = set (set (set l i a) (suc i) b) (suc (suc i)) c in
    rw (p, q)
    (set_sets (f ∷ cs) (set z (suc (suc (suc i))) d) (suc (suc (suc i))) (suc (suc (suc (suc i)))) e (omega arith)
    ∙ ap (λ (y : List ℕ). sets y (suc (suc (suc (suc i)))) (f ∷ cs)) (set-set z (suc (suc (suc i))) d e))

-- the ends of the first rows
pub rows_ended : (l : List ℕ) (k e : ℕ) (a b : List Row) → with_ends (sets l (row_width * k) (cells (a ++ b))) k (length a) e ≡ sets l (row_width * k) (cells (ended e a ++ b))
unfolding with_ends ended cells
rows_ended l k e [] b = refl
rows_ended l k e (r ∷ a) b =
    let one : List ℕ = r.parameter ∷ r.parent ∷ r.start ∷ e ∷ r.index ∷ [] in
    let q : row_width * suc k ≡ row_width * k + row_width = omega arith in
    let h : set (sets l (row_width * k) (r.parameter ∷ r.parent ∷ r.start ∷ r.end ∷ r.index ∷ cells (a ++ b))) (row_width * k + 3) e ≡ sets (sets l (row_width * k) one) (row_width * suc k) (cells (a ++ b))
    = end_first l (row_width * k) (row_width * suc k) r.parameter r.parent r.start r.end r.index e (cells (a ++ b)) q in
    let i : with_ends (sets (sets l (row_width * k) one) (row_width * suc k) (cells (a ++ b))) (suc k) (length a) e ≡ sets (sets l (row_width * k) one) (row_width * suc k) (cells (ended e a ++ b))
    = rows_ended (sets l (row_width * k) one) (suc k) e a b in
    ap (λ (z : List ℕ). with_ends z (suc k) (length a) e) h
    ∙ (i ∙ (ap (λ (m : ℕ). sets (sets l (row_width * k) one) m (cells (ended e a ++ b))) q ∙ sets_append one (cells (ended e a ++ b)) l (row_width * k)))

pub ends_none : (l : List ℕ) (k n e : ℕ) → n ≡ 0 → with_ends l k n e ≡ l
unfolding with_ends
ends_none l k n e h = rw h refl

pub ends_more : (l : List ℕ) (k m e : ℕ) → k < m → with_ends l k (m - k) e ≡ with_ends (set l (row_width * k + 3) e) (k + 1) (m - (k + 1)) e
unfolding with_ends
ends_more l k m e h =
    let p : m - k ≡ suc (m - (k + 1)) = omega arith in
    let q : k + 1 ≡ suc k = omega arith in
    rw (p, q) refl
