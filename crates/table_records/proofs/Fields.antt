-- A record's numbers against its fields.
use mathlib.Core.Path.{◌≡◌, refl, ap, sym, ◌∙◌}
use mathlib.Core.Bool.{Bool, true, false, not, ◌&&◌}
use mathlib.Core.List.{List, [], ◌∷◌, ◌++◌, append_assoc}
use Prim.Native.Nat.{ℕ, suc, ◌+◌, ◌*◌, ◌≤◌, ◌<◌}
use native.Mathlib.Omega.{arith}
use borrow.Author.Tests.{lt-ltb, le-ltb, lt-leb}
use lib.Dec.{eqb}
use lib.ListN.{length, get_or, set, take, drop, length-set, length-take, get_or-append}
use lib.Seq.{sets, sets-eq, length-sets, get_or-set_other, get_or-append-add}
use Rattle.classes.specs.Lists.{pick}
use Rattle.numbers.specs.Limits.{none16, parameter_limit}
use Rattle.numbers.specs.LittleEndian.{le16, le_int}
use Rattle.reading_rules.specs.Record.{top, under}
use Rattle.reading_rules.specs.Schema.{is_under}
use Rattle.definition_rules.specs.Table.{number_up}
use Rattle.table_records.specs.Stored.{stored_at, record_cells, cell_place, is_there, cell_in, kept_in, record_in, Unpacked}
use Rattle.table_records.proofs.Laws.{there, cell_agree}

pub is_under_lem : (p x : ℕ) → is_under p (number_up x) ≡ not (eqb x none16) && eqb x p
unfolding is_under number_up pick
is_under_lem p x = go (eqb x none16)
  where
    go : (b : Bool) → is_under p (pick b top (under x)) ≡ not b && eqb x p
    go true = refl
    go false = refl

-- the same, of the number that the code read
pub under_number : (p x n : ℕ) → x ≡ n → not (eqb x none16) && eqb x p ≡ is_under p (number_up n)
under_number p x n e = rw (← e) (sym (is_under_lem p x))

-- ---- cells

module _ (cs : List ℕ) (i : ℕ) where
  pub past_limit : parameter_limit ≤ i → is_there cs i ≡ false
  unfolding is_there
  past_limit h = rw (le-ltb i parameter_limit h)

  pub past_end : i < parameter_limit → length cs < cell_place i record_cells → is_there cs i ≡ false
  unfolding is_there
  past_end h l = rw (lt-ltb i parameter_limit h, lt-leb (cell_place i record_cells) (length cs) l)

  pub cell_there : (k : ℕ) → is_there cs i ≡ true → get_or cs (cell_place i k) 0 ≡ cell_in cs i k
  unfolding cell_in pick
  cell_there k e = rw e

  pub cell_out : (k : ℕ) → is_there cs i ≡ false → 0 ≡ cell_in cs i k
  unfolding cell_in pick
  cell_out k e = rw e

  pub kept_there : (k x : ℕ) → is_there cs i ≡ true → set cs (cell_place i k) x ≡ kept_in cs i k x
  unfolding kept_in pick
  kept_there k x e = rw e

  pub kept_out : (k x : ℕ) → is_there cs i ≡ false → cs ≡ kept_in cs i k x
  unfolding kept_in pick
  kept_out k x e = rw e

-- a run of stores, read back
module _ (vs cs : List ℕ) (p : ℕ) where
  stores_before : (m : ℕ) → m < p → get_or (sets cs p vs) m 0 ≡ get_or cs m 0
  stores_before m h = go vs cs p h
    where
      go : (vs cs : List ℕ) (p : ℕ) → m < p → get_or (sets cs p vs) m 0 ≡ get_or cs m 0
      go [] cs p h = refl
      go (v ∷ vs) cs p h = go vs (set cs p v) (suc p) (omega arith) ∙ get_or-set_other cs p m v 0 (λ e. omega arith)

  stores_there : (k : ℕ) → k < length vs → p + length vs ≤ length cs → get_or (sets cs p vs) (p + k) 0 ≡ get_or vs k 0
  stores_there k h l =
      let e : length (take p cs) ≡ p = length-take p cs ∙ omega arith in
      rw (sets-eq vs cs p l, append_assoc (take p cs) vs (drop (p + length vs) cs)) (ap (λ m. get_or (take p cs ++ (vs ++ drop (p + length vs) cs)) (m + k) 0) (sym e) ∙ (get_or-append-add (take p cs) (vs ++ drop (p + length vs) cs) k 0 ∙ get_or-append vs (drop (p + length vs) cs) 0 k h))

-- ---- one record's cells

-- the numbers of the record whose bytes begin at o
abbrev numbers_at : List ℕ → ℕ → List ℕ
numbers_at t o =
    o ∷ le16 t (o + 2) ∷ le16 t (o + 4) ∷ le16 t (o + 6) ∷ le16 t (o + 8) ∷ le16 t (o + 10) ∷ le_int t (o + 12) ∷ le_int t (o + 16) ∷ le16 t (o + 20) ∷ le16 t (o + 22) ∷ []

-- the cells after numbers are kept one by one, from the k-th on
abbrev kept_row : List ℕ → ℕ → ℕ → List ℕ → List ℕ
kept_row cs i k [] = cs
kept_row cs i k (v ∷ vs) = kept_row (kept_in cs i k v) i (suc k) vs

kept_row_lem : (vs cs : List ℕ) (i k : ℕ) → i < parameter_limit → cell_place i record_cells ≤ length cs → kept_row cs i k vs ≡ sets cs (cell_place i k) vs
kept_row_lem [] cs i k h l = refl
kept_row_lem (v ∷ vs) cs i k h l =
    rw (← kept_there cs i k v (there cs i h l)) (kept_row_lem vs (set cs (cell_place i k) v) i (suc k) h (rw length-set l) ∙ ap (λ p. sets (set cs (cell_place i k) v) p vs) next)
  where
    next : cell_place i (suc k) ≡ suc (cell_place i k)
    next = omega arith

-- what unpacking a record leaves
module _ (t : List ℕ) (o : ℕ) (cs after : List ℕ) (i : ℕ) where
  unpacked : i < parameter_limit → record_cells * (i + 1) ≤ length cs → after ≡ sets cs (cell_place i 0) (numbers_at t o) → Unpacked t o cs i after
  unpacked h l e = record { here = here; place = cell 0 (omega arith); sized = cell 9 (omega arith); others = same; size = size }
    where
      size : length after ≡ length cs
      size = rw e (length-sets cs (cell_place i 0) (numbers_at t o))

      beside : (k : ℕ) → cell_place i k ≡ cell_place i 0 + k
      beside k = omega arith

      cell : (k : ℕ) → k < record_cells → cell_in after i k ≡ get_or (numbers_at t o) k 0
      cell k b =
          sym (cell_there after i k (there after i h (rw size (omega arith)))) ∙
          rw (e, beside k) (stores_there (numbers_at t o) cs (cell_place i 0) k b (omega arith))

      here : record_in t after i ≡ stored_at t o
      here = unfold record_in stored_at in (rw (cell 0 (omega arith), cell 1 (omega arith), cell 2 (omega arith), cell 3 (omega arith), cell 4 (omega arith), cell 5 (omega arith), cell 6 (omega arith), cell 7 (omega arith), cell 8 (omega arith), cell 9 (omega arith)))

      same : (j k : ℕ) → j < i → k < record_cells → cell_in after j k ≡ cell_in cs j k
      same j k b d = cell_agree cs after j k size (rw e (stores_before (numbers_at t o) cs (cell_place i 0) (cell_place j k) (omega arith)))

-- the same, of the numbers that the code read
pub unpacked_all : (t : List ℕ) (o : ℕ) (cs after : List ℕ) (i p a b c d e f g h j : ℕ) → p ≡ o → a ≡ le16 t (p + 2) → b ≡ le16 t (p + 4) → c ≡ le16 t (p + 6) → d ≡ le16 t (p + 8) → e ≡ le16 t (p + 10) → f ≡ le_int t (p + 12) → g ≡ le_int t (p + 16) → h ≡ le16 t (p + 20) → j ≡ le16 t (p + 22) → after ≡ kept_row cs i 0 (o ∷ a ∷ b ∷ c ∷ d ∷ e ∷ f ∷ g ∷ h ∷ j ∷ []) → i < parameter_limit → record_cells * (i + 1) ≤ length cs → Unpacked t o cs i after
unpacked_all t o cs after i p a b c d e f g h j q qa qb qc qd qe qf qg qh qj z l m =
    unpacked t o cs after i l m (z ∙ (kept_row_lem (o ∷ a ∷ b ∷ c ∷ d ∷ e ∷ f ∷ g ∷ h ∷ j ∷ []) cs i 0 l (omega arith) ∙ rw (qa, qb, qc, qd, qe, qf, qg, qh, qj, q)))
