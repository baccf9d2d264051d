-- The declarations that a row of tokens tells stand after those whose bodies they are in, and so do their records. Assumes nothing.
use mathlib.Core.Path.{◌≡◌, refl, subst, sym, ◌∙◌}
use mathlib.Core.Bool.{Bool, true, false}
use mathlib.Core.List.{List, [], ◌∷◌}
use Prim.Native.Nat.{ℕ, zero, suc, ◌+◌, ◌<◌, ◌≤◌}
use native.Mathlib.Nat.{zero-add, add-zero}
use native.Mathlib.Omega.{arith}
use lib.Dec.{eqb}
use lib.ListN.{length}
use borrow.Author.Tests.{eqb-true}
use Rattle.classes.specs.Lists.{pick}
use Rattle.numbers.specs.Limits.{none16}
use Rattle.reading_rules.specs.Record.{Up, top, under, record_at, Before, AfterParents}
use Rattle.definition_rules.specs.Scan.{TextToken}
use Rattle.definition_rules.specs.Forms.{MaybeRun, FormSort, tops, Form, plain, compound, no_field, field, no_group, group, last_top, more_tops}
use Rattle.definition_rules.specs.Declarations.{Declaration, declaration, Noted, count_form, declare, tree_declarations, complete, parse_tokens, declarations_of}
use Rattle.definition_rules.specs.Records.{record_for, records_for, records_of, top_names}
use Rattle.definition_rules.specs.Table.{number_up}
use Rattle.definition_rules.proofs.FormSound.{complete_fits}
use Rattle.definition_cells.specs.Cells.{cell_at, noted_at, noted_from}

before_up : (i k : ℕ) (u : Up) → i ≤ k → Before i u → Before k u
unfolding Before
before_up i k top h b = tt
before_up i k (under p) h b = omega arith

-- ---- declarations

-- those that are numbered from k on
After : ℕ → List Declaration → Type 0
After k [] = Unit {0}
After k (declaration u e h ∷ ds) = Before k u × After (suc k) ds

from : (k m : ℕ) (r : List Declaration) → m ≡ k → After m r → After k r
from k m r e a = subst (λ (j : ℕ). After j r) e a

tree_after : {s : FormSort} (x : Form s) (u : Up) (e : Bool) (k : ℕ) (r : List Declaration) → Before k u → After (k + count_form x) r → After k (declare x u e k r)
unfolding declare count_form After
tree_after (plain h) u e k r p a = (p, from (suc k) (k + 1) r (omega arith) a)
tree_after (compound h f g) u e k r p a =
    (p, tree_after f (under k) false (suc k) (declare g (under k) true (suc k + count_form f) r) (unfold Before in (omega arith)) (tree_after g (under k) true (suc k + count_form f) r (unfold Before in (omega arith)) (from _ _ r (omega arith) a)))
tree_after no_field u e k r p a = from k (k + 0) r (omega arith) a
tree_after (field x f) u e k r p a =
    tree_after x u e k (declare f u e (k + count_form x) r) p (tree_after f u e (k + count_form x) r (before_up k _ u (omega arith) p) (from _ _ r (omega arith) a))
tree_after no_group u e k r p a = from k (k + 0) r (omega arith) a
tree_after (group x f g) u e k r p a =
    tree_after x u e k (declare f u e (k + count_form x) (declare g u e (k + (count_form x + count_form f)) r)) p
    (tree_after f u e (k + count_form x) (declare g u e (k + (count_form x + count_form f)) r) (before_up k _ u (omega arith) p)
    (from _ (k + (count_form x + count_form f)) (declare g u e (k + (count_form x + count_form f)) r) (omega arith) (tree_after g u e (k + (count_form x + count_form f)) r (before_up k _ u (omega arith) p) (from _ _ r (omega arith) a))))
tree_after (last_top x) u e k r p a = tree_after x u e k r p a
tree_after (more_tops x t) u e k r p a =
    tree_after x u e k (declare t u e (k + count_form x) r) p (tree_after t u e (k + count_form x) r (before_up k _ u (omega arith) p) (from _ _ r (omega arith) a))

after_at : (t cs : List ℕ) (n i : ℕ) → After i (declarations_of (noted_from t cs n i)) → (j : ℕ) → j < n → Before (i + j) (number_up (cell_at cs (i + j) 15))
unfolding noted_from noted_at declarations_of After
after_at t cs zero i a j h = absurd (omega arith)
after_at t cs (suc n) i a zero h = rw (add-zero i) a.0
after_at t cs (suc n) i a (suc j) h =
    let z : i + suc j ≡ suc i + j = omega arith in
    rw z (after_at t cs n (suc i) a.1 j (omega arith))

-- the row of numbers holds the declarations of a row of tokens
pub parents_before : (t cs : List ℕ) (n : ℕ) (ts : List TextToken) (ns : List Noted) → parse_tokens ts ≡ complete ns → declarations_of (noted_from t cs n 0) ≡ declarations_of ns → (i : ℕ) → i < n → Before i (number_up (cell_at cs i 15))
parents_before t cs n ts ns p e i h = rw (zero-add i) at (after_at t cs n 0 all i h)
  where
    tree : Form tops
    tree = (complete_fits ts ns p).0.0

    told : tree_declarations tree ≡ declarations_of (noted_from t cs n 0)
    told = (complete_fits ts ns p).1 ∙ sym e

    all : After 0 (declarations_of (noted_from t cs n 0))
    all = rw told at (tree_after tree top false 0 [] (unfold Before in tt) (unfold After in tt))

-- ---- numbers and records

module _ (cs : List ℕ) (n : ℕ) (b : (i : ℕ) → i < n → Before i (number_up (cell_at cs i 15))) where
  -- a parent's number fits a u16
  pub parents_fit : n ≤ 256 → (i : ℕ) → i < n → cell_at cs i 15 ≤ none16
  unfolding number_up
  parents_fit l i h = by (eqb (cell_at cs i 15) none16) refl (b i h)
    where
      by : (c : Bool) → eqb (cell_at cs i 15) none16 ≡ c → Before i (pick c top (under (cell_at cs i 15))) → cell_at cs i 15 ≤ none16
      by true e h = omega (arith, eqb-true (cell_at cs i 15) none16 e)
      by false e g = let z : cell_at cs i 15 < i = unfold pick Before in g in omega arith

  module _ (t : List ℕ) (names : List MaybeRun) where
    record_before : (m i : ℕ) → ((j : ℕ) → j < m → Before (i + j) (number_up (cell_at cs (i + j) 15))) → (j : ℕ) → j < length (records_for names (declarations_of (noted_from t cs m i))) → Before (i + j) (record_at (records_for names (declarations_of (noted_from t cs m i))) j).parent
    unfolding noted_from noted_at declarations_of records_for record_for record_at
    record_before zero i a j h = absurd (omega arith)
    record_before (suc m) i a zero h = subst (λ (q : ℕ). Before (i + 0) (number_up (cell_at cs q 15))) (add-zero i) (a 0 (omega arith))
    record_before (suc m) i a (suc j) h =
        let z : suc i + j ≡ i + suc j = omega arith in
        subst (λ (k : ℕ). Before k (record_at (records_for names (declarations_of (noted_from t cs m (suc i)))) j).parent) z (record_before m (suc i) (λ k l. subst (λ (q : ℕ). Before q (number_up (cell_at cs q 15))) (omega arith) (a (suc k) (omega arith))) j (omega arith))

  pub records_after_parents : (t : List ℕ) → AfterParents (records_of (declarations_of (noted_from t cs n 0)))
  unfolding AfterParents records_of
  records_after_parents t i h =
      let z : 0 + i ≡ i = zero-add i in
      subst (λ (k : ℕ). Before k (record_at (records_for (top_names (declarations_of (noted_from t cs n 0))) (declarations_of (noted_from t cs n 0))) i).parent) z (record_before t (top_names (declarations_of (noted_from t cs n 0))) n 0 (λ j l. subst (λ (q : ℕ). Before q (number_up (cell_at cs q 15))) (sym (zero-add j)) (b j l)) i h)
