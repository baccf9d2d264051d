-- Loops over records that look for one.
use mathlib.Core.Path.{◌≡◌, refl, ap, sym, ◌∙◌}
use mathlib.Core.Bool.{Bool, true, false, ◌&&◌, ◌||◌}
use Rattle.std.proofs.Common.{add-zero}
use Rattle.std.specs.List.{list_any, list_all, range_with_len}
use Rattle.reading_rules.proofs.CountLaws.{and_both}
use native.Mathlib.Numerals.{add-one}
use mathlib.Core.List.{List, [], ◌∷◌}
use Prim.Native.Nat.{ℕ, zero, suc, ◌+◌, ◌-◌, ◌<◌, min}
use native.Mathlib.Omega.{arith}
use lib.ListN.{length}
use Rattle.reading_rules.specs.Record.{Record, Up, top, under, is_top}
use lib.Dec.{eqb}
use borrow.Author.Tests.{eq-eqb, ne_eqb}
use Rattle.classes.specs.Lists.{pick}
use Rattle.definition_rules.specs.Faults.{any_before, any_of, parent_kind, misplaced_field, misplaced_alternative, misplaced_untagged, number_tag, void_top, plugin_undotted, rule7_broken}
use Rattle.table_records.specs.Stored.{record_in, records_from, records_at}
use Rattle.table_records.proofs.Laws.{length_records}

any_in_all : (f : Record → Bool) (rs : List Record) → any_before (length rs) f rs ≡ any_of f rs
unfolding any_before any_of
any_in_all f [] = refl
any_in_all f (r ∷ rs) = rw (any_in_all f rs)

module _ (f : Record → Bool) (t unpacked : List ℕ) where
  any_range : (m n i k : ℕ) → k ≡ min m n → list_any (λ j. f (record_in t unpacked j)) (range_with_len i k) ≡ any_before m f (records_from t unpacked n i)
  unfolding any_before records_from
  any_range zero n i zero e = refl
  any_range zero n i (suc k) e = absurd (omega arith)
  any_range (suc m) zero i zero e = refl
  any_range (suc m) zero i (suc k) e = absurd (omega arith)
  any_range (suc m) (suc n) i zero e = absurd (omega arith)
  any_range (suc m) (suc n) i (suc k) e = ap (λ b. f (record_in t unpacked i) || b) (rw add-one (any_range m n (suc i) k (omega arith)))

  -- among the first m of n
  pub any_among : (m n k : ℕ) → k ≡ min m n → list_any (λ j. f (record_in t unpacked j)) (range_with_len 0 k) ≡ any_before m f (records_at t unpacked n)
  any_among m n k e = any_range m n 0 k e

  -- among all
  pub any_of_lem : (n : ℕ) → any_before n f (records_at t unpacked n) ≡ any_of f (records_at t unpacked n)
  any_of_lem n = ap (λ (m : ℕ). any_before m f (records_at t unpacked n)) (sym (length_records t unpacked n 0)) ∙ any_in_all f (records_at t unpacked n)

-- ---- what a test says of all numbers below one

all_from : (test : ℕ → Bool) (n i k : ℕ) → list_all test (range_with_len i n) ≡ true → k < n → test (i + k) ≡ true
all_from test zero i k e h = absurd (omega arith)
all_from test (suc n) i zero e h = rw add-zero (and_both (test i) (list_all test (range_with_len (i + 1) n)) e (λ a b. a))
all_from test (suc n) i (suc k) e h =
    let z : i + suc k ≡ i + 1 + k = omega arith in
    rw z (all_from test n (i + 1) k (and_both (test i) (list_all test (range_with_len (i + 1) n)) e (λ a b. b)) (omega arith))

pub all_range : (test : ℕ → Bool) (n k : ℕ) → list_all test (range_with_len 0 n) ≡ true → k < n → test k ≡ true
all_range test n k e h = let z : k ≡ 0 + k = omega arith in rw z (all_from test n 0 k e h)

-- ---- an untagged record, by its parent's kind

module _ (rs : List Record) (i : ℕ) (r : Record) (k : ℕ) (u : r.untagged ≡ true) (e : k ≡ parent_kind rs r.parent) where
  untagged_by : (b : Bool) → eqb k 9 ≡ b → misplaced_untagged rs i r ≡ pick b (misplaced_alternative rs i r) (misplaced_field rs i r)
  unfolding misplaced_untagged
  untagged_by b z = go r.untagged (eqb (parent_kind rs r.parent) 9) u (ap (λ (j : ℕ). eqb j 9) (sym e) ∙ z)
    where
      go : (x y : Bool) → x ≡ true → y ≡ b → x && pick y (misplaced_alternative rs i r) (misplaced_field rs i r) ≡ pick b (misplaced_alternative rs i r) (misplaced_field rs i r)
      go x y p q = rw (p, q)

  pub untagged_alternative : k ≡ 9 → misplaced_untagged rs i r ≡ misplaced_alternative rs i r
  unfolding pick
  untagged_alternative z = untagged_by true (eq-eqb k 9 z)

  pub untagged_field : (k ≡ 9 → ⊥) → misplaced_untagged rs i r ≡ misplaced_field rs i r
  unfolding pick
  untagged_field z = untagged_by false (ne_eqb k 9 z)

-- ---- an untagged field in an extension

module _ (rs : List Record) (i : ℕ) (r : Record) (x : r.extension ≡ true) where
  pub field_in_extension : true ≡ misplaced_field rs i r
  unfolding misplaced_field
  field_in_extension = rw x

  pub alternative_in_extension : true ≡ misplaced_alternative rs i r
  unfolding misplaced_alternative
  alternative_in_extension = rw x

-- ---- a tagged field of a struct

-- it breaks no rule of number 7 unless it is a plugin
pub tagged_field : (rs : List Record) (i : ℕ) (r : Record) → r.untagged ≡ false → r.plugin ≡ false → parent_kind rs r.parent ≡ 8 → rule7_broken rs i r ≡ false
unfolding rule7_broken misplaced_untagged number_tag void_top plugin_undotted
tagged_field rs i r u p k = rw (u, p, ne_eqb (parent_kind rs r.parent) 9 (λ e. omega arith), no_top r.parent k)
  where
    no_top : (x : Up) → parent_kind rs x ≡ 8 → is_top x ≡ false
    no_top top e = absurd (unfold parent_kind in (omega arith))
    no_top (under q) e = unfold is_top in refl
