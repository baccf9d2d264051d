-- Records by their numbers: unions, tops, and values that stand alone.
use mathlib.Core.Path.{◌≡◌, refl, ap, sym, ◌∙◌}
use mathlib.Core.Bool.{Bool, true, false}
use mathlib.Core.List.{List}
use Prim.Native.Nat.{ℕ, zero, suc, ◌+◌, ◌≤◌, ◌<◌}
use native.Mathlib.Omega.{arith}
use lib.Dec.{eqb}
use Rattle.reading_rules.specs.Record.{Up, top, under, is_top}
use Rattle.reading_rules.proofs.CountLaws.{clash_bool}
use Rattle.definition_rules.specs.Table.{up_number}
use Rattle.definition_rules.specs.Faults.{is_union_at}
use Rattle.table_rules.specs.RecordRules.{kinds_of_records, is_single_value, is_top_at}
use Rattle.table_records.specs.Stored.{record_in, records_from, records_at}

module _ (t unpacked : List ℕ) where
  union_from : (n i k : ℕ) → k < n → is_union_at (kinds_of_records (records_from t unpacked n i)) k ≡ eqb (record_in t unpacked (i + k)).kind 9
  unfolding records_from kinds_of_records is_union_at
  union_from zero i k h = absurd (omega arith)
  union_from (suc n) i zero h = ap (λ (j : ℕ). eqb (record_in t unpacked j).kind 9) (omega arith)
  union_from (suc n) i (suc k) h = union_from n (suc i) k (omega arith) ∙ ap (λ (j : ℕ). eqb (record_in t unpacked j).kind 9) (omega arith)

  past_from : (n i k : ℕ) → n ≤ k → is_union_at (kinds_of_records (records_from t unpacked n i)) k ≡ false
  unfolding records_from kinds_of_records is_union_at
  past_from zero i k h = refl
  past_from (suc n) i zero h = absurd (omega arith)
  past_from (suc n) i (suc k) h = past_from n (suc i) k (omega arith)

  top_from : (n i k : ℕ) → k < n → is_top_at (records_from t unpacked n i) k ≡ is_top (record_in t unpacked (i + k)).parent
  unfolding records_from is_top_at
  top_from zero i k h = absurd (omega arith)
  top_from (suc n) i zero h = ap (λ (j : ℕ). is_top (record_in t unpacked j).parent) (omega arith)
  top_from (suc n) i (suc k) h = top_from n (suc i) k (omega arith) ∙ ap (λ (j : ℕ). is_top (record_in t unpacked j).parent) (omega arith)

  no_top_from : (n i k : ℕ) → n ≤ k → is_top_at (records_from t unpacked n i) k ≡ false
  unfolding records_from is_top_at
  no_top_from zero i k h = refl
  no_top_from (suc n) i zero h = absurd (omega arith)
  no_top_from (suc n) i (suc k) h = no_top_from n (suc i) k (omega arith)

  module _ (n k : ℕ) where
    pub union_in : k < n → is_union_at (kinds_of_records (records_at t unpacked n)) k ≡ eqb (record_in t unpacked k).kind 9
    union_in h = union_from n 0 k h ∙ ap (λ (j : ℕ). eqb (record_in t unpacked j).kind 9) (omega arith)

    pub union_past : n ≤ k → is_union_at (kinds_of_records (records_at t unpacked n)) k ≡ false
    union_past h = past_from n 0 k h

    pub top_in : k < n → is_top_at (records_at t unpacked n) k ≡ is_top (record_in t unpacked k).parent
    top_in h = top_from n 0 k h ∙ ap (λ (j : ℕ). is_top (record_in t unpacked j).parent) (omega arith)

    pub top_past : n ≤ k → is_top_at (records_at t unpacked n) k ≡ false
    top_past h = no_top_from n 0 k h

pub single_top : (A : ℕ → Bool) (u : Up) → is_top u ≡ true → is_single_value A u ≡ true
unfolding is_single_value is_top
single_top A top e = refl
single_top A (under p) e = clash_bool e

pub single_under : (A : ℕ → Bool) (u : Up) (p : ℕ) → is_top u ≡ false → p ≡ up_number u → is_single_value A u ≡ A p
unfolding is_single_value is_top up_number
single_under A top p e f = clash_bool (sym e)
single_under A (under q) p e f = ap A (sym f)
