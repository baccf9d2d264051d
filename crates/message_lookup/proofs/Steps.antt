-- One record more in each loop, and the blank record past the last.
use mathlib.Core.Path.{◌≡◌, refl, ap, sym, ◌∙◌}
use mathlib.Core.Bool.{Bool, true, false, not, ◌&&◌}
use mathlib.Core.List.{List, ◌∷◌}
use Prim.Native.Nat.{ℕ, suc, ◌+◌, ◌-◌, ◌≤◌, ◌<◌}
use native.Mathlib.Numerals.{add-one}
use borrow.Author.Tests.{ne_eqb}
use lib.Dec.{eqb}
use lib.ListN.{drop}
use Rattle.reading_rules.specs.Record.{Record, blank}
use Rattle.reading_rules.specs.Schema.{Kind, void, simple, struct, union, reference, Found, nowhere, found, first, numbers_where, is_void, kind_of, core_of}
use Rattle.reading_rules.proofs.CountLaws.{clash_bool}
use Rattle.table_records.specs.Stored.{record_in, records_from, records_at}
use Rattle.table_records.proofs.Laws.{record_at_lem, record_past, records_left, records_more, records_end, records_all}
use Rattle.message_lookup.specs.Questions.{nth}
use Rattle.message_lookup.specs.Seen.{is_missing, complete_from}

-- ---- one record

module _ {A : Type 0} (f : Record → A) (t unpacked : List ℕ) (n p : ℕ) where
  pub past : n ≤ p → f blank ≡ f (nth t unpacked n p)
  past h = rw (record_past t unpacked n p h)

  pub here : {a : A} → p < n → a ≡ f (record_in t unpacked p) → a ≡ f (nth t unpacked n p)
  here h e = rw (record_at_lem t unpacked n p h) e

-- the kind by the four tests of its number
abbrev kind_by : Bool → Bool → Bool → Bool → Kind
kind_by a b c d = elim a [
  | true ↦ void
  | false ↦ elim b [ true ↦ struct | false ↦ elim c [ true ↦ union | false ↦ elim d [ true ↦ reference | false ↦ simple ] ] ]
]

pub kind_simple : (k : ℕ) → (k ≡ 1 → ⊥) → (k ≡ 8 → ⊥) → (k ≡ 9 → ⊥) → (k ≡ 10 → ⊥) → kind_of k ≡ simple
unfolding kind_of
kind_simple k v s u r = rw (ne_eqb k 1 v, kind_of, ne_eqb k 8 s, ne_eqb k 9 u, ne_eqb k 10 r)

pub void_number : (k : ℕ) → eqb k 1 ≡ is_void (kind_of k)
unfolding is_void kind_of
void_number k = go (eqb k 1) (eqb k 8) (eqb k 9) (eqb k 10)
  where
    go : (a b c d : Bool) → a ≡ is_void (kind_by a b c d)
    go true b c d = refl
    go false true c d = refl
    go false false true d = refl
    go false false false true = refl
    go false false false false = refl

-- a kind number but 10 is no reference's
pub core_own : (p q k : ℕ) → (k ≡ 10 → ⊥) → p ≡ core_of p q (kind_of k)
unfolding core_of kind_of
core_own p q k h = go (eqb k 1) (eqb k 8) (eqb k 9) (eqb k 10) (ne_eqb k 10 h)
  where
    go : (a b c d : Bool) → d ≡ false → p ≡ core_of p q (kind_by a b c d)
    go true b c d e = refl
    go false true c d e = refl
    go false false true d e = refl
    go false false false true e = clash_bool (sym e)
    go false false false false e = refl

pub core_target : (p q k : ℕ) → k ≡ 10 → q ≡ core_of p q (kind_of k)
unfolding core_of kind_of
core_target p q k h = rw h

-- ---- searches

module _ (f : Record → Bool) (i : ℕ) (r : Record) (rs : List Record) where
  pub where_true : f r ≡ true → numbers_where f i (r ∷ rs) ≡ i ∷ numbers_where f (suc i) rs
  unfolding numbers_where
  where_true e = rw (e, numbers_where)

  pub where_false : f r ≡ false → numbers_where f i (r ∷ rs) ≡ numbers_where f (suc i) rs
  unfolding numbers_where
  where_false e = rw (e, numbers_where)

-- the first from the k-th record on
abbrev pub first_from : List ℕ → List ℕ → ℕ → (Record → Bool) → ℕ → Found
first_from t unpacked n f k = first (numbers_where f k (records_from t unpacked (n - k) k))

module _ (t unpacked : List ℕ) (n : ℕ) (f : Record → Bool) (k : ℕ) where
  pub search_hit : k < n → f (record_in t unpacked k) ≡ true → first_from t unpacked n f k ≡ found k
  unfolding first
  search_hit h e = rw (records_more t unpacked n k h, where_true f k (record_in t unpacked k) (records_from t unpacked (n - (k + 1)) (k + 1)) e)

  pub search_more : k < n → f (record_in t unpacked k) ≡ false → first_from t unpacked n f k ≡ first_from t unpacked n f (k + 1)
  search_more h e =
      ap first
      (ap (numbers_where f k) (records_more t unpacked n k h) ∙
      where_false f k (record_in t unpacked k) (records_from t unpacked (n - (k + 1)) (k + 1)) e ∙
      ap (λ (m : ℕ). numbers_where f m (records_from t unpacked (n - (k + 1)) (k + 1))) (sym (add-one k)))

  pub search_end : n ≤ k → first_from t unpacked n f k ≡ nowhere
  unfolding first numbers_where
  search_end h = rw (records_end t unpacked n k h)

  pub search_starts : first_from t unpacked n f k ≡ first (numbers_where f k (drop k (records_at t unpacked n)))
  search_starts = rw (records_left t unpacked n k)

-- ---- what is missing

abbrev pub complete_on : List ℕ → List ℕ → ℕ → ℕ → List Bool → ℕ → Bool
complete_on t unpacked n p seen k = complete_from p seen k (records_from t unpacked (n - k) k)

module _ (t unpacked : List ℕ) (n p : ℕ) (seen : List Bool) (k : ℕ) where
  one_more : (b : Bool) → k < n → is_missing p seen k (record_in t unpacked k) ≡ b → complete_on t unpacked n p seen k ≡ not b && complete_on t unpacked n p seen (k + 1)
  unfolding complete_from
  one_more b h e = rw (records_more t unpacked n k h, ← e, add-one)

  pub complete_more : k < n → is_missing p seen k (record_in t unpacked k) ≡ false → complete_on t unpacked n p seen k ≡ complete_on t unpacked n p seen (k + 1)
  complete_more h e = one_more false h e

  pub complete_stop : k < n → is_missing p seen k (record_in t unpacked k) ≡ true → complete_on t unpacked n p seen k ≡ false
  complete_stop h e = one_more true h e

  pub complete_end : n ≤ k → complete_on t unpacked n p seen k ≡ true
  unfolding complete_from
  complete_end h = rw (records_end t unpacked n k h)

pub complete_starts : (t unpacked : List ℕ) (n p : ℕ) (seen : List Bool) → complete_on t unpacked n p seen 0 ≡ complete_from p seen 0 (records_at t unpacked n)
complete_starts t unpacked n p seen = rw (records_all t unpacked n)
