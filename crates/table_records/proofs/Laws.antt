-- Unpacked records: their number, each of them, and one more in a loop.
use mathlib.Core.Path.{◌≡◌, refl, ap, ◌∙◌}
use mathlib.Core.Bool.{true}
use mathlib.Core.List.{List, [], ◌∷◌, ◌++◌}
use Prim.Native.Nat.{ℕ, zero, suc, ◌+◌, ◌-◌, ◌≤◌, ◌<◌}
use native.Mathlib.Omega.{arith}
use native.Mathlib.Numerals.{add-one}
use lib.ListN.{length, get_or, drop, get_or-eq_default}
use borrow.Author.Tests.{lt-ltb, le-leb}
use Rattle.numbers.specs.Limits.{parameter_limit}
use Rattle.reading_rules.specs.Record.{blank, record_at}
use Rattle.table_records.specs.Stored.{record_cells, cell_place, is_there, cell_in, record_in, records_from, records_at, Laid}

module _ (t unpacked : List ℕ) where
  pub length_records : (n i : ℕ) → length (records_from t unpacked n i) ≡ n
  unfolding records_from
  length_records zero i = refl
  length_records (suc n) i = ap suc (length_records n (suc i))

  -- ---- one of them

  pub record_from : (n i k : ℕ) → k < n → record_at (records_from t unpacked n i) k ≡ record_in t unpacked (i + k)
  unfolding records_from record_at
  record_from zero i k h = absurd (omega arith)
  record_from (suc n) i zero h = ap (record_in t unpacked) (omega arith)
  record_from (suc n) i (suc k) h =
      record_from n (suc i) k (omega arith) ∙ ap (record_in t unpacked) (omega arith)

  pub record_at_lem : (n k : ℕ) → k < n → record_at (records_at t unpacked n) k ≡ record_in t unpacked k
  record_at_lem n k h = record_from n 0 k h ∙ ap (record_in t unpacked) (omega arith)

  pub record_past : (n k : ℕ) → n ≤ k → record_at (records_at t unpacked n) k ≡ blank
  unfolding record_at
  record_past n k h = get_or-eq_default (records_at t unpacked n) blank {n = k} (rw length_records h)

  -- ---- from the i-th on, in a loop

  -- the same number of them, from the same one on
  same_records : (n m i j : ℕ) → n ≡ m → i ≡ j → records_from t unpacked n i ≡ records_from t unpacked m j
  same_records n m i j e f = rw (e, f)

  pub drop_records : (n i k : ℕ) → drop k (records_from t unpacked n i) ≡ records_from t unpacked (n - k) (i + k)
  unfolding records_from
  drop_records n i zero = same_records n (n - 0) i (i + 0) (omega arith) (omega arith)
  drop_records zero i (suc k) = same_records 0 (0 - suc k) (i + suc k) (i + suc k) (omega arith) refl
  drop_records (suc n) i (suc k) =
      drop_records n (suc i) k ∙
      same_records (n - k) (suc n - suc k) (suc i + k) (i + suc k) (omega arith) (omega arith)

  pub records_left : (n k : ℕ) → drop k (records_at t unpacked n) ≡ records_from t unpacked (n - k) k
  records_left n k = drop_records n 0 k ∙ ap (records_from t unpacked (n - k)) (omega arith)

  pub records_more : (n i : ℕ) → i < n → records_from t unpacked (n - i) i ≡ record_in t unpacked i ∷ records_from t unpacked (n - (i + 1)) (i + 1)
  unfolding records_from
  records_more n i h = rw add-one (ap (λ (m : ℕ). records_from t unpacked m i) e)
    where
      e : n - i ≡ suc (n - suc i)
      e = omega arith

  pub records_end : (n i : ℕ) → n ≤ i → records_from t unpacked (n - i) i ≡ []
  unfolding records_from
  records_end n i h = same_records (n - i) 0 i i (omega arith) refl

  pub records_all : (n : ℕ) → records_from t unpacked (n - 0) 0 ≡ records_at t unpacked n
  records_all n = same_records (n - 0) n 0 0 (omega arith) refl

  -- ---- some, then more

  pub records_append : (n m i : ℕ) → records_from t unpacked (n + m) i ≡ records_from t unpacked n i ++ records_from t unpacked m (i + n)
  unfolding records_from
  records_append zero m i = same_records (0 + m) m i (i + 0) (omega arith) (omega arith)
  records_append (suc n) m i =
      same_records (suc n + m) (suc (n + m)) i i (omega arith) refl ∙
      ap (◌∷◌ (record_in t unpacked i)) (records_append n m (suc i) ∙ ap (◌++◌ (records_from t unpacked n (suc i))) (same_records m m (suc i + n) (i + suc n) refl (omega arith)))

  -- one more behind them
  pub records_one_more : (n : ℕ) → records_at t unpacked (n + 1) ≡ records_at t unpacked n ++ (record_in t unpacked n ∷ [])
  unfolding records_from
  records_one_more n = records_append n 1 0 ∙ ap (λ (k : ℕ). records_at t unpacked n ++ (record_in t unpacked k ∷ [])) (omega arith)

-- ---- cells that are there

pub there : (cs : List ℕ) (i : ℕ) → i < parameter_limit → cell_place i record_cells ≤ length cs → is_there cs i ≡ true
unfolding is_there
there cs i h l = rw (lt-ltb i parameter_limit h, le-leb (cell_place i record_cells) (length cs) l)

same_there : (a b : List ℕ) (i : ℕ) → length b ≡ length a → is_there b i ≡ is_there a i
unfolding is_there
same_there a b i e = rw e

-- ---- cells that give the same records

pub cell_agree : (a b : List ℕ) (j k : ℕ) → length b ≡ length a → get_or b (cell_place j k) 0 ≡ get_or a (cell_place j k) 0 → cell_in b j k ≡ cell_in a j k
unfolding cell_in
cell_agree a b j k e f = rw (same_there a b j e, f)

pub record_agree : (t a b : List ℕ) (j : ℕ) → ((k : ℕ) → k < record_cells → cell_in b j k ≡ cell_in a j k) → record_in t b j ≡ record_in t a j
unfolding record_in
record_agree t a b j f =
    rw (f 0 (omega arith), f 1 (omega arith), f 2 (omega arith), f 3 (omega arith), f 4 (omega arith), f 5 (omega arith), f 6 (omega arith), f 7 (omega arith), f 8 (omega arith), f 9 (omega arith))

pub records_agree : (t a b : List ℕ) (n i : ℕ) → ((k : ℕ) → i ≤ k → k < i + n → record_in t a k ≡ record_in t b k) → records_from t a n i ≡ records_from t b n i
unfolding records_from
records_agree t a b zero i f = refl
records_agree t a b (suc n) i f =
    rw (f i (omega arith) (omega arith))
    (ap (◌∷◌ (record_in t b i)) (records_agree t a b n (suc i) (λ k g h. f k (omega arith) (omega arith))))

-- a record that is unpacked behind them
pub records_unpacked : (t a b : List ℕ) (n : ℕ) → ((j k : ℕ) → j < n → k < record_cells → cell_in b j k ≡ cell_in a j k) → records_at t b n ≡ records_at t a n
records_unpacked t a b n f = records_agree t b a n 0 (λ j g h. record_agree t a b j (λ k l. f j k (omega arith) l))

-- fewer records of a row that is laid
pub laid_fewer : (t cs : List ℕ) (n m : ℕ) → m ≤ n → Laid t cs n → Laid t cs m
laid_fewer t cs n m h l = record {
  headed = λ k a. l.headed k (omega arith);
  within = λ k a. l.within k (omega arith);
  next = λ k a. l.next k (omega arith);
}
