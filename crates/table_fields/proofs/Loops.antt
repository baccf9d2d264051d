-- Loops over records: each is fine, and no shown name is shown again.
use mathlib.Core.Path.{◌≡◌, refl, ap, sym, ◌∙◌}
use mathlib.Core.Bool.{Bool, true, false, not, ◌&&◌, ◌||◌}
use mathlib.Core.List.{List}
use Prim.Native.Nat.{ℕ, zero, suc, ◌+◌, ◌-◌}
use native.Mathlib.Numerals.{add-one}
use native.Mathlib.Omega.{arith}
use Rattle.std.specs.List.{list_all, list_any, range_with_len}
use Rattle.reading_rules.specs.Record.{Record}
use Rattle.definition_rules.specs.Faults.{Key, same_key, is_new_key}
use Rattle.table_rules.specs.RecordRules.{every_record, shows_name, key_if, shown_names, all_new}
use Rattle.table_records.specs.Stored.{record_in, records_from}
use Rattle.table_fields.specs.Keys.{label_key}

-- ---- each is fine

pub every_range : (f : Record → Bool) (t unpacked : List ℕ) (n i : ℕ) → list_all (λ j. f (record_in t unpacked j)) (range_with_len i n) ≡ every_record f (records_from t unpacked n i)
unfolding every_record records_from
every_range f t unpacked zero i = refl
every_range f t unpacked (suc n) i = ap (λ b. f (record_in t unpacked i) && b) (rw add-one (every_range f t unpacked n (suc i)))

-- ---- one shown name among others

new_keyed : (k : Key) (b : Bool) (j : Key) (js : List Key) → is_new_key k (key_if b j js) ≡ not (b && same_key k j) && is_new_key k js
unfolding key_if is_new_key
new_keyed k true j js = refl
new_keyed k false j js = refl

all_keyed : (b : Bool) (k : Key) (ks : List Key) → all_new (key_if b k ks) ≡ not (b && not (is_new_key k ks)) && all_new ks
unfolding key_if all_new
all_keyed false k ks = refl
all_keyed true k ks = go (is_new_key k ks)
  where
    go : (b : Bool) → b && all_new ks ≡ not (not b) && all_new ks
    go true = refl
    go false = refl

neither : (a b : Bool) → not (a || b) ≡ not a && not b
neither true b = refl
neither false b = refl

module _ (t unpacked : List ℕ) where
  -- j shows the name k
  abbrev is_shown : Key → ℕ → Bool
  is_shown k j = shows_name (record_in t unpacked j) && same_key k (label_key (record_in t unpacked j))

  pub new_range : (k : Key) (n i : ℕ) → not (list_any (is_shown k) (range_with_len i n)) ≡ is_new_key k (shown_names (records_from t unpacked n i))
  unfolding is_new_key shown_names records_from
  new_range k zero i = refl
  new_range k (suc n) i =
      neither (is_shown k i) (list_any (is_shown k) (range_with_len (i + 1) n)) ∙
      (ap (λ b. not (is_shown k i) && b) (rw add-one (new_range k n (suc i))) ∙ sym (new_keyed k (shows_name (record_in t unpacked i)) (label_key (record_in t unpacked i)) (shown_names (records_from t unpacked n (suc i)))))

  -- the name that the i-th shows is shown again behind it, of n
  abbrev is_again : ℕ → ℕ → Bool
  is_again n i = shows_name (record_in t unpacked i) && not (is_new_key (label_key (record_in t unpacked i)) (shown_names (records_from t unpacked (n - (i + 1)) (i + 1))))

  pub all_range : (n m i : ℕ) → i + m ≡ n → not (list_any (is_again n) (range_with_len i m)) ≡ all_new (shown_names (records_from t unpacked m i))
  unfolding all_new shown_names records_from
  all_range n zero i e = refl
  all_range n (suc m) i e =
      let rest : List Key = shown_names (records_from t unpacked m (suc i)) in
      let z : n - (i + 1) ≡ m = omega arith in
      let behind : not (list_any (is_again n) (range_with_len (i + 1) m)) ≡ all_new rest = rw add-one (all_range n m (suc i) (omega arith)) in
      let here : not (is_again n i) && all_new rest ≡ all_new (key_if (shows_name (record_in t unpacked i)) (label_key (record_in t unpacked i)) rest) = rw (z, add-one) (sym (all_keyed (shows_name (record_in t unpacked i)) (label_key (record_in t unpacked i)) rest)) in
      neither (is_again n i) (list_any (is_again n) (range_with_len (i + 1) m)) ∙ (ap (λ b. not (is_again n i) && b) behind ∙ here)
