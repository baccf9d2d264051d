-- The compiler's checks over all records, and the rules over the bytes.
use mathlib.Core.Path.{◌≡◌, refl, ap, sym, ◌∙◌}
use mathlib.Core.Bool.{Bool, true, false, not, ◌&&◌, ◌||◌}
use mathlib.Core.List.{List, [], ◌∷◌}
use Prim.Native.Nat.{ℕ, zero, suc, ◌+◌, ◌-◌, ◌^◌, ◌≤◌, ◌<◌}
use native.Mathlib.Numerals.{add-one}
use native.Mathlib.Omega.{arith}
use lib.Dec.{leb}
use lib.ListN.{length, get_or}
use mathlib.Core.Logic.{◌↔◌}
use borrow.Author.Tests.{lt-leb, le-leb}
use Rattle.numbers.specs.Limits.{parameter_limit}
use Rattle.reading_rules.specs.Record.{Record}
use Rattle.definition_rules.specs.Table.{Maybe, none, just, decode}
use Rattle.definition_rules.specs.Finite.{finites, is_endless}
use Rattle.definition_rules.specs.Words.{kind_is_compound}
use Rattle.table_rules.specs.Compilable.{Compilable}
use Rattle.table_rules.proofs.Facts.{rules_formed, rules_ordered, apart}
use Rattle.table_rules.proofs.TextRules.{ordered_after_parents}
use Rattle.table_rules.proofs.Theorems.{rules_iff}
use Rattle.table_rules.specs.RecordRules.{none_broken, record_checks, record_rules, rules_of, table_rules}
use Rattle.table_records.specs.Stored.{record_in, records_from, records_at}
use Rattle.table_records.proofs.Laws.{length_records, records_more, records_end, records_all}
use Rattle.table_checks.specs.Sweeps.{HasFinites, AllFinite}
use Rattle.definition_rules.specs.Faults.{void_many, rule7_broken, tag_repeated, root_no_struct}
use Rattle.table_tags.specs.Search.{Searchable}
use Rattle.std.specs.Prelude.{Option, Some, None, is_some}
use Rattle.std.specs.List.{list_any, range_with_len}
use Rattle.table_walk.specs.Walked.{RecordsCounted, Uncounted}
use Rattle.table.specs.Checks.{is_broken, Fine, Checked}

-- ---- one check over all records

neither : (a b : Bool) → not (a || b) ≡ not a && not b
neither true b = refl
neither false b = refl

module _ (f : ℕ → Record → Bool) (t unpacked : List ℕ) where
  none_range : (n i : ℕ) → not (list_any (λ j. f j (record_in t unpacked j)) (range_with_len i n)) ≡ none_broken f i (records_from t unpacked n i)
  unfolding none_broken records_from
  none_range zero i = refl
  none_range (suc n) i = neither (f i (record_in t unpacked i)) (list_any (λ j. f j (record_in t unpacked j)) (range_with_len (i + 1) n)) ∙ ap (λ b. not (f i (record_in t unpacked i)) && b) (rw add-one (none_range n (suc i)))

  -- the test fails at all numbers below n
  pub none_by : (n : ℕ) (b : Bool) → b ≡ list_any (λ j. f j (record_in t unpacked j)) (range_with_len 0 n) → not b ≡ none_broken f 0 (records_at t unpacked n)
  none_by n b e = ap not e ∙ none_range n 0

  -- ---- in a loop
  module _ (n : ℕ) where
    pub none_start : none_broken f 0 (records_at t unpacked n) ≡ none_broken f 0 (records_from t unpacked (n - 0) 0)
    none_start = rw (records_all t unpacked n)

    module _ (i : ℕ) where
      pub none_end : n ≤ i → none_broken f i (records_from t unpacked (n - i) i) ≡ true
      unfolding none_broken
      none_end h = rw (records_end t unpacked n i h)

      pub none_no : i < n → f i (record_in t unpacked i) ≡ true → none_broken f i (records_from t unpacked (n - i) i) ≡ false
      unfolding none_broken
      none_no h e = rw (records_more t unpacked n i h, e)

      pub none_more : i < n → f i (record_in t unpacked i) ≡ false → none_broken f i (records_from t unpacked (n - i) i) ≡ none_broken f (i + 1) (records_from t unpacked (n - (i + 1)) (i + 1))
      unfolding none_broken
      none_more h e = rw (records_more t unpacked n i h, e, ← add-one i)

-- finite values as the code found them
none_found : (rs : List Record) (have : List Bool) → HasFinites rs have → (i : ℕ) (qs : List Record) → none_broken (is_endless have) i qs ≡ none_broken (is_endless (finites rs)) i qs
unfolding none_broken is_endless
none_found rs have f i [] = refl
none_found rs have f i (q ∷ qs) = rw (f i, none_found rs have f (suc i) qs)

and_no : (a : Bool) → a && false ≡ false
and_no true = refl
and_no false = refl

-- marks that are all set
none_endless : (have : List Bool) (i : ℕ) (qs : List Record) → ((k : ℕ) → k < length qs → get_or have (i + k) false ≡ true) → none_broken (is_endless have) i qs ≡ true
unfolding none_broken is_endless
none_endless have i [] f = refl
none_endless have i (q ∷ qs) f =
    let y : i ≡ i + 0 = omega arith in
    let h : get_or have i false ≡ true = rw y (f 0 (omega arith)) in
    rw (h, and_no (kind_is_compound q.kind)) (none_endless have (suc i) qs (λ k l. let z : suc i + k ≡ i + suc k = omega arith in rw z (f (suc k) (omega arith))))

all_three : (a b d w x z : Bool) → not (d || (a || b)) && (w && (x && z)) ≡ (not a && w) && ((not b && x) && (not d && z))
all_three a b true w x z = rw (and_no (not b && x), and_no (not a && w))
all_three true b false w x z = refl
all_three false true false w x z = rw (and_no w)
all_three false false false w x z = refl

in_turn : (v r t o e : Bool) → (v && (r && o)) && (t && e) ≡ v && (r && (t && (o && e)))
in_turn true true true true e = refl
in_turn true true true false e = refl
in_turn true true false true e = refl
in_turn true true false false e = refl
in_turn true false t o e = refl
in_turn false r t o e = refl

module _ (rs : List Record) where
  abbrev unbroken : Bool
  unbroken = none_broken (is_broken rs) 0 rs

  abbrev tags_once : Bool
  tags_once = none_broken (tag_repeated rs) 0 rs

  -- three checks in one go over the records
  three : (i : ℕ) (qs : List Record) → none_broken (is_broken rs) i qs ≡ none_broken void_many i qs && (none_broken (rule7_broken rs) i qs && none_broken root_no_struct i qs)
  unfolding none_broken is_broken
  three i [] = refl
  three i (q ∷ qs) = rw (three (suc i) qs) (all_three (void_many i q) (rule7_broken rs i q) (root_no_struct i q) _ _ _)

  checks_are : unbroken && (tags_once && none_broken (is_endless (finites rs)) 0 rs) ≡ record_checks rs
  unfolding record_checks
  checks_are = ap (λ b. b && (tags_once && none_broken (is_endless (finites rs)) 0 rs)) (three 0 rs) ∙ in_turn (none_broken void_many 0 rs) (none_broken (rule7_broken rs) 0 rs) tags_once (none_broken root_no_struct 0 rs) _

  pub checks_broken : unbroken ≡ false → record_checks rs ≡ false
  checks_broken e = sym checks_are ∙ rw e

  pub checks_repeated : unbroken ≡ true → tags_once ≡ false → record_checks rs ≡ false
  checks_repeated e o = sym checks_are ∙ rw (e, o)

  pub checks_finite : (have : List Bool) → unbroken ≡ true → tags_once ≡ true → HasFinites rs have → none_broken (is_endless have) 0 rs ≡ record_checks rs
  checks_finite have e o f = none_found rs have f 0 rs ∙ (sym (rw (e, o)) ∙ checks_are)

  pub checks_structs : unbroken ≡ true → tags_once ≡ true → AllFinite rs → record_checks rs ≡ true
  checks_structs e o f = sym checks_are ∙ rw (e, o) (none_endless (finites rs) 0 rs (λ k h. let z : 0 + k ≡ k = omega arith in rw z (f k h)))

-- ---- the rules

pub some_few : (t unpacked : List ℕ) (n : ℕ) → (n ≡ 0 → ⊥) → n ≤ 256 → (leb 1 (length (records_at t unpacked n)) ≡ true) × (leb (length (records_at t unpacked n)) parameter_limit ≡ true)
some_few t unpacked n h l = rw (length_records t unpacked n 0) (le-leb 1 n (omega arith), le-leb n 256 l)

pub rules_none : (t unpacked : List ℕ) (n : ℕ) → n ≡ 0 → record_rules parameter_limit (records_at t unpacked n) ≡ false
unfolding record_rules
rules_none t unpacked n e = rw (length_records t unpacked n 0, lt-leb 1 n (omega arith))

pub table_counted : (t unpacked : List ℕ) (n : ℕ) → RecordsCounted t unpacked n → record_rules parameter_limit (records_at t unpacked n) ≡ table_rules parameter_limit t
unfolding table_rules rules_of
table_counted t unpacked n c = rw c.these

pub table_bad : (t : List ℕ) → Uncounted t → table_rules parameter_limit t ≡ false
unfolding table_rules
table_bad t u = go (decode t) refl
  where
    go : (m : Maybe (List Record)) → decode t ≡ m → rules_of parameter_limit m ≡ false
    go none e = unfold rules_of in refl
    go (just rs) e = unfold rules_of record_rules in (rw (lt-leb (length rs) parameter_limit (u rs e)) (and_no (leb 1 (length rs))))

-- ---- what the paper asks

-- the rules are what the paper asks
pub promised : (t : List ℕ) (b : Bool) → ((i : ℕ) → get_or t i 0 < 2 ^ 8) → b ≡ table_rules parameter_limit t → (b ≡ table_rules parameter_limit t) × ((b ≡ true) ↔ Compilable t)
promised t b h e = (e, ((λ x. (rules_iff t h).0 (sym e ∙ x)), λ c. e ∙ (rules_iff t h).1 c))

-- ---- the search

-- the records of a table that keeps the rules can be searched
pub searchable : (t cs : List ℕ) (n : ℕ) → table_rules parameter_limit t ≡ true → RecordsCounted t cs n → Searchable t cs n
searchable t cs n e c = record { laid = c.laid; behind = ordered_after_parents rs (rules_ordered parameter_limit rs rules); once = apart rs (rules_formed parameter_limit rs rules) }
  where
    rs : List Record
    rs = records_at t cs n

    rules : record_rules parameter_limit rs ≡ true
    rules = table_counted t cs n c ∙ e

-- ---- the check

pub checked_kept : (t cs : List ℕ) (w : Option ℕ) → Checked t cs w → is_some w ≡ table_rules parameter_limit t
unfolding Checked
checked_kept t cs (Some n) h = sym h.kept
checked_kept t cs None h = sym h

pub checked_fine : (t cs : List ℕ) (w : Option ℕ) (n : ℕ) → Checked t cs w → w ≡ Some n → Fine t cs n
unfolding Checked
checked_fine t cs w n h e = rw e at h

pub checked_bad : (t cs : List ℕ) (w : Option ℕ) → Checked t cs w → w ≡ None → table_rules parameter_limit t ≡ false
unfolding Checked
checked_bad t cs w h e = rw e at h
