-- The search by record lengths, and that it may start at any record.
use mathlib.Core.Path.{◌≡◌, refl, ap, sym, ◌∙◌}
use mathlib.Core.Bool.{Bool, true, false, not, and-false}
use mathlib.Core.List.{List, ◌∷◌}
use Prim.Native.Nat.{ℕ, suc, ◌+◌, ◌-◌, ◌≤◌, ◌<◌}
use native.Mathlib.Numerals.{add-one}
use native.Mathlib.Omega.{arith}
use lib.Dec.{ltb}
use lib.ListN.{take, drop}
use borrow.Author.Tests.{eqb-true, ltb-true, ltb-false}
use Rattle.classes.specs.Lists.{same_bytes}
use Rattle.reading_rules.specs.Record.{Up, top, under, Record, Before, AfterParents}
use Rattle.reading_rules.specs.Schema as schema
use Rattle.reading_rules.specs.Schema.{is_under, is_tagged_of, is_tagged_as, first_where, schema_of}
use Rattle.reading_rules.proofs.CountLaws.{clash_bool, and_both}
use Rattle.reading_rules.proofs.Rules.{where_is, where_none, tag_found}
use Rattle.table_records.specs.Stored.{cell_in, record_in, records_from, records_at, length_in}
use Rattle.table_records.proofs.Laws.{length_records, record_from, record_at_lem, records_more, records_end}
use Rattle.table_tags.specs.Search.{searched, Searchable}

-- ---- the first record of some

module _ (f : Record → Bool) (i : ℕ) (r : Record) (rs : List Record) where
  pub first_here : f r ≡ true → first_where f i (r ∷ rs) ≡ schema.found i
  unfolding first_where
  first_here e = rw (e, first_where)

  pub first_later : f r ≡ false → first_where f i (r ∷ rs) ≡ first_where f (suc i) rs
  unfolding first_where
  first_later e = rw (e, first_where)

-- ---- a turn of the search

module _ (t cs : List ℕ) (f : Record → Bool) (end i : ℕ) where
  pub search_hit : i < end → f (record_in t cs i) ≡ true → first_where f i (records_from t cs (end - i) i) ≡ schema.found i
  search_hit h e = rw (records_more t cs end i h) (first_here f i (record_in t cs i) (records_from t cs (end - (i + 1)) (i + 1)) e)

  pub search_on : i < end → f (record_in t cs i) ≡ false → first_where f i (records_from t cs (end - i) i) ≡ first_where f (i + 1) (records_from t cs (end - (i + 1)) (i + 1))
  search_on h e =
      rw (records_more t cs end i h)
      (first_later f i (record_in t cs i) (records_from t cs (end - (i + 1)) (i + 1)) e ∙ ap (λ m. first_where f m (records_from t cs (end - (i + 1)) (i + 1))) (sym (add-one i)))

  pub search_end : end ≤ i → first_where f i (records_from t cs (end - i) i) ≡ schema.nowhere
  search_end h = rw (records_end t cs end i h) (unfold first_where in refl)

-- the label of the record whose bytes begin at a place
pub label_there : (t cs : List ℕ) (i at size : ℕ) → at ≡ cell_in cs i 0 → size ≡ length_in cs i → take (at + size - (at + 24)) (drop (at + 24) t) ≡ (record_in t cs i).label
unfolding record_in
label_there t cs i at size e g =
    let q : at + size - (at + 24) ≡ cell_in cs i 9 = omega arith in
    rw (q, e)

-- a field of p with another label has not this tag
pub other_label : (p : ℕ) (w : List ℕ) (r : Record) → same_bytes r.label w ≡ false → false ≡ is_tagged_as p w r
other_label p w r e = rw (e, and-false (is_tagged_of p r))

-- nor has a record of another body
pub other_body : (p : ℕ) (w : List ℕ) (r : Record) → is_under p r.parent ≡ false → false ≡ is_tagged_as p w r
other_body p w r e = rw e

-- ---- what a search finds

record FoundIn (t cs : List ℕ) (f : Record → Bool) (from end q : ℕ) : Type 0 where
  late : from ≤ q
  early : q < end
  such : f (record_in t cs q) ≡ true

module _ (t cs : List ℕ) (f : Record → Bool) (end i : ℕ) where
  found_in : (q : ℕ) → first_where f i (records_from t cs (end - i) i) ≡ schema.found q → FoundIn t cs f i end q
  found_in q e =
      let g = where_is f i (records_from t cs (end - i) i) q e in
      let h : g.0 < end - i = (rw (length_records t cs (end - i) i) at g.2) in
      let x : f (record_in t cs (i + g.0)) ≡ true = ap f (sym (record_from t cs (end - i) i g.0 h)) ∙ g.3 in
      record { late = omega (arith, g.1); early = omega (arith, g.1, h); such = rw g.1 x }

  none_in : first_where f i (records_from t cs (end - i) i) ≡ schema.nowhere → (k : ℕ) → i ≤ k → k < end → f (record_in t cs k) ≡ false
  none_in e k a b =
      let h : k - i < end - i = omega arith in
      let z : k ≡ i + (k - i) = omega arith in
      rw z (ap f (sym (record_from t cs (end - i) i (k - i) h)) ∙ where_none f i (records_from t cs (end - i) i) e (k - i) (rw (length_records t cs (end - i) i) h))

-- ---- the one of all records

module _ (t cs : List ℕ) (n p : ℕ) (w : List ℕ) where
  abbrev f : Record → Bool
  f = is_tagged_as p w

  all_from : searched t cs n p w ≡ first_where f 0 (records_from t cs (n - 0) 0)
  all_from = let z : n ≡ n - 0 = omega arith in ap (λ m. first_where f 0 (records_from t cs m 0)) z

  pub searched_below : (q : ℕ) → searched t cs n p w ≡ schema.found q → q < n
  searched_below q e = (found_in t cs f n 0 q (sym all_from ∙ e)).early

  module _ (s : Searchable t cs n) where
    -- a record with the tag is the one with it
    searched_found : (q : ℕ) → q < n → f (record_in t cs q) ≡ true → schema.found q ≡ searched t cs n p w
    unfolding schema_of
    searched_found q h x = sym (tag_found (records_at t cs n) s.once p q w (rw (length_records t cs n 0) h) (ap f (record_at_lem t cs n q h) ∙ x))

    -- a field of p stands behind it
    behind : (k : ℕ) → k < n → f (record_in t cs k) ≡ true → p < k
    unfolding AfterParents
    behind k h x = and_both (is_tagged_of p (record_in t cs k)) (same_bytes (record_in t cs k).label w) x (λ a b. and_both (is_under p (record_in t cs k).parent) (not (record_in t cs k).untagged) a (λ c d. by (record_in t cs k).parent c (rw (record_at_lem t cs n k h) at (s.behind k (rw (length_records t cs n 0) h)))))
      where
        by : (u : Up) → is_under p u ≡ true → Before k u → p < k
        by top c b = unfold is_under in (clash_bool c)
        by (under q) c b = unfold is_under Before in (omega (arith, eqb-true q p c, b))

    searched_none : ((k : ℕ) → p ≤ k → k < n → f (record_in t cs k) ≡ false) → schema.nowhere ≡ searched t cs n p w
    searched_none g = by (searched t cs n p w) refl
      where
        by : (o : schema.Found) → searched t cs n p w ≡ o → schema.nowhere ≡ o
        by schema.nowhere e = refl
        by (schema.found k) e =
            let r = found_in t cs f n 0 k (sym all_from ∙ e) in
            let b = behind k r.early r.such in
            clash_bool (sym (g k (omega arith) r.early) ∙ r.such)

    -- from a record on to the last
    pub searched_from : (from q : ℕ) → first_where f from (records_from t cs (n - from) from) ≡ schema.found q → schema.found q ≡ searched t cs n p w
    searched_from from q e = let r = found_in t cs f n from q e in searched_found q r.early r.such

    -- and then from p's own on
    pub searched_round : (from : ℕ) → from ≤ n → first_where f from (records_from t cs (n - from) from) ≡ schema.nowhere → first_where f p (records_from t cs (from - p) p) ≡ searched t cs n p w
    searched_round from h e = by (first_where f p (records_from t cs (from - p) p)) refl
      where
        by : (g : schema.Found) → first_where f p (records_from t cs (from - p) p) ≡ g → g ≡ searched t cs n p w
        by (schema.found q) z = let r = found_in t cs f from p q z in searched_found q (omega (arith, r.early)) r.such
        by schema.nowhere z = searched_none (λ k a b. on k a b (ltb k from) refl)
          where
            on : (k : ℕ) → p ≤ k → k < n → (c : Bool) → ltb k from ≡ c → f (record_in t cs k) ≡ false
            on k a b true y = none_in t cs f from p z k a (ltb-true k from y)
            on k a b false y = none_in t cs f n from e k (ltb-false k from y) b

    pub searched_all : first_where f p (records_from t cs (n - p) p) ≡ searched t cs n p w
    searched_all = searched_round n (omega arith) (search_end t cs f n n (omega arith))
