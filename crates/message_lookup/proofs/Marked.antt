-- Marks stand for the fields that have appeared.
use mathlib.Core.Path.{◌≡◌, refl, ap, sym, ◌∙◌}
use mathlib.Core.Bool.{Bool, true, false, not, ◌&&◌, ◌||◌}
use mathlib.Core.List.{List, [], ◌∷◌}
use Prim.Native.Nat.{ℕ, suc, ◌+◌, ◌<◌}
use native.Mathlib.Omega.{arith}
use lib.Dec.{eqb, ltb}
use lib.ListN.{length, get_or, set, length-set, length-replicate}
use lib.Seq.{get_or-set_same, get_or-set_other}
use Rattle.classes.proofs.Rows.{no_mark}
use Rattle.numbers.specs.Limits.{parameter_limit}
use Rattle.reading_rules.specs.Record.{Record, blank, record_at}
use Rattle.reading_rules.specs.Schema.{Schema, schema_of, numbers_where, is_tagged_of}
use Rattle.reading_rules.specs.Count.{same, times, has, all_in}
use Rattle.reading_rules.proofs.CountLaws.{same_self, same_case, in_has, out_hasnt, in_head}
use Rattle.reading_rules.specs.Parse.{required_of}
use Rattle.message_lookup.specs.Seen.{Marks, no_marks, complete_from}
use Rattle.message_lookup.proofs.Steps.{where_true, where_false}

-- none has appeared
pub marks_none : Marks no_marks []
unfolding no_marks times
marks_none = record {
  size = length-replicate parameter_limit false;
  marked = λ k. no_mark parameter_limit k ∙ sym (out_hasnt [] k refl);
}

-- one more
has_more : (ks : List ℕ) (k j : ℕ) → same k j ≡ 0 → has ks j ≡ has (k ∷ ks) j
unfolding has times
has_more ks k j e = ap (ltb 0) more
  where
    more : times j ks ≡ times j (k ∷ ks)
    more = omega (arith, e)

pub marks_more : (seen : List Bool) (ks : List ℕ) (k : ℕ) → k < parameter_limit → Marks seen ks → Marks (set seen k true) (k ∷ ks)
marks_more seen ks k h m = record {
  size = rw length-set m.size;
  marked = λ j. same_case k j
      (λ e. rw (← e) (get_or-set_same seen k true false (omega (arith, m.size)) ∙ sym (in_has (k ∷ ks) k (in_head k ks))))
      (λ e. get_or-set_other seen k j true false (λ q. apart j e q) ∙ m.marked j ∙ has_more ks k j e);
}
  where
    apart : (j : ℕ) → same k j ≡ 0 → j ≡ k → ⊥
    apart j e q = omega (arith, same_self k, rw q at e)

-- ---- complete

module _ (S : Schema) (q : ℕ) (qs : List ℕ) where
  required_not : S.optional q || eqb (S.lo q) 0 ≡ true → required_of S (q ∷ qs) ≡ required_of S qs
  unfolding required_of
  required_not e = rw (e, required_of)

  required_too : S.optional q || eqb (S.lo q) 0 ≡ false → required_of S (q ∷ qs) ≡ q ∷ required_of S qs
  unfolding required_of
  required_too e = rw (e, required_of)

not_not : (b : Bool) → not (not b) ≡ b
not_not true = refl
not_not false = refl

-- the field can be absent
abbrev can_be_absent : Record → Bool
can_be_absent r = (r.extension || r.plugin) || eqb r.lo_count 0

module _ (table : List Record) (p : ℕ) (seen : List Bool) (ks : List ℕ) (m : Marks seen ks) where
  abbrev S : Schema
  S = schema_of table

  -- what the fields from i on ask
  abbrev asked : ℕ → List Record → Bool
  asked i rs = all_in (required_of S (numbers_where (is_tagged_of p) i rs)) ks

  module _ (i : ℕ) (r : Record) (rs : List Record) (same : record_at table i ≡ r) where
    absent : S.optional i || eqb (S.lo i) 0 ≡ can_be_absent r
    unfolding schema_of
    absent = ap can_be_absent same

    other : is_tagged_of p r ≡ false → asked i (r ∷ rs) ≡ asked (suc i) rs
    other e = rw (where_false (is_tagged_of p) i r rs e)

    unasked : is_tagged_of p r ≡ true → can_be_absent r ≡ true → asked i (r ∷ rs) ≡ asked (suc i) rs
    unasked e o = rw (where_true (is_tagged_of p) i r rs e, required_not S i (numbers_where (is_tagged_of p) (suc i) rs) (absent ∙ o))

    asked_for : is_tagged_of p r ≡ true → can_be_absent r ≡ false → asked i (r ∷ rs) ≡ get_or seen i false && asked (suc i) rs
    unfolding all_in
    asked_for e o =
        rw (where_true (is_tagged_of p) i r rs e, required_too S i (numbers_where (is_tagged_of p) (suc i) rs) (absent ∙ o), m.marked i)

    one : (t o : Bool) → is_tagged_of p r ≡ t → can_be_absent r ≡ o
        → complete_from p seen i (r ∷ rs) ≡ not ((t && not o) && not (get_or seen i false)) && complete_from p seen (suc i) rs
    unfolding complete_from
    one t o e f = rw (← e, ← f)

    step : (t o : Bool) → is_tagged_of p r ≡ t → can_be_absent r ≡ o → complete_from p seen (suc i) rs ≡ asked (suc i) rs
        → complete_from p seen i (r ∷ rs) ≡ asked i (r ∷ rs)
    step false o e f h = one false o e f ∙ h ∙ sym (other e)
    step true true e f h = one true true e f ∙ h ∙ sym (unasked e f)
    step true false e f h = one true false e f ∙ rw (not_not (get_or seen i false), h) (sym (asked_for e f))

  complete_from_lem : (i : ℕ) (rs : List Record) → ((k : ℕ) → k < length rs → record_at table (i + k) ≡ get_or rs k blank)
      → complete_from p seen i rs ≡ asked i rs
  unfolding complete_from required_of all_in numbers_where
  complete_from_lem i [] f = refl
  complete_from_lem i (r ∷ rs) f =
      step i r rs (at i (i + 0) (omega arith) ∙ f 0 (omega arith)) (is_tagged_of p r) (can_be_absent r) refl refl
      (complete_from_lem (suc i) rs (λ k h. at (suc i + k) (i + suc k) (omega arith) ∙ f (suc k) (omega arith)))
    where
      at : (a b : ℕ) → a ≡ b → record_at table a ≡ record_at table b
      at a b e = ap (record_at table) e

  -- what the code asks of the marks is what a reading asks of the fields
  pub complete_marks : complete_from p seen 0 table ≡ all_in (required_of S (S.tagged p)) ks
  unfolding record_at schema_of
  complete_marks = complete_from_lem 0 table (λ k h. ap (record_at table) (omega arith))
