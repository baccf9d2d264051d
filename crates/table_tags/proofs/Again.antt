-- A tag that stands before in its body is found among the records before.
use mathlib.Core.Path.{◌≡◌, refl, ap, sym, ◌∙◌, fun_ext}
use mathlib.Core.Bool.{Bool, true, false, not, ◌&&◌, ◌||◌}
use mathlib.Core.List.{List, ◌∷◌}
use Prim.Native.Nat.{ℕ, zero, suc, ◌-◌, ◌≤◌, ◌<◌}
use native.Mathlib.Omega.{arith}
use lib.Dec.{eqb}
use Rattle.classes.specs.Lists.{same_bytes}
use Rattle.numbers.specs.Limits.{none16}
use Rattle.reading_rules.specs.Record.{Record, Up, top, under, is_top, same_up}
use Rattle.reading_rules.specs.Schema as schema
use Rattle.reading_rules.specs.Schema.{is_under, is_tagged_as, first_where}
use Rattle.definition_rules.specs.Faults.{any_before, beside, has_wire_tag, tag_repeated}
use Rattle.definition_rules.specs.Table.{up_number}
use Rattle.table_records.specs.Stored.{record_in, records_from, records_at}
use Rattle.table_checks.proofs.Parents.{parent_top, parent_under}
use Rattle.std.specs.Prelude.{Option, Some, None, is_some}
use Rattle.table_tags.specs.Search.{found_of}
use Rattle.table_tags.proofs.Searching.{first_here, first_later}

-- ---- those before

unfoldable pub is_found : schema.Found → Bool
is_found schema.nowhere = false
is_found (schema.found q) = true

-- one of the first m is so exactly when a search among them finds one
any_first : (t cs : List ℕ) (f : Record → Bool) (m n k : ℕ) → m ≤ n → any_before m f (records_from t cs n k) ≡ is_found (first_where f k (records_from t cs m k))
unfolding any_before records_from first_where is_found
any_first t cs f zero n k h = refl
any_first t cs f (suc m) zero k h = absurd (omega arith)
any_first t cs f (suc m) (suc n) k h = by (f (record_in t cs k)) refl (any_first t cs f m n (suc k) (omega arith))
  where
    by : (b : Bool) → f (record_in t cs k) ≡ b → any_before m f (records_from t cs n (suc k)) ≡ is_found (first_where f (suc k) (records_from t cs m (suc k))) → f (record_in t cs k) || any_before m f (records_from t cs n (suc k)) ≡ is_found (first_where f k (record_in t cs k ∷ records_from t cs m (suc k)))
    by true x e = rw (first_here f k (record_in t cs k) (records_from t cs m (suc k)) x, x)
    by false x e = rw (first_later f k (record_in t cs k) (records_from t cs m (suc k)) x, x) e

-- ---- the same tag

-- a field of p with r's label is one beside r with its wire tag, where r stands in p
tagged_same : (p : ℕ) (r q : Record) → r.parent ≡ under p → is_tagged_as p r.label q ≡ has_wire_tag q && (beside r q && same_bytes q.label r.label)
unfolding has_wire_tag
tagged_same p r q e = rw e (by q.parent q.untagged (same_bytes q.label r.label))
  where
    by : (u : Up) (x s : Bool) → (is_under p u && not x) && s ≡ (not (is_top u) && not x) && (same_up u (under p) && s)
    by top x s = unfold is_under is_top in refl
    by (under m) x s = unfold is_under is_top same_up in (mix (eqb m p) x s)
      where
        mix : (b x s : Bool) → (b && not x) && s ≡ not x && (b && s)
        mix true true s = refl
        mix true false s = refl
        mix false true s = refl
        mix false false s = refl

module _ (t cs : List ℕ) (n i : ℕ) where
  abbrev rs : List Record
  rs = records_at t cs n

  abbrev r : Record
  r = record_in t cs i

  pub untagged_once : r.untagged ≡ true → false ≡ tag_repeated rs i r
  unfolding tag_repeated has_wire_tag
  untagged_once e = rw e (by (is_top r.parent))
    where
      by : (b : Bool) → false ≡ (not b && false) && any_before i (λ q. has_wire_tag q && (beside r q && same_bytes q.label r.label)) rs
      by true = refl
      by false = refl

  pub top_once : (p : ℕ) → p ≡ up_number r.parent → p ≡ none16 → false ≡ tag_repeated rs i r
  unfolding tag_repeated has_wire_tag is_top
  top_once p e z = rw (parent_top t cs i p e z)

  module _ (p : ℕ) (e : p ≡ up_number r.parent) (z : p ≡ none16 → ⊥) (u : r.untagged ≡ false) (h : i < n) where
    up : r.parent ≡ under p
    up = parent_under t cs i p e z

    wired : has_wire_tag r ≡ true
    unfolding has_wire_tag is_top
    wired = rw (u, up)

    repeated : tag_repeated rs i r ≡ any_before i (is_tagged_as p r.label) rs
    unfolding tag_repeated
    repeated = ap (λ f. has_wire_tag r && any_before i f rs) (fun_ext (λ q. sym (tagged_same p r q up))) ∙ rw wired

    -- what a search among the records before says of the tag
    pub again : (w : List ℕ) (g : schema.Found) → w ≡ r.label → g ≡ first_where (is_tagged_as p w) 0 (records_from t cs (i - 0) 0) → is_found g ≡ tag_repeated rs i r
    again w g x y =
        let b : i - 0 ≡ i = omega arith in
        ap is_found (y ∙ (ap (λ v. first_where (is_tagged_as p v) 0 (records_from t cs (i - 0) 0)) x ∙ ap (λ m. first_where (is_tagged_as p r.label) 0 (records_from t cs m 0)) b))
        ∙ (sym (any_first t cs (is_tagged_as p r.label) i n 0 (omega arith)) ∙ sym repeated)

-- what the code says of it
pub some_found : (o : Option ℕ) → is_some o ≡ is_found (found_of o)
unfolding is_found
some_found None = refl
some_found (Some q) = refl
