-- A parent's number against the parent, and the kind of a record's parent.
use mathlib.Core.Path.{◌≡◌, refl, ap, sym, ◌∙◌}
use mathlib.Core.Bool.{Bool, true, false}
use mathlib.Core.List.{List}
use Prim.Native.Nat.{ℕ, ◌≤◌, ◌<◌}
use borrow.Author.Tests.{eqb-true, eqb-false, ne_eqb}
use lib.Dec.{eqb}
use Rattle.classes.specs.Lists.{pick}
use Rattle.numbers.specs.Limits.{none16}
use Rattle.reading_rules.specs.Record.{Record, Up, top, under, is_top, same_up, blank}
use Rattle.definition_rules.specs.Table.{up_number, number_up}
use Rattle.definition_rules.specs.Faults.{parent_kind, beside}
use Rattle.table_records.specs.Stored.{record_in, records_at}
use Rattle.table_records.proofs.Laws.{record_at_lem, record_past}

-- ---- any parent that a number gives

-- a number of a parent is none's, and the parent none, or its own
data ParentRead : ℕ → Up → Type 0 where
  none : ParentRead none16 top
  some : {x : ℕ} → (x ≡ none16 → ⊥) → ParentRead x (under x)

read : (x : ℕ) → ParentRead x (number_up x)
unfolding number_up
read x = go (eqb x none16) refl
  where
    go : (b : Bool) → eqb x none16 ≡ b → ParentRead x (pick b top (under x))
    go true e = unfold pick in (rw (eqb-true x none16 e) none)
    go false e = unfold pick in (some (eqb-false x none16 e))

number_of : {x : ℕ} {u : Up} → ParentRead x u → up_number u ≡ x
unfolding up_number
number_of none = refl
number_of (some h) = refl

read_top : {x : ℕ} {u : Up} → ParentRead x u → eqb x none16 ≡ is_top u
unfolding is_top
read_top none = refl
read_top {x} (some h) = ne_eqb x none16 h

read_same : {x y : ℕ} {u v : Up} → ParentRead x u → ParentRead y v → eqb x y ≡ same_up u v
unfolding same_up
read_same none none = refl
read_same {y = y} none (some h) = ne_eqb none16 y (λ e. h (sym e))
read_same {x = x} (some h) none = ne_eqb x none16 h
read_same (some h) (some k) = refl

-- ---- the parents of records

parent_read : (t unpacked : List ℕ) (i p : ℕ) → p ≡ up_number (record_in t unpacked i).parent → ParentRead p (record_in t unpacked i).parent
unfolding record_in
parent_read t unpacked i p e = let r = read _ in rw (e ∙ number_of r) r

module _ (t unpacked : List ℕ) where
  pub top_is : (i p : ℕ) → p ≡ up_number (record_in t unpacked i).parent → eqb p none16 ≡ is_top (record_in t unpacked i).parent
  top_is i p e = read_top (parent_read t unpacked i p e)

  pub beside_is : (i j p q : ℕ) → p ≡ up_number (record_in t unpacked j).parent → q ≡ up_number (record_in t unpacked i).parent → eqb p q ≡ beside (record_in t unpacked i) (record_in t unpacked j)
  beside_is i j p q e f = read_same (parent_read t unpacked j p e) (parent_read t unpacked i q f)

  -- a record's parent by its number
  pub parent_number_lem : (i p : ℕ) → p ≡ up_number (record_in t unpacked i).parent → number_up p ≡ (record_in t unpacked i).parent
  unfolding record_in
  parent_number_lem i p e = ap number_up (e ∙ number_of (read _))

  pub parent_top : (i p : ℕ) → p ≡ up_number (record_in t unpacked i).parent → p ≡ none16 → (record_in t unpacked i).parent ≡ top
  parent_top i p e z = go (parent_read t unpacked i p e) z
    where
      go : {x : ℕ} {u : Up} → ParentRead x u → x ≡ none16 → u ≡ top
      go none z = refl
      go (some h) z = absurd (h z)

  pub parent_under : (i p : ℕ) → p ≡ up_number (record_in t unpacked i).parent → (p ≡ none16 → ⊥) → (record_in t unpacked i).parent ≡ under p
  parent_under i p e z = go (parent_read t unpacked i p e) z
    where
      go : {x : ℕ} {u : Up} → ParentRead x u → (x ≡ none16 → ⊥) → u ≡ under x
      go none z = absurd (z refl)
      go (some h) z = refl

  -- ---- the parent's kind

  module _ (n i p : ℕ) (e : p ≡ up_number (record_in t unpacked i).parent) where
    pub kind_top : p ≡ none16 → parent_kind (records_at t unpacked n) (record_in t unpacked i).parent ≡ 0
    unfolding parent_kind
    kind_top z = rw (parent_top i p e z)

    pub kind_past : (p ≡ none16 → ⊥) → n ≤ p → parent_kind (records_at t unpacked n) (record_in t unpacked i).parent ≡ 1
    unfolding parent_kind blank
    kind_past z h = rw (parent_under i p e z) (ap (λ (r : Record). r.kind) (record_past t unpacked n p h))

    pub kind_of_lem : (p ≡ none16 → ⊥) → p < n → parent_kind (records_at t unpacked n) (record_in t unpacked i).parent ≡ (record_in t unpacked p).kind
    unfolding parent_kind
    kind_of_lem z h = rw (parent_under i p e z) (ap (λ (r : Record). r.kind) (record_at_lem t unpacked n p h))
