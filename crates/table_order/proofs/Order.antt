-- The order of records: one record, and a loop over them.
use mathlib.Core.Path.{◌≡◌, ap, sym, ◌∙◌}
use mathlib.Core.Bool.{Bool, true, false, not, ◌&&◌, ◌||◌}
use mathlib.Core.List.{List, []}
use Prim.Native.Nat.{ℕ, ◌+◌, ◌-◌, ◌≤◌, ◌<◌}
use native.Mathlib.Numerals.{add-one}
use lib.Dec.{ltb}
use lib.ListN.{length}
use borrow.Author.Tests.{ltb-true}
use Rattle.numbers.specs.Limits.{depth_limit}
use Rattle.reading_rules.specs.Record.{Record, Up, same_up}
use Rattle.reading_rules.proofs.CountLaws.{clash_bool}
use Rattle.definition_rules.specs.Words.{kind_is_compound}
use Rattle.definition_rules.specs.Declarations.{Frame, parent_of}
use Rattle.table_rules.specs.RecordRules.{closed_to, in_extension, push_if, may_stand, stands_in, ordered}
use Rattle.table_records.specs.Stored.{record_in, records_from, records_at}
use Rattle.table_records.proofs.Laws.{records_more, records_end, records_all}

-- ---- one record

module _ (σ : List Frame) (r : Record) where
  pub stands_not : (u : Up) → u ≡ r.parent → same_up (parent_of σ) u ≡ false → stands_in σ r ≡ false
  unfolding stands_in
  stands_not u e p = rw (ap (same_up (parent_of σ)) (sym e) ∙ p)

  pub stands_late : (u : Up) (e : Bool) → u ≡ r.parent → same_up (parent_of σ) u ≡ true → e ≡ r.extension → may_stand σ e ≡ false → stands_in σ r ≡ false
  unfolding stands_in
  stands_late u e q p f m = rw (ap (same_up (parent_of σ)) (sym q) ∙ p, ap (may_stand σ) (sym f) ∙ m)

  pub stands_so : (u : Up) (e : Bool) (d : ℕ) → length σ ≡ d → u ≡ r.parent → same_up (parent_of σ) u ≡ true → e ≡ r.extension → may_stand σ e ≡ true → stands_in σ r ≡ not (kind_is_compound r.kind) || ltb d depth_limit
  unfolding stands_in
  stands_so u e d l q p f m = rw (ap (same_up (parent_of σ)) (sym q) ∙ p, ap (may_stand σ) (sym f) ∙ m, l)

  -- a struct or union that stands leaves room for its body
  pub stands_room : stands_in σ r ≡ true → kind_is_compound r.kind ≡ true → length σ < depth_limit
  unfolding stands_in
  stands_room e k = go (same_up (parent_of σ) r.parent) (may_stand σ r.extension) (kind_is_compound r.kind) e k
    where
      go : (a b c : Bool) → a && (b && (not c || ltb (length σ) depth_limit)) ≡ true → c ≡ true → length σ < depth_limit
      go true true true e k = ltb-true (length σ) depth_limit e
      go true true false e k = clash_bool k
      go true false c e k = clash_bool e
      go false b c e k = clash_bool e

-- ---- the loop

module _ (t unpacked : List ℕ) (n : ℕ) where
  pub order_start : ordered [] 0 (records_at t unpacked n) ≡ ordered [] 0 (records_from t unpacked (n - 0) 0)
  order_start = rw (records_all t unpacked n)

  module _ (i : ℕ) (σ : List Frame) where
    pub order_end : n ≤ i → ordered σ i (records_from t unpacked (n - i) i) ≡ true
    unfolding ordered
    order_end h = rw (records_end t unpacked n i h)

    module _ (τ : List Frame) (u : Up) (e : u ≡ (record_in t unpacked i).parent) (c : τ ≡ closed_to u σ) (h : i < n) where
      closed : closed_to (record_in t unpacked i).parent σ ≡ τ
      closed = ap (λ (v : Up). closed_to v σ) (sym e) ∙ sym c

      pub order_stop : stands_in τ (record_in t unpacked i) ≡ false → ordered σ i (records_from t unpacked (n - i) i) ≡ false
      unfolding ordered
      order_stop s = rw (records_more t unpacked n i h, closed, s)

      pub order_more : (υ : List Frame) → stands_in τ (record_in t unpacked i) ≡ true → υ ≡ push_if (kind_is_compound (record_in t unpacked i).kind) i (in_extension (record_in t unpacked i).extension τ) → ordered σ i (records_from t unpacked (n - i) i) ≡ ordered υ (i + 1) (records_from t unpacked (n - (i + 1)) (i + 1))
      unfolding ordered
      order_more υ s p = rw (records_more t unpacked n i h, closed, s, ← p, ← add-one i)
