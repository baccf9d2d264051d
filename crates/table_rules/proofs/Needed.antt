-- What stands in the list of a struct's needs; targets of references.
use mathlib.Core.Path.{◌≡◌, refl, ap, ◌∙◌}
use mathlib.Core.Bool.{Bool, true, false, ◌||◌}
use mathlib.Core.List.{List, [], ◌∷◌}
use Prim.Native.Nat.{ℕ, zero, suc, ◌+◌, ◌≤◌, ◌<◌}
use native.Mathlib.Omega.{arith}
use lib.Dec.{eqb}
use lib.ListN.{length}
use borrow.Author.Tests.{eqb-true, eqb-false, eq-eqb}
use Rattle.reading_rules.specs.Record.{Record, record_at, is_top}
use Rattle.reading_rules.specs.Schema.{Kind, void, simple, struct, union, reference, found, first, Schema, kind_of, schema_of, is_tagged_of, is_tagged_as}
use Rattle.reading_rules.specs.Count.{times, same, In}
use Rattle.reading_rules.proofs.CountLaws.{clash_bool, and_both, in_nil, in_head, in_cons}
use Rattle.reading_rules.proofs.Rules.{where_is}
use Rattle.classes.specs.Lists.{pick}
use Rattle.table_rules.specs.RecordRules.{is_top_at, target_fine}
use Rattle.table_rules.proofs.RuleFacts.{top_lt}
use Rattle.table_rules.proofs.Facts.{Formed, fine_at}
use Rattle.table_rules.proofs.Steps.{put, none_if}
use Rattle.reading_rules.specs.Parse.{required_of}

pub required_le : (S : Schema) (k : ℕ) (l : List ℕ) → times k (required_of S l) ≤ times k l
unfolding required_of times
required_le S k [] = omega arith
required_le S k (q ∷ l) = go (S.optional q || eqb (S.lo q) 0) (required_le S k l)
  where
    go : (b : Bool) → times k (required_of S l) ≤ times k l → times k (elim b [ true ↦ required_of S l | false ↦ q ∷ required_of S l ]) ≤ same q k + times k l
    go true h = omega arith
    go false h = omega arith

pub in_cut : {X : Type 0} (t o : Bool) (k q : ℕ) (l : List ℕ) → In k (none_if t (put o q l)) → (q ≡ k → X) → (In k l → X) → X
unfolding none_if put
in_cut true o k q l h x y = in_nil k h
in_cut false true k q l h x y = y h
in_cut false false k q l h x y = in_cons k q l h x y

pub first_in : (l : List ℕ) (q : ℕ) → first l ≡ found q → In q l
unfolding first
first_in [] q e = let z : ◌≡◌ {A = ℕ} 0 1 = cc in absurd (omega arith)
first_in (x ∷ l) q e = let z : x ≡ q = cc in rw (← z) (in_head x l)

-- what a search for a tag finds
pub find_is : (rs : List Record) (p q : ℕ) (w : List ℕ) → (schema_of rs).find p w ≡ found q → (q < length rs) × (is_tagged_of p (record_at rs q) ≡ true)
unfolding schema_of
find_is rs p q w e =
    let g = where_is (is_tagged_as p w) 0 rs q e in
    let z : q ≡ g.0 = omega (arith, g.1) in
    and_both (is_tagged_of p (record_at rs g.0)) _ g.3 (λ a b. (omega (arith, g.2), ap (λ j. is_tagged_of p (record_at rs j)) z ∙ a))

-- ---- kinds

pub kind_is : (k : ℕ) (X : Kind → Type 0) → (k ≡ 1 → X void) → (k ≡ 8 → X struct) → (k ≡ 9 → X union) → (k ≡ 10 → X reference) → ((k ≡ 1 → ⊥) → (k ≡ 8 → ⊥) → (k ≡ 9 → ⊥) → (k ≡ 10 → ⊥) → X simple) → X (kind_of k)
unfolding kind_of
kind_is k X v s u r p = go (eqb k 1) (eqb k 8) (eqb k 9) (eqb k 10) refl refl refl refl
  where
    go : (a b c d : Bool) → eqb k 1 ≡ a → eqb k 8 ≡ b → eqb k 9 ≡ c → eqb k 10 ≡ d → X (elim a [ true ↦ void | false ↦ elim b [ true ↦ struct | false ↦ elim c [ true ↦ union | false ↦ elim d [ true ↦ reference | false ↦ simple ] ] ] ])
    go true b c d x y z w = v (eqb-true k 1 x)
    go false true c d x y z w = s (eqb-true k 8 y)
    go false false true d x y z w = u (eqb-true k 9 z)
    go false false false true x y z w = r (eqb-true k 10 w)
    go false false false false x y z w = p (eqb-false k 1 x) (eqb-false k 8 y) (eqb-false k 9 z) (eqb-false k 10 w)

top_record : (rs : List Record) (i : ℕ) → is_top_at rs i ≡ true → is_top (record_at rs i).parent ≡ true
unfolding is_top_at record_at
top_record [] i e = clash_bool e
top_record (r ∷ rs) zero e = e
top_record (r ∷ rs) (suc i) e = top_record rs i e

-- "target is a top's number"
pub target_at_lem : (rs : List Record) → Formed rs → (p : ℕ) → p < length rs → (record_at rs p).kind ≡ 10 → ((record_at rs p).target < length rs) × (is_top (record_at rs (record_at rs p).target).parent ≡ true)
target_at_lem rs F p h k =
    let a = aimed (record_at rs p) k (fine_at rs F p h).aim in
    (top_lt rs (record_at rs p).target a, top_record rs (record_at rs p).target a)
  where
    aimed : (r : Record) → r.kind ≡ 10 → target_fine rs r ≡ true → is_top_at rs r.target ≡ true
    aimed r e q = unfold target_fine pick in (rw (eq-eqb r.kind 10 e) at q)
