-- T6: number 10's steps find exactly the parameters that have a lawful value, without limit of length or depth.
use mathlib.Core.Path.{◌≡◌, refl, ap, sym, ◌∙◌}
use mathlib.Core.Bool.{Bool, true, false, not}
use mathlib.Core.List.{List, []}
use mathlib.Core.Logic.{◌↔◌}
use Prim.Native.Nat.{ℕ, ◌≤◌, ◌<◌}
use native.Mathlib.Omega.{arith}
use lib.Dec.{eqb, leb}
use lib.ListN.{length, get_or}
use borrow.Author.Tests.{eqb-true, leb-true, not-true, not-false}
use Rattle.numbers.specs.Limits.{parameter_limit}
use Rattle.reading_rules.specs.Record.{Record, record_at}
use Rattle.reading_rules.specs.Schema.{Kind, void, simple, struct, union, reference, is_void, Schema, kind_of, core_of, schema_of}
use Rattle.reading_rules.proofs.CountLaws.{clash_bool, and_both}
use Rattle.reading_rules.specs.Reading.{value, body, Tree, leaf, braced, chosen_void, chosen, chosen_int, leaves, Law, Lawful}
use Rattle.definition_rules.specs.Words.{kind_is_compound}
use Rattle.definition_rules.specs.Faults.{is_union_at, void_many, rule7_broken, tag_repeated, root_no_struct}
use Rattle.definition_rules.specs.Finite.{finites, is_endless}
use Rattle.table_rules.specs.Endless.{are_tokens, LawfulValue}
use Rattle.table_rules.specs.RecordRules.{ordered, kinds_of_records, record_fine, every_record, none_broken, shown_names, all_new, record_checks, record_rules}
use Rattle.definition_rules.specs.Table.{just, decode}
use Rattle.definition_rules.specs.Compile.{table, verdict}
use Rattle.table_rules.proofs.Facts.{Formed, rules_formed, none_of, and_off}
use Rattle.table_rules.proofs.Theorems.{text_records}
use Rattle.table_rules.proofs.Steps.{finite_closed, finite_least}
use Rattle.table_rules.proofs.Read.{value_in}
use Rattle.table_rules.proofs.Make.{Have, none, some, have_closed}

no_void : (rs : List Record) (p : ℕ) → is_void ((schema_of rs).kind p) ≡ true → (record_at rs p).kind ≡ 1
unfolding schema_of is_void kind_of
no_void rs p e = go (eqb (record_at rs p).kind 1) (eqb (record_at rs p).kind 8) (eqb (record_at rs p).kind 9) (eqb (record_at rs p).kind 10) refl e
  where
    go : (a b c d : Bool) → eqb (record_at rs p).kind 1 ≡ a → is_void (elim a [ true ↦ void | false ↦ elim b [ true ↦ struct | false ↦ elim c [ true ↦ union | false ↦ elim d [ true ↦ reference | false ↦ simple ] ] ] ]) ≡ true → (record_at rs p).kind ≡ 1
    go true b c d x y = eqb-true (record_at rs p).kind 1 x
    go false true c d x y = clash_bool y
    go false false true d x y = clash_bool y
    go false false false true x y = clash_bool y
    go false false false false x y = clash_bool y

made : (rs : List Record) (p : ℕ) → ((record_at rs p).kind ≡ 1 → ⊥) → Have rs p → LawfulValue rs p
unfolding are_tokens
made rs p n (none v) = absurd (n (no_void rs p v))
made rs p n (some t v l a) = (t, l, a [] refl)

-- T6. Every parameter but a void one
pub finite_value : (rs : List Record) → Formed rs → (p : ℕ) → p < length rs → ((record_at rs p).kind ≡ 1 → ⊥) → (get_or (finites rs) p false ≡ true) ↔ LawfulValue rs p
finite_value rs F p h n = ((λ e. made rs p n (finite_least rs F (Have rs) (have_closed rs F) p e)), (λ v. value_in rs F (λ q. get_or (finites rs) q false ≡ true) (finite_closed rs F) p v.0 h v.1))

compound_some : (k : ℕ) → kind_is_compound k ≡ true → k ≡ 1 → ⊥
unfolding kind_is_compound
compound_some k e o = and_both (leb 8 k) (leb k 9) e (λ a b. let z = leb-true 8 k a in omega arith)

-- .. each struct and union
pub compound_value : (rs : List Record) → Formed rs → (p : ℕ) → p < length rs → kind_is_compound (record_at rs p).kind ≡ true → (get_or (finites rs) p false ≡ true) ↔ LawfulValue rs p
compound_value rs F p h e = finite_value rs F p h (compound_some (record_at rs p).kind e)

-- "a struct or union with no finite value"
pub endless_iff : (rs : List Record) → Formed rs → (p : ℕ) → p < length rs → (is_endless (finites rs) p (record_at rs p) ≡ true) ↔ ((kind_is_compound (record_at rs p).kind ≡ true) × (LawfulValue rs p → ⊥))
unfolding is_endless
endless_iff rs F p h = (
  (λ e. and_both (kind_is_compound (record_at rs p).kind) (not (get_or (finites rs) p false)) e (λ a b. (a, λ v. clash_bool (sym (not-true (get_or (finites rs) p false) b) ∙ (compound_value rs F p h a).1 v)))),
  λ x. rw x.0 (by (get_or (finites rs) p false) refl x.0 x.1),
)
  where
    by : (b : Bool) → get_or (finites rs) p false ≡ b → kind_is_compound (record_at rs p).kind ≡ true → (LawfulValue rs p → ⊥) → not b ≡ true
    by true e a f = absurd (f ((compound_value rs F p h a).0 e))
    by false e a f = refl

-- ---- a compiled table

rules_last : (limit : ℕ) (rs : List Record) → record_rules limit rs ≡ true → (1 ≤ length rs) × (none_broken root_no_struct 0 rs ≡ true) × (none_broken (is_endless (finites rs)) 0 rs ≡ true)
unfolding record_rules record_checks
rules_last limit rs e =
    and_both (leb 1 (length rs)) _ e (λ a1 e1.
    and_both (leb (length rs) limit) _ e1 (λ a2 e2.
    and_both (ordered [] 0 rs) _ e2 (λ a3 e3.
    and_both (every_record (record_fine rs (is_union_at (kinds_of_records rs))) rs) _ e3 (λ a4 e4.
    and_both (all_new (shown_names rs)) _ e4 (λ a5 e5.
    and_both (none_broken void_many 0 rs) _ e5 (λ a6 e6.
    and_both (none_broken (rule7_broken rs) 0 rs) _ e6 (λ a7 e7.
    and_both (none_broken (tag_repeated rs) 0 rs) _ e7 (λ a8 e8.
    and_both (none_broken root_no_struct 0 rs) _ e8 (λ a9 e9. (leb-true 1 (length rs) a1, a9, e9))))))))))

-- each of its structs and unions has a value
pub rules_values : (limit : ℕ) (rs : List Record) → record_rules limit rs ≡ true → (p : ℕ) → p < length rs → kind_is_compound (record_at rs p).kind ≡ true → LawfulValue rs p
unfolding is_endless
rules_values limit rs e p h k =
    let x = none_of (is_endless (finites rs)) rs (rules_last limit rs e).2 p h in
    (compound_value rs (rules_formed limit rs e) p h k).0 (not-false (get_or (finites rs) p false) (and_off (kind_is_compound (record_at rs p).kind) _ x k))

-- so some message of the definition is lawful, but for the limits
root_body : (S : Schema) → S.kind 0 ≡ struct → S.core 0 ≡ 0 → (t : Tree value) → Law S 0 t → are_tokens (leaves t) ≡ true → (b : Tree body) × Lawful S b × (are_tokens (leaves (braced b)) ≡ true)
unfolding Law
root_body S k c (leaf t) l a = let y : ◌≡◌ {A = Kind} struct simple = sym k ∙ (ap S.kind (sym c) ∙ l.0) in let z : ◌≡◌ {A = ℕ} 0 1 = cc in absurd (omega arith)
root_body S k c (braced b) l a = (b, (rw c at l.1), a)
root_body S k c (chosen_void q w) l a = let y : ◌≡◌ {A = Kind} struct union = sym k ∙ (ap S.kind (sym c) ∙ l.0) in let z : ◌≡◌ {A = ℕ} 0 1 = cc in absurd (omega arith)
root_body S k c (chosen q w v) l a = let y : ◌≡◌ {A = Kind} struct union = sym k ∙ (ap S.kind (sym c) ∙ l.0) in let z : ◌≡◌ {A = ℕ} 0 1 = cc in absurd (omega arith)
root_body S k c (chosen_int q w) l a = let y : ◌≡◌ {A = Kind} struct union = sym k ∙ (ap S.kind (sym c) ∙ l.0) in let z : ◌≡◌ {A = ℕ} 0 1 = cc in absurd (omega arith)

root_struct : (rs : List Record) → (record_at rs 0).kind ≡ 8 → ((schema_of rs).kind 0 ≡ struct) × ((schema_of rs).core 0 ≡ 0)
unfolding schema_of kind_of core_of
root_struct rs k = (ap kind_of k, ap (λ n. core_of 0 (record_at rs 0).target (kind_of n)) k)

-- its root is a struct
rules_kind : (limit : ℕ) (rs : List Record) → record_rules limit rs ≡ true → (record_at rs 0).kind ≡ 8
unfolding root_no_struct
rules_kind limit rs e =
    let x = rules_last limit rs e in
    eqb-true (record_at rs 0).kind 8 (not-false (eqb (record_at rs 0).kind 8) (none_of root_no_struct rs x.1 0 x.0))

pub root_kind : (limit : ℕ) (rs : List Record) → record_rules limit rs ≡ true → (schema_of rs).kind ((schema_of rs).core 0) ≡ struct
root_kind limit rs e = let s = root_struct rs (rules_kind limit rs e) in ap (schema_of rs).kind s.1 ∙ s.0

pub rules_root : (limit : ℕ) (rs : List Record) → record_rules limit rs ≡ true → (b : Tree body) × Lawful (schema_of rs) b × (are_tokens (leaves (braced b)) ≡ true)
unfolding kind_is_compound
rules_root limit rs e =
    let k = rules_kind limit rs e in
    let v = rules_values limit rs e 0 (rules_last limit rs e).0 (ap kind_is_compound k) in
    let s = root_struct rs k in
    root_body (schema_of rs) s.0 s.1 v.0 v.1 v.2

pub text_values : (text bytes : List ℕ) → verdict text ≡ table bytes → (rs : List Record) × (decode bytes ≡ just rs) × ((p : ℕ) → p < length rs → kind_is_compound (record_at rs p).kind ≡ true → LawfulValue rs p)
text_values text bytes v = let x = text_records text bytes v in (x.0, x.1, rules_values parameter_limit x.0 x.2)
