-- T8: the record rules hold of a table exactly when some text compiles to it.
use mathlib.Core.Path.{◌≡◌, refl, ap, sym, ◌∙◌}
use mathlib.Core.Bool.{Bool, true, false}
use mathlib.Core.List.{List}
use mathlib.Core.Logic.{◌↔◌}
use Prim.Native.Nat.{ℕ, ◌≤◌}
use native.Mathlib.Omega.{arith}
use lib.Dec.{ltb}
use lib.ListN.{length, take, drop, replicate, length-replicate}
use lib.Seq.{take_at}
use borrow.Author.Tests.{ltb-false, le-ltb}
use Rattle.classes.specs.Lists.{pick}
use Rattle.classes.specs.Bytes.{IsBytes}
use Rattle.numbers.specs.Limits.{parameter_limit}
use Rattle.reading_rules.specs.Record.{Record}
use Rattle.reading_rules.proofs.CountLaws.{clash_bool}
use Rattle.definition_rules.specs.Table.{Maybe, none, just, decode}
use Rattle.definition_rules.specs.Compile.{Verdict, refused, table, verdict, compiled, refusal, answer_with_room, compile_answer, table_after}
use Rattle.definition_rules.proofs.Theorems.{compiled_lent}
use Rattle.table_rules.specs.Compilable.{CompilesTo, Compilable}
use Rattle.table_rules.specs.RecordRules.{record_rules, rules_of, table_rules}
use Rattle.table_rules.proofs.TextRules.{text_rules, table_text}
use Rattle.table_rules.proofs.TextBytes.{bytes_all}

-- what a text compiles to with a room that is large enough, and back
compiles : (text bytes : List ℕ) → verdict text ≡ table bytes → CompilesTo text (length bytes) bytes
compiles text bytes v =
    record {
      answer = answers (length bytes) (omega arith);
      after = λ lent q. let x = compiled_lent text bytes lent v (omega arith) in ap (take (length bytes)) x.1 ∙ take_at bytes (drop (length bytes) lent) (length bytes) refl;
    }
  where
    answers : (room : ℕ) → length bytes ≤ room → compile_answer text room ≡ compiled (length bytes)
    answers room h = unfold compile_answer answer_with_room pick in (rw (v, le-ltb room (length bytes) h))

-- a refusal is no success
compiled_table : (text table' : List ℕ) (room : ℕ) → compile_answer text room ≡ compiled (length table') → ((bytes : List ℕ) → verdict text ≡ table bytes → length bytes ≤ room → length bytes ≡ length table' → verdict text ≡ table table') → verdict text ≡ table table'
unfolding compile_answer
compiled_table text table' room e k = by (verdict text) refl e
  where
    room_for : (bytes : List ℕ) → verdict text ≡ table bytes → (b : Bool) → ltb room (length bytes) ≡ b → pick b (refusal 11 (length bytes)) (compiled (length bytes)) ≡ compiled (length table') → verdict text ≡ table table'
    room_for bytes v true q e = unfold pick in (let z : ◌≡◌ {A = ℕ} 0 1 = cc in absurd (omega arith))
    room_for bytes v false q e = unfold pick in (let z : length bytes ≡ length table' = cc in k bytes v (ltb-false room (length bytes) q) z)

    by : (v : Verdict) → verdict text ≡ v → answer_with_room room v ≡ compiled (length table') → verdict text ≡ table table'
    by (refused n p) v e = unfold answer_with_room in (let z : ◌≡◌ {A = ℕ} 0 1 = cc in absurd (omega arith))
    by (table bytes) v e = unfold answer_with_room in (room_for bytes v (ltb room (length bytes)) refl e)

compiles_back : (text bytes : List ℕ) (room : ℕ) → CompilesTo text room bytes → verdict text ≡ table bytes
compiles_back text bytes room c = compiled_table text bytes room c.answer (λ made v h l.
    let lent : List ℕ = replicate room 0 in
    let n : length lent ≡ room = length-replicate room 0 in
    let x = compiled_lent text made lent v (omega arith) in
    let t : take (length bytes) (table_after text lent) ≡ made = ap (take (length bytes)) x.1 ∙ take_at made (drop (length made) lent) (length bytes) l in
    v ∙ ap table (sym t ∙ c.after lent n))

-- T8. The rules hold of a table exactly when some text compiles to it
pub rules_iff : (bytes : List ℕ) → IsBytes bytes → (table_rules parameter_limit bytes ≡ true) ↔ Compilable bytes
rules_iff bytes h = (
  (λ e. let x = table_text bytes (bytes_all bytes h) e in (x.0, x.1, length bytes, compiles x.0 bytes x.2)),
  λ x. text_rules x.0 bytes (compiles_back x.0 bytes x.2 x.3),
)

-- 20: "no definition compiles to this table"
pub no_text_iff : (bytes : List ℕ) → IsBytes bytes → (table_rules parameter_limit bytes ≡ false) ↔ (Compilable bytes → ⊥)
no_text_iff bytes h = ((λ e c. clash (sym e ∙ (rules_iff bytes h).1 c)), λ f. by f (table_rules parameter_limit bytes) refl)
  where
    clash : ◌≡◌ {A = Bool} false true → ⊥
    clash e = clash_bool e

    by : (Compilable bytes → ⊥) → (b : Bool) → table_rules parameter_limit bytes ≡ b → b ≡ false
    by f true e = absurd (f ((rules_iff bytes h).0 e))
    by f false e = refl

-- over bytes: a table that the rules allow is one of records that the rules allow
pub bytes_records : (bytes : List ℕ) → table_rules parameter_limit bytes ≡ true → (rs : List Record) × (decode bytes ≡ just rs) × (record_rules parameter_limit rs ≡ true)
bytes_records bytes e = by (decode bytes) refl (unfold table_rules in e)
  where
    by : (m : Maybe (List Record)) → decode bytes ≡ m → rules_of parameter_limit m ≡ true → (rs : List Record) × (decode bytes ≡ just rs) × (record_rules parameter_limit rs ≡ true)
    by none q e = unfold rules_of in (clash_bool e)
    by (just rs) q e = (rs, q, unfold rules_of in e)

pub text_records : (text bytes : List ℕ) → verdict text ≡ table bytes → (rs : List Record) × (decode bytes ≡ just rs) × (record_rules parameter_limit rs ≡ true)
text_records text bytes v = bytes_records bytes (text_rules text bytes v)
