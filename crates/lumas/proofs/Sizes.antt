-- A table is at most 256 records of 87 bytes long, so that with as much room 11 is no answer.
use mathlib.Core.Path.{◌≡◌, refl, ap}
use mathlib.Core.Bool.{Bool, true, false}
use mathlib.Core.List.{List, [], ◌∷◌}
use Prim.Native.Nat.{ℕ, ◌*◌, ◌≤◌}
use native.Mathlib.Omega.{arith}
use lib.Dec.{leb, ltb}
use lib.ListN.{length}
use borrow.Author.Tests.{leb-true, ltb-true}
use Rattle.classes.proofs.Bools.{both_true}
use Rattle.classes.specs.Lists.{pick}
use Rattle.numbers.specs.Limits.{parameter_limit}
use Rattle.reading_rules.specs.Record.{Record}
use Rattle.definition_rules.specs.Words.{name_form, tag_form}
use Rattle.definition_rules.specs.Faults.{is_union_at}
use Rattle.definition_rules.specs.Table.{encode}
use Rattle.definition_rules.specs.Compile.{Finding, clean, fault, first_fault, checks, records_of_text, table, verdict_of, verdict, compiled, refusal, answer_with_room, compile_answer}
use Rattle.table_rules.specs.RecordRules.{ordered, kinds_of_records, counts_fine, range_fine, target_fine, shows_name, label_fine, top_fine, record_fine, every_record, record_rules}
use Rattle.table_rules.proofs.Made.{name_len, tag_len}
use Rattle.table_rules.proofs.TextRules.{text_rules_records}
use Rattle.definition_writer.proofs.WriteLaws.{encode_length}
use Rattle.lumas.specs.Told.{table_most}
use Rattle.lumas.proofs.Numbers.{finding_number}

label_short : (r : Record) → label_fine r ≡ true → length r.label ≤ 63
unfolding label_fine
label_short r e = by (shows_name r) e
  where
    by : (b : Bool) → pick b (name_form r.label) (tag_form r.label) ≡ true → length r.label ≤ 63
    by true h = name_len r.label (unfold pick in h)
    by false h = tag_len r.label (unfold pick in h)

module _ (rs : List Record) (is_union : ℕ → Bool) where
  fine_label : (r : Record) → record_fine rs is_union r ≡ true → length r.label ≤ 63
  unfolding record_fine
  fine_label r e =
      let a = (both_true (leb 1 r.kind) _ e).1 in
      let b = (both_true (leb r.kind 10) _ a).1 in
      let c = (both_true (counts_fine is_union r) _ b).1 in
      let d = (both_true (range_fine r) _ c).1 in
      let f = (both_true (target_fine rs r) _ d).1 in
      label_short r (both_true (label_fine r) (top_fine r) f).0

  records_short : (l : List Record) → every_record (record_fine rs is_union) l ≡ true → length (encode l) ≤ 87 * length l
  unfolding every_record encode
  records_short [] e = omega arith
  records_short (r ∷ l) e =
      let a = both_true (record_fine rs is_union r) (every_record (record_fine rs is_union) l) e in
      omega (arith, encode_length r (encode l), fine_label r a.0, records_short l a.1)

rules_short : (rs : List Record) → record_rules parameter_limit rs ≡ true → length (encode rs) ≤ table_most
unfolding record_rules
rules_short rs e =
    let a = (both_true (leb 1 (length rs)) _ e).1 in
    let b = both_true (leb (length rs) parameter_limit) _ a in
    let c = (both_true (ordered [] 0 rs) _ b.1).1 in
    let d = (both_true (every_record (record_fine rs (is_union_at (kinds_of_records rs))) rs) _ c).0 in
    omega (arith, leb-true (length rs) parameter_limit b.0, records_short rs (is_union_at (kinds_of_records rs)) rs d)

module _ (text : List ℕ) (room p : ℕ) (enough : table_most ≤ room) where
  fits : (b : Bool) (k : ℕ) → ltb room k ≡ b → k ≤ table_most → pick b (refusal 11 k) (compiled k) ≡ refusal 11 p → ⊥
  unfolding pick
  fits true k e l h = omega (arith, ltb-true room k e)
  fits false k e l h = let z : ◌≡◌ {A = ℕ} 0 1 = cc in omega arith

  by_finding : (f : Finding) → first_fault (checks text) ≡ f → answer_with_room room (verdict_of f (records_of_text text)) ≡ refusal 11 p → ⊥
  unfolding verdict_of answer_with_room
  by_finding clean e h =
      let v : verdict text ≡ table (encode (records_of_text text)) = unfold verdict in (ap (λ f. verdict_of f (records_of_text text)) e) in
      fits (ltb room (length (encode (records_of_text text)))) (length (encode (records_of_text text))) refl (rules_short (records_of_text text) (text_rules_records text (encode (records_of_text text)) v)) h
  by_finding (fault m q) e h = let z : m ≡ 11 = cc in omega (arith, (finding_number text m q e).1)

  pub never_eleven : compile_answer text room ≡ refusal 11 p → ⊥
  unfolding compile_answer verdict
  never_eleven e = by_finding (first_fault (checks text)) refl e
