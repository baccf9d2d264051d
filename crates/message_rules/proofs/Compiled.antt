-- Demand 3: the reader's answer keeps its promise, for every table, message and room.
use mathlib.Core.Path.{◌≡◌, refl, ap, sym, ◌∙◌}
use mathlib.Core.Bool.{Bool, true, false}
use mathlib.Core.List.{List, ◌++◌}
use mathlib.Core.Logic.{◌↔◌}
use Prim.Native.Nat.{ℕ, ◌*◌, ◌≤◌, ◌<◌}
use native.Mathlib.Omega.{arith}
use lib.ListN.{length, drop}
use Rattle.classes.specs.Bytes.{IsBytes}
use Rattle.numbers.specs.Limits.{parameter_limit, row_width}
use Rattle.reading_rules.specs.Record.{Record, record_at}
use Rattle.reading_rules.specs.Schema.{struct, nowhere, found, schema_of}
use Rattle.reading_rules.specs.Reading.{Tree, body}
use Rattle.reading_rules.proofs.CountLaws.{clash_bool}
use Rattle.reading_rules.proofs.Rules.{ReadingRules}
use Rattle.reading_rules.proofs.Values.{outside_30}
use Rattle.table_rules.specs.RecordRules.{table_rules}
use Rattle.table_rules.specs.Compilable.{Compilable}
use Rattle.table_rules.proofs.Theorems.{rules_iff, no_text_iff, bytes_records}
use Rattle.table_rules.proofs.Facts.{rules_formed, reading_rules}
use Rattle.table_rules.proofs.Values.{root_kind}
use Rattle.message_rules.specs.Scan.{Lexeme, Spelled}
use Rattle.message_rules.specs.Rows.{Row, message_rows, cells, IndicesStand}
use Rattle.message_rules.specs.Verdict.{LawfulReading, Within, is_unlawful, MessageAnswer, accepted, refusal, or_empty, records_in, read_with, rows_with, read_answer, rows_after}
use Rattle.message_rules.specs.Promise.{Reading, Outside, ReadPromise}
use Rattle.message_rules.proofs.Spelling.{spelled_once}
use Rattle.message_rules.proofs.Indices.{indices_stand}
use Rattle.message_rules.proofs.Promises.{one_reading_lem, lawful_accepted_lem, lawful_29, accepted_lawful, refused_29, refused_unlawful, refusal_number, accepted_written, refused_unchanged, refused_21, refused_22, refused_30, number_unlawful, spelled_clean}

-- the records of a table that keeps the rules keep what a reading rests on
pub table_reading : (table : List ℕ) → table_rules parameter_limit table ≡ true → ReadingRules (records_in table)
unfolding records_in or_empty
table_reading table e =
    let x = bytes_records table e in
    let q : records_in table ≡ x.0 = ap or_empty x.1 in
    rw q (reading_rules x.0 (rules_formed parameter_limit x.0 x.2))

-- and its root is a struct
table_root : (table : List ℕ) → table_rules parameter_limit table ≡ true → (schema_of (records_in table)).kind ((schema_of (records_in table)).core 0) ≡ struct
unfolding records_in or_empty
table_root table e =
    let x = bytes_records table e in
    let q : records_in table ≡ x.0 = ap or_empty x.1 in
    rw q (root_kind parameter_limit x.0 x.2)

-- the two sides of number 20
pub good_answer : (table message : List ℕ) (room : ℕ) → table_rules parameter_limit table ≡ true → read_answer table message room ≡ read_with (records_in table) message room
unfolding read_answer
good_answer table message room e = rw (e, read_answer)

good_after : (table message lent : List ℕ) → table_rules parameter_limit table ≡ true → rows_after table message lent ≡ rows_with (records_in table) message lent
unfolding rows_after
good_after table message lent e = rw (e, rows_after)

bad_answer : (table message : List ℕ) (room : ℕ) → table_rules parameter_limit table ≡ false → read_answer table message room ≡ refusal 20 0
unfolding read_answer
bad_answer table message room e = rw (e, read_answer)

bad_after : (table message lent : List ℕ) → table_rules parameter_limit table ≡ false → rows_after table message lent ≡ lent
unfolding rows_after
bad_after table message lent e = rw (e, rows_after)

-- ---- a table that keeps the rules

module _ (table message lent : List ℕ) (ok : table_rules parameter_limit table ≡ true) where
  abbrev records : List Record
  records = records_in table

  abbrev room : ℕ
  room = length lent

  answer_is : (a : MessageAnswer) → read_answer table message room ≡ a → read_with records message room ≡ a
  answer_is a e = sym (good_answer table message room ok) ∙ e

  is_answer : (a : MessageAnswer) → read_with records message room ≡ a → read_answer table message room ≡ a
  is_answer a e = good_answer table message room ok ∙ e

  never_20 : read_answer table message room ≡ refusal 20 0 → ⊥
  never_20 e = let g = refusal_number records (table_reading table ok) message room 20 0 (answer_is (refusal 20 0) e) in omega arith

  accepted_means_lem : (k : ℕ) → read_answer table message room ≡ accepted k → (rs : List Row) × Reading table message rs × (k ≡ length rs) × (row_width * k ≤ room) × (rows_after table message lent ≡ cells rs ++ drop (row_width * k) lent)
  accepted_means_lem k e =
      let R = table_reading table ok in
      let g = accepted_lawful records R message room k (answer_is (accepted k) e) in
      let rs = message_rows message g.0 g.1 in
      let fit : row_width * length rs ≤ room = rw (← g.4) g.5 in (
        rs,
        record { tokens = g.0; tree = g.1; lawful = g.2; within = g.3; rows = refl },
        g.4,
        g.5,
        good_after table message lent ok ∙ (accepted_written records R message g.0 g.1 g.2 g.3 lent fit ∙ ap (λ n. cells rs ++ drop (row_width * n) lent) (sym g.4)),
      )

  lawful_accepts : (rs : List Row) → Reading table message rs → row_width * length rs ≤ room → read_answer table message room ≡ accepted (length rs)
  lawful_accepts rs r h =
      is_answer (accepted (length rs))
      (rw r.rows (lawful_accepted_lem records (table_reading table ok) message r.tokens r.tree r.lawful r.within room (rw (← r.rows) h)))

  lacks_room : (k : ℕ) → (read_answer table message room ≡ refusal 29 k) ↔ ((rs : List Row) × Reading table message rs × (k ≡ length rs) × (room < row_width * k))
  lacks_room k = (there, back)
    where
      there : read_answer table message room ≡ refusal 29 k → (rs : List Row) × Reading table message rs × (k ≡ length rs) × (room < row_width * k)
      there e =
          let g = refused_29 records (table_reading table ok) message room k (answer_is (refusal 29 k) e) in
          (message_rows message g.0 g.1, record { tokens = g.0; tree = g.1; lawful = g.2; within = g.3; rows = refl }, g.4, g.5)

      back : ((rs : List Row) × Reading table message rs × (k ≡ length rs) × (room < row_width * k)) → read_answer table message room ≡ refusal 29 k
      back (rs, r, n, h) =
          let m : k ≡ length (message_rows message r.tokens r.tree) = n ∙ ap length r.rows in
          is_answer (refusal 29 k)
          (rw m (lawful_29 records (table_reading table ok) message r.tokens r.tree r.lawful r.within room (rw (← m) h)))

  abbrev Unlawful : Type 0
  Unlawful = (n : ℕ) × (place : ℕ) × (read_answer table message room ≡ refusal n place) × (is_unlawful n ≡ true)

  no_reading : (ls : List Lexeme) → Spelled 0 message ls → Within message ls → Unlawful ↔ ((t : Tree body) → LawfulReading records message ls t → ⊥)
  no_reading ls s w = (there, λ f. back f (read_with records message room) refl)
    where
      R : ReadingRules records
      R = table_reading table ok

      there : Unlawful → (t : Tree body) → LawfulReading records message ls t → ⊥
      there (n, place, e, u) t r = refused_unlawful records R message room n place (answer_is (refusal n place) e) (λ z. clash_bool (rw z at u)) ls t r w

      same : (ms : List Lexeme) (t : Tree body) → LawfulReading records message ms t → LawfulReading records message ls t
      same ms t r = rw (spelled_once message ls ms s r.spelled) r

      number : (f : (t : Tree body) → LawfulReading records message ls t → ⊥) (n place : ℕ) → read_with records message room ≡ refusal n place → is_unlawful n ≡ true
      number f n place e =
          let g = refusal_number records R message room n place e in
          number_unlawful n (at_least (λ q. not_21 (ap (λ m. refusal m place) q)) (λ q. not_22 (ap (λ m. refusal m place) q)) g.0) g.1 (λ q. not_29 (ap (λ m. refusal m place) q))
        where
          not_21 : refusal n place ≡ refusal 21 place → ⊥
          not_21 q = let x = refused_21 records R message room place (e ∙ q) in let y = w.short in omega (arith, x.0)

          clash : {p : ℕ} → nowhere ≡ found p → ⊥
          clash q = let z : ◌≡◌ {A = ℕ} 0 1 = cc in omega arith

          not_22 : refusal n place ≡ refusal 22 place → ⊥
          not_22 q = let x = refused_22 records R message room place (e ∙ q) in clash (sym (spelled_clean records R message ls s w) ∙ x.1)

          not_29 : refusal n place ≡ refusal 29 place → ⊥
          not_29 q = let x = refused_29 records R message room place (e ∙ q) in f x.1 (same x.0 x.1 x.2)

          at_least : (n ≡ 21 → ⊥) → (n ≡ 22 → ⊥) → 21 ≤ n → 23 ≤ n
          at_least a b h = omega (arith, a, b)

      back : (f : (t : Tree body) → LawfulReading records message ls t → ⊥) (a : MessageAnswer) → read_with records message room ≡ a → Unlawful
      back f (accepted k) e = let g = accepted_lawful records R message room k e in absurd (f g.1 (same g.0 g.1 g.2))
      back f (refusal n place) e = (n, place, is_answer (refusal n place) e, number f n place e)

  reading_indices : (rs : List Row) → Reading table message rs → IndicesStand (schema_of records) rs
  reading_indices rs r = rw r.rows (indices_stand records message r.tokens r.tree (table_root table ok) r.lawful.lawful)

  beyond_range : (place : ℕ) → read_answer table message room ≡ refusal 30 place → Outside table message place
  unfolding schema_of
  beyond_range place e =
      let g = refused_30 records (table_reading table ok) message room place (answer_is (refusal 30 place) e) in
      let q = g.5.0 in
      let o = (outside_30 (record_at records q) g.1.token).0 g.5.1 in
      record { before = g.0; it = g.1; after = g.2; spelled = g.3; there = g.4; parameter = q; form = o.0; range = o.1 }

-- ---- the promise

-- T9, T11 to T14, T17
pub read_promise : (table message lent : List ℕ) → IsBytes table → ReadPromise table message lent (read_answer table message (length lent)) (rows_after table message lent)
read_promise table message lent bytes = by (table_rules parameter_limit table) refl
  where
    good : Compilable table → table_rules parameter_limit table ≡ true
    good c = (rules_iff table bytes).1 c

    by : (b : Bool) → table_rules parameter_limit table ≡ b → ReadPromise table message lent (read_answer table message (length lent)) (rows_after table message lent)
    by true ok =
        let c = (rules_iff table bytes).0 ok in
        record {
          wrong_table = ((λ e. absurd (never_20 table message lent ok e)), λ f. absurd (f c));
          accepted_means = λ k e. (c, accepted_means_lem table message lent ok k e);
          lawful_accepted = λ _ rs r h. lawful_accepts table message lent ok rs r h;
          one_reading = λ _ ls ms a b x y. one_reading_lem (records_in table) (table_reading table ok) message ls ms a b x y;
          no_room = λ k. ((λ e. (c, (lacks_room table message lent ok k).0 e)), λ x. (lacks_room table message lent ok k).1 x.1);
          unlawful = λ _ ls s w. no_reading table message lent ok ls s w;
          outside = beyond_range table message lent ok;
          indices = λ _ rs r. reading_indices table message lent ok rs r;
          unchanged = λ n place e. good_after table message lent ok ∙ refused_unchanged (records_in table) (table_reading table ok) message lent n place (answer_is table message lent ok (refusal n place) e);
        }
    by false bad =
        let a = bad_answer table message (length lent) bad in
        let f = (no_text_iff table bytes).0 bad in
        record {
          wrong_table = ((λ e. f), λ g. a);
          accepted_means = λ k e. let z : ◌≡◌ {A = ℕ} 0 1 = cc in absurd (omega arith);
          lawful_accepted = λ c. absurd (f c);
          one_reading = λ c. absurd (f c);
          no_room = λ k. ((λ e. let q : ◌≡◌ {A = ℕ} 20 29 = cc in absurd (omega arith)), λ x. absurd (f x.0));
          unlawful = λ c. absurd (f c);
          outside = λ place e. let q : ◌≡◌ {A = ℕ} 20 30 = cc in absurd (omega arith);
          indices = λ c. absurd (f c);
          unchanged = λ n place e. bad_after table message lent bad;
        }
