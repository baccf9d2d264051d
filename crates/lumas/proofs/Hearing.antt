-- The number and the value that are told of an answer, and the answer that they stand for.
use mathlib.Core.Path.{◌≡◌, refl, sym, ap, ◌∙◌}
use mathlib.Core.List.{List}
use Prim.Native.Nat.{ℕ, zero, suc, ◌≤◌}
use Rattle.std.specs.Prelude.{Result, Ok, Err}
use native.Mathlib.Omega.{arith}
use lib.ListN.{length}
use Rattle.definition_rules.specs.Compile.{compile_answer}
use Rattle.definition_rules.specs.Compile as compiler
use Rattle.definition_rules.specs.Stuck.{StuckPromise}
use Rattle.table_rules.specs.Endless.{EndlessPromise}
use Rattle.message_rules.specs.Verdict.{read_answer}
use Rattle.message_rules.specs.Verdict as reader
use Rattle.message_rules.specs.Promise.{ReadPromise}
use Rattle.numbers.specs.Rules.{rule_number}
use Rattle.numbers.specs.declared.Refusal.{Refusal}
use Rattle.definition.specs.Answers.{answer_of_compile}
use Rattle.message.specs.Reads.{answer_of_read}
use Rattle.lumas.specs.Told.{number_told, value_told, table_most, compile_value, read_value, compile_heard, read_heard}
use Rattle.lumas.proofs.Sizes.{never_eleven}
use Rattle.lumas.proofs.Numbers.{compile_number, read_number}

-- ---- the compiler

heard_refusal : (n p : ℕ) → 1 ≤ n → compile_heard n p ≡ compiler.refusal n p
heard_refusal zero p h = absurd (omega arith)
heard_refusal (suc n) p h = refl

pub record CompileTold (text : List ℕ) (room n v : ℕ) : Type 0 where
  pub number : n ≡ compiler.number_of_compile (compile_answer text room)
  pub value : v ≡ compile_value (compile_answer text room)
  pub heard : compile_heard n v ≡ compile_answer text room
  pub stuck : StuckPromise text (compile_heard n v)
  pub endless : EndlessPromise text (compile_heard n v)
  pub fits : table_most ≤ room → n ≡ 11 → ⊥

module _ (text : List ℕ) (room : ℕ) where
  pub told_table : (n : ℕ) → compiler.compiled n ≡ compile_answer text room → StuckPromise text (compiler.compiled n) × EndlessPromise text (compiler.compiled n) → CompileTold text room 0 n
  unfolding compile_value compiler.number_of_compile compiler.length_of_compile compiler.place_of_compile
  told_table n e promise = record { number = rw (← e); value = rw (← e) (omega arith); heard = e; stuck = promise.0; endless = promise.1; fits = λ _ z. omega (arith, z) }

  pub told_refusal : (n p : ℕ) → compiler.refusal n p ≡ compile_answer text room → StuckPromise text (compiler.refusal n p) × EndlessPromise text (compiler.refusal n p) → CompileTold text room n p
  unfolding compile_value compiler.number_of_compile compiler.length_of_compile compiler.place_of_compile
  told_refusal n p e promise =
      let h : compile_heard n p ≡ compiler.refusal n p = heard_refusal n p (compile_number text room n p (sym e)).0 in
      record { number = rw (← e); value = rw (← e) (omega arith); heard = h ∙ e; stuck = rw h promise.0; endless = rw h promise.1; fits = λ l z. never_eleven text room p l (sym e ∙ ap (λ k. compiler.refusal k p) z) }

  -- what is told of the code's answer
  pub told_compile : (a : Result ℕ Refusal) → answer_of_compile a ≡ compile_answer text room → StuckPromise text (answer_of_compile a) → EndlessPromise text (answer_of_compile a) → CompileTold text room (number_told a) (value_told a)
  told_compile (Ok n) e stuck endless = told_table n e (stuck, endless)
  told_compile (Err r) e stuck endless = told_refusal (rule_number r.rule) r.place e (stuck, endless)

-- ---- the reader

read_refusal : (n p : ℕ) → 1 ≤ n → read_heard n p ≡ reader.refusal n p
read_refusal zero p h = absurd (omega arith)
read_refusal (suc n) p h = refl

pub record ReadTold (table message lent : List ℕ) (n v : ℕ) (after : List ℕ) : Type 0 where
  pub number : n ≡ reader.number_of_read (read_answer table message (length lent))
  pub value : v ≡ read_value (read_answer table message (length lent))
  pub heard : read_heard n v ≡ read_answer table message (length lent)
  pub promise : ReadPromise table message lent (read_heard n v) after

module _ (table message lent after : List ℕ) where
  pub told_rows : (n : ℕ) → reader.accepted n ≡ read_answer table message (length lent) → ReadPromise table message lent (reader.accepted n) after
      → ReadTold table message lent 0 n after
  unfolding read_value reader.number_of_read reader.count_of_read reader.place_of_read
  told_rows n e promise = record { number = rw (← e); value = rw (← e) (omega arith); heard = e; promise = promise }

  pub told_no_rows : (n p : ℕ) → reader.refusal n p ≡ read_answer table message (length lent) → ReadPromise table message lent (reader.refusal n p) after
      → ReadTold table message lent n p after
  unfolding read_value reader.number_of_read reader.count_of_read reader.place_of_read
  told_no_rows n p e promise =
      let h : read_heard n p ≡ reader.refusal n p = read_refusal n p (omega (arith, (read_number table message (length lent) n p (sym e)).0)) in
      record { number = rw (← e); value = rw (← e) (omega arith); heard = h ∙ e; promise = rw h promise }

  pub told_read : (a : Result ℕ Refusal) → answer_of_read a ≡ read_answer table message (length lent) → ReadPromise table message lent (answer_of_read a) after → ReadTold table message lent (number_told a) (value_told a) after
  told_read (Ok n) e promise = told_rows n e promise
  told_read (Err r) e promise = told_no_rows (rule_number r.rule) r.place e promise
