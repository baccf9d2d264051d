-- A refusal's number is one of 1 to 11, or of 20 to 30, and never the 0 that stands for success.
use mathlib.Core.Path.{◌≡◌, refl}
use mathlib.Core.Bool.{Bool, true, false, ◌&&◌}
use mathlib.Core.List.{List, [], ◌∷◌}
use Prim.Native.Nat.{ℕ, ◌≤◌}
use native.Mathlib.Omega.{arith}
use lib.Dec.{leb, ltb}
use lib.ListN.{length}
use borrow.Author.Tests.{leb-true}
use Rattle.classes.specs.Lists.{pick}
use Rattle.numbers.specs.Limits.{parameter_limit}
use Rattle.reading_rules.proofs.CountLaws.{and_both}
use Rattle.definition_rules.specs.Table.{encode}
use Rattle.definition_rules.specs.Compile.{Check, check, Finding, clean, fault, finding_of, first_fault, checks_of, checks_after, checks_from, checks, records_of_text, verdict_of, verdict, answer_with_room, compile_answer}
use Rattle.definition_rules.specs.Compile as compiler
use Rattle.table_rules.specs.RecordRules.{table_rules}
use Rattle.message_rules.specs.Verdict.{records_in, read_with, read_answer}
use Rattle.message_rules.specs.Verdict as reader
use Rattle.message_rules.proofs.Promises.{refusal_number}
use Rattle.message_rules.proofs.Compiled.{table_reading}

-- ---- the compiler

-- each check has one of the numbers 1 to 10
unfoldable numbered : List Check → Bool
numbered [] = true
numbered (check n ps ∷ cs) = leb 1 n && (leb n 10 && numbered cs)

module _ (n p : ℕ) where
  first_number : (cs : List Check) → numbered cs ≡ true → first_fault cs ≡ fault n p → (1 ≤ n) × (n ≤ 10)
  unfolding first_fault finding_of numbered
  first_number [] h e = let z : ◌≡◌ {A = ℕ} 0 1 = cc in absurd (omega arith)
  first_number (check m ps ∷ cs) h e = and_both (leb 1 m) (leb m 10 && numbered cs) h (λ a b. and_both (leb m 10) (numbered cs) b (λ c d. by ps a c (first_number cs d) e))
    where
      by : (ps : List ℕ) → leb 1 m ≡ true → leb m 10 ≡ true → (first_fault cs ≡ fault n p → (1 ≤ n) × (n ≤ 10)) → finding_of m ps (first_fault cs) ≡ fault n p → (1 ≤ n) × (n ≤ 10)
      by [] a c rest f = rest f
      by (q ∷ r) a c rest f = let z : m ≡ n = cc in (omega (arith, leb-true 1 m a), omega (arith, leb-true m 10 c))

checks_numbered : (text : List ℕ) → numbered (checks text) ≡ true
unfolding checks checks_from checks_after checks_of numbered
checks_numbered text = refl

pub finding_number : (text : List ℕ) (n p : ℕ) → first_fault (checks text) ≡ fault n p → (1 ≤ n) × (n ≤ 10)
finding_number text n p = first_number n p (checks text) (checks_numbered text)

module _ (text : List ℕ) (room n p : ℕ) where
  room_number : (b : Bool) (k : ℕ) → pick b (compiler.refusal 11 k) (compiler.compiled k) ≡ compiler.refusal n p → (1 ≤ n) × (n ≤ 11)
  unfolding pick
  room_number true k e = let z : 11 ≡ n = cc in (omega arith, omega arith)
  room_number false k e = let z : ◌≡◌ {A = ℕ} 0 1 = cc in absurd (omega arith)

  by_finding : (f : Finding) → first_fault (checks text) ≡ f → answer_with_room room (verdict_of f (records_of_text text)) ≡ compiler.refusal n p → (1 ≤ n) × (n ≤ 11)
  unfolding verdict_of answer_with_room
  by_finding clean e h = room_number (ltb room (length (encode (records_of_text text)))) (length (encode (records_of_text text))) h
  by_finding (fault m q) e h =
      let z : m ≡ n = cc in
      let w = finding_number text m q e in
      (omega arith, omega arith)

  pub compile_number : compile_answer text room ≡ compiler.refusal n p → (1 ≤ n) × (n ≤ 11)
  unfolding compile_answer verdict
  compile_number e = by_finding (first_fault (checks text)) refl e

-- ---- the reader

module _ (t message : List ℕ) (room n p : ℕ) where
  pub read_number : read_answer t message room ≡ reader.refusal n p → (20 ≤ n) × (n ≤ 30)
  unfolding read_answer
  read_number e = by (table_rules parameter_limit t) refl e
    where
      by : (b : Bool) → table_rules parameter_limit t ≡ b → elim b [ true ↦ read_with (records_in t) message room | false ↦ reader.refusal 20 0 ] ≡ reader.refusal n p → (20 ≤ n) × (n ≤ 30)
      by true ok h = let g = refusal_number (records_in t) (table_reading t ok) message room n p h in (omega (arith, g.0), omega (arith, g.1))
      by false ok h = let z : 20 ≡ n = cc in (omega arith, omega arith)
