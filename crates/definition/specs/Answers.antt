-- The answers of the compiler in the paper's terms, and the checks from the declarations on.
use Rattle.std.specs.Prelude.{List, [], ◌∷◌, ℕ, Result as Answer, Ok, Err, Option, Some, None}
use Rattle.numbers.specs.declared.Refusal.{Refusal}
use Rattle.numbers.specs.declared.Rule.{Rule}
use Rattle.numbers.specs.Rules.{rule_number}
use Rattle.reading_rules.specs.Record.{Record}
use Rattle.definition_rules.specs.Declarations.{Noted, declarations_of}
use Rattle.definition_rules.specs.Records.{records_of}
use Rattle.definition_rules.specs.Faults.{faults5, faults6, faults7, faults8, faults9, faults10}
use Rattle.definition_rules.specs.Compile.{Check, check, Finding, clean, fault, first_fault, Verdict, verdict_of, CompileAnswer, compiled, refusal}
use Rattle.definition_cells.specs.Cells.{noted_from}

-- "Answer: number and place"; "Success gives the table's length"
abbrev pub answer_of_compile : Answer ℕ Refusal → CompileAnswer
answer_of_compile (Ok n) = compiled n
answer_of_compile (Err r) = refusal (rule_number r.rule) r.place

-- a rule is broken where it has a place
abbrev pub refused_at : Rule → Option ℕ → Answer (Unit {0}) Refusal
refused_at rule (Some p) = Err (record { rule = rule; place = p })
refused_at rule None = Ok tt

-- what checks find: nothing, or a rule's number and a place
abbrev pub stop_finding : Answer (Unit {0}) Refusal → Finding
stop_finding (Ok _) = clean
stop_finding (Err r) = fault (rule_number r.rule) r.place

-- 7 to 10, over declarations with places in the text
unfoldable pub checks7to10 : List Record → List Noted → List Check
checks7to10 rs ns = check 7 (faults7 rs ns) ∷ check 8 (faults8 rs ns) ∷ check 9 (faults9 rs ns) ∷ check 10 (faults10 rs ns) ∷ []

-- 5 to 10
unfoldable pub checks5to10 : List Record → List Noted → List Check
checks5to10 rs ns = check 5 (faults5 ns) ∷ check 6 (faults6 rs ns) ∷ checks7to10 rs ns

abbrev pub records_of_cells : List ℕ → List ℕ → ℕ → List Record
records_of_cells text cs n = records_of (declarations_of (noted_from text cs n 0))

-- what the n declarations that are kept come to
unfoldable pub verdict_from : List ℕ → List ℕ → ℕ → Verdict
verdict_from text cs n = verdict_of (first_fault (checks5to10 (records_of_cells text cs n) (noted_from text cs n 0))) (records_of_cells text cs n)
