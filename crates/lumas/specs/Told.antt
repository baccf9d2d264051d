-- What a caller in another language is told: the paper's number, 0 for success, and one value.
use Rattle.numbers.specs.Rules.{rule_number}
use Rattle.numbers.specs.declared.Refusal.{Refusal}
use Rattle.std.specs.Prelude.{Result, Ok, Err, ◌≡◌, List, ℕ, zero, suc, ◌+◌, ◌*◌, ◌≤◌, ◌<◌, length, take, drop, get_or}
use Rattle.numbers.specs.Limits.{parameter_limit, row_width}
use Rattle.definition_rules.specs.Compile as compiler
use Rattle.message_rules.specs.Verdict as reader
use Rattle.message_rules.specs.RowBytes.{row_bytes}

-- the number of an answer, 0 for success, and the value that goes with it
abbrev pub number_told : Result ℕ Refusal → ℕ
number_told (Ok n) = 0
number_told (Err r) = rule_number r.rule

abbrev pub value_told : Result ℕ Refusal → ℕ
value_told (Ok n) = n
value_told (Err r) = r.place

-- "Success gives the table's length", a refusal its place
unfoldable pub compile_value : compiler.CompileAnswer → ℕ
compile_value a = compiler.length_of_compile a + compiler.place_of_compile a

-- "Success gives the row count", a refusal its place
unfoldable pub read_value : reader.MessageAnswer → ℕ
read_value a = reader.count_of_read a + reader.place_of_read a

-- "A record has 25 to 87 bytes": no table is longer
abbrev pub table_most : ℕ
table_most = parameter_limit * 87

-- the answer that a number and a value stand for: 0 stands for success alone
abbrev pub compile_heard : ℕ → ℕ → compiler.CompileAnswer
compile_heard zero value = compiler.compiled value
compile_heard (suc n) value = compiler.refusal (suc n) value

abbrev pub read_heard : ℕ → ℕ → reader.MessageAnswer
read_heard zero value = reader.accepted value
read_heard (suc n) value = reader.refusal (suc n) value

-- a row's bytes told by how many they are and where they start, which is the row's start: "the empty part" is 0 from 0 on
pub record RowPart (message rows : List ℕ) (row start count : ℕ) : Type 0 where
  pub bytes : take count (drop start message) ≡ row_bytes message rows row
  pub within : start + count ≤ length message
  pub empty : count ≡ 0 → start ≡ 0
  pub begins : 0 < count → start ≡ get_or rows (row_width * row + 2) 0
