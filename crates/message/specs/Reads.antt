-- The code's answers in the paper's terms, and what the two passes ensure.
use Rattle.std.specs.Prelude.{◌≡◌, List, ℕ, ◌+◌, length, Result, Ok, Err}
use Rattle.std.proofs.lemmas.List.Edits.{sets}
use Rattle.numbers.specs.Limits.{open_limit}
use Rattle.numbers.specs.Rules.{rule_number}
use Rattle.numbers.specs.declared.Refusal.{Refusal}
use Rattle.table_records.specs.declared.Records.{Records}
use Rattle.message_lookup.specs.Questions.{schema_at}
use Rattle.message_rules.specs.Scan.{cut, tokens_of}
use Rattle.reading_rules.specs.Parse.{parse}
use Rattle.message_rules.specs.Rows.{Row, cells}
use Rattle.message_rules.specs.Verdict.{RoomFree, fault, rows, outcome, MessageAnswer, accepted, refusal}
use Rattle.message_frame.specs.declared.Frame.{Frame}

-- "Success gives the row count"; a refusal its number and place
abbrev pub answer_of_read : Result ℕ Refusal → MessageAnswer
answer_of_read (Ok n) = accepted n
answer_of_read (Err r) = refusal (rule_number r.rule) r.place

abbrev pub root_frame : Frame
root_frame = record { base = 0; at = 0; row = 1; parameter = 0; parent = 0; index = 0; depth = open_limit + 1 }

-- what the tokens of a message without number 22 make
abbrev pub reading : List ℕ → List ℕ → ℕ → List ℕ → RoomFree
reading t o n message = outcome message (cut message).lexemes (parse (schema_at t o n) open_limit (tokens_of (cut message).lexemes))

abbrev pub reading_of : Records → List ℕ → RoomFree
reading_of r message = reading r.table.now r.unpacked.now r.count message

-- the rows of a reading, counted
pub record Rows (o : RoomFree) (m : ℕ) : Type 0 where
  pub all : List Row
  pub is : o ≡ rows all
  pub counted : m ≡ length all

abbrev pub RowsCounted : RoomFree → Result ℕ Refusal → Type 0
RowsCounted o (Ok m) = Rows o m
RowsCounted o (Err r) = o ≡ fault (rule_number r.rule) r.place

-- the rows of a reading, stored from the start
abbrev pub Fills : RoomFree → List ℕ → List ℕ → Type 0
Fills o before after = (rs : List Row) → o ≡ rows rs → after ≡ sets before 0 (cells rs)
