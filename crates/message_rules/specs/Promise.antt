-- Demand 3: what an answer of the reader means, over lawful readings and the limits alone.
use Rattle.std.specs.Prelude.{◌≡◌, true, false, List, ◌∷◌, ◌++◌, ◌↔◌, ℕ, ◌*◌, ◌≤◌, ◌<◌, length, drop}
use Rattle.numbers.specs.Limits.{row_width}
use Rattle.reading_rules.specs.Record.{record_at}
use Rattle.reading_rules.specs.Value.{token_form, token_within}
use Rattle.reading_rules.specs.Schema.{schema_of}
use Rattle.reading_rules.specs.Reading.{Tree, body}
use Rattle.table_rules.specs.Compilable.{Compilable}
use Rattle.message_rules.specs.Scan.{Lexeme, Spelled}
use Rattle.message_rules.specs.Rows.{Row, message_rows, cells, IndicesStand}
use Rattle.message_rules.specs.Verdict.{LawfulReading, Within, is_unlawful, MessageAnswer, accepted, refusal, records_in}

-- a lawful reading of the message, within the limits, and its rows
pub record Reading (table message : List ℕ) (rs : List Row) : Type 0 where
  pub tokens : List Lexeme
  pub tree : Tree body
  pub lawful : LawfulReading (records_in table) message tokens tree
  pub within : Within message tokens
  pub rows : rs ≡ message_rows message tokens tree

-- 02 (request 4): "a right form whose number, length, date or time lies outside what is allowed"; so is the message's token at this place, for a parameter of the table
pub record Outside (table message : List ℕ) (place : ℕ) : Type 0 where
  pub before : List Lexeme
  pub it : Lexeme
  pub after : List Lexeme
  pub spelled : Spelled 0 message (before ++ it ∷ after)
  pub there : it.start ≡ place
  pub parameter : ℕ
  pub form : token_form (record_at (records_in table) parameter) it.token ≡ true
  pub range : token_within (record_at (records_in table) parameter) it.token ≡ false

-- a table, a message and the lent numbers; the answer, and the lent numbers after
pub record ReadPromise (table message lent : List ℕ) (answer : MessageAnswer) (after : List ℕ) : Type 0 where
  -- "20: no definition compiles to this table"
  pub wrong_table : (answer ≡ refusal 20 0) ↔ (Compilable table → ⊥)
  -- the reader accepts exactly when a lawful reading exists and its rows fit; the rows are that reading's
  pub accepted_means : (k : ℕ) → answer ≡ accepted k → Compilable table × ((rs : List Row) × Reading table message rs × (k ≡ length rs) × (row_width * k ≤ length lent) × (after ≡ cells rs ++ drop (row_width * k) lent))
  pub lawful_accepted : Compilable table → (rs : List Row) → Reading table message rs → row_width * length rs ≤ length lent → answer ≡ accepted (length rs)
  -- there is never a second reading, whatever its length and depth
  pub one_reading : Compilable table → (ls ms : List Lexeme) (a b : Tree body) → LawfulReading (records_in table) message ls a → LawfulReading (records_in table) message ms b → (ls ≡ ms) × (a ≡ b)
  -- where the rows don't fit the answer is 29 with their number
  pub no_room : (k : ℕ) → (answer ≡ refusal 29 k) ↔ (Compilable table × ((rs : List Row) × Reading table message rs × (k ≡ length rs) × (length lent < row_width * k)))
  -- 23 to 28 and 30, where 20 to 22 don't apply: no lawful reading exists
  pub unlawful : Compilable table → (ls : List Lexeme) → Spelled 0 message ls → Within message ls → ((n : ℕ) × (place : ℕ) × (answer ≡ refusal n place) × (is_unlawful n ≡ true)) ↔ ((t : Tree body) → LawfulReading (records_in table) message ls t → ⊥)
  -- 30: the token at that place has the form of some parameter's type, and lies outside what this allows
  pub outside : (place : ℕ) → answer ≡ refusal 30 place → Outside table message place
  -- 02 (request 11): "the place of the value in its list, from 0; the root, voids and chosen alternatives have 0"
  pub indices : Compilable table → (rs : List Row) → Reading table message rs → IndicesStand (schema_of (records_in table)) rs
  -- "Nothing lent is changed."
  pub unchanged : (n place : ℕ) → answer ≡ refusal n place → after ≡ lent
