-- What reading a message answers.
use Rattle.std.specs.Prelude.{◌≡◌, Bool, true, false, ◌||◌, List, [], ◌∷◌, ◌++◌, ℕ, ◌-◌, ◌*◌, ◌≤◌, eqb, leb, length, drop}
use Rattle.classes.specs.Bytes.{between}
use Rattle.numbers.specs.Limits.{parameter_limit, message_limit, open_limit, row_width}
use Rattle.reading_rules.specs.Token.{Token}
use Rattle.reading_rules.specs.Record.{Record}
use Rattle.reading_rules.specs.Schema.{Schema, schema_of, Found, nowhere, found}
use Rattle.reading_rules.specs.Reading.{body, Tree, Lawful, leaves}
use Rattle.definition_rules.specs.Table.{Maybe, none, just, decode}
use Rattle.table_rules.specs.RecordRules.{table_rules}
use Rattle.message_rules.specs.Scan.{Lexeme, Spelled, cut, tokens_of, scan_fault, shallow}
use Rattle.message_rules.specs.Rows.{Row, message_rows, cells}
use Rattle.reading_rules.specs.Parse.{Result, refused, got, parse}

-- "A lawful reading" of a message, without limit of length or depth: the tokens ls that its bytes spell, and a lawful tree
-- "From left to right its leaves are all the message's tokens, each once. A message with a byte neither blank nor in a token has none."
pub record LawfulReading (table : List Record) (message : List ℕ) (ls : List Lexeme) (t : Tree body) : Type 0 where
  pub spelled : Spelled 0 message ls
  pub lawful : Lawful (schema_of table) t
  pub all : leaves t ≡ tokens_of ls

-- the message keeps the two limits: "At most 16,384 bytes", "Braces are at most sixteen deep"
pub record Within (message : List ℕ) (ls : List Lexeme) : Type 0 where
  pub short : length message ≤ message_limit
  pub flat : shallow open_limit 0 (tokens_of ls) ≡ true

-- before any room is lent: a number and a place, or the rows
pub data RoomFree : Type 0 where
  fault : ℕ → ℕ → RoomFree
  rows : List Row → RoomFree

-- "it, or the length": the place of the first of these tokens
unfoldable pub start_or : ℕ → List Lexeme → ℕ
start_or n [] = n
start_or n (l ∷ ls) = l.start

-- the place where the tokens left begin
unfoldable pub place_of_left : List ℕ → List Lexeme → List Token → ℕ
place_of_left message ls left = start_or (length message) (drop (length ls - length left) ls)

unfoldable pub outcome : List ℕ → List Lexeme → Result (Tree body) → RoomFree
outcome message ls (refused n left) = fault n (place_of_left message ls left)
outcome message ls (got t left) = rows (message_rows message ls t)

unfoldable pub after_scan : Schema → List ℕ → List Lexeme → Found → RoomFree
after_scan S message ls (found place) = fault 22 place
after_scan S message ls nowhere = outcome message ls (parse S open_limit (tokens_of ls))

-- the numbers of a message without a lawful reading: 23 to 28; and 30, which is "judged with 23 to 28 and meant wherever these are named" (02, request 4)
abbrev pub is_unlawful : ℕ → Bool
is_unlawful n = between 23 28 n || eqb n 30

-- "21, 22 in that order, .., then the leftmost of 23 to 28", and 30
unfoldable pub room_free : List Record → List ℕ → RoomFree
room_free table message =
    elim (leb (length message) message_limit) [
      | true ↦ after_scan (schema_of table) message (cut message).lexemes (scan_fault (cut message))
      | false ↦ fault 21 message_limit
    ]

-- "Success gives the row count"; a refusal its number and place
pub data MessageAnswer : Type 0 where
  accepted : ℕ → MessageAnswer
  refusal : ℕ → ℕ → MessageAnswer

-- the paper's number of an answer, 0 for success; a refusal's place; how many rows
unfoldable pub number_of_read : MessageAnswer → ℕ
number_of_read (accepted n) = 0
number_of_read (refusal n p) = n

unfoldable pub place_of_read : MessageAnswer → ℕ
place_of_read (accepted n) = 0
place_of_read (refusal n p) = p

unfoldable pub count_of_read : MessageAnswer → ℕ
count_of_read (accepted n) = n
count_of_read (refusal n p) = 0

-- "29: rows don't fit, rows needed": room is how many numbers are lent
unfoldable pub with_room : ℕ → RoomFree → MessageAnswer
with_room room (fault n place) = refusal n place
with_room room (rows rs) = elim (leb (row_width * length rs) room) [ true ↦ accepted (length rs) | false ↦ refusal 29 (length rs) ]

-- "lent numbers beyond those rows stay", "Nothing lent is changed.": the lent numbers afterwards
unfoldable pub written : List ℕ → RoomFree → List ℕ
written lent (fault n place) = lent
written lent (rows rs) = elim (leb (row_width * length rs) (length lent)) [ true ↦ cells rs ++ drop (row_width * length rs) lent | false ↦ lent ]

-- reading with the records of a table, number 20 apart
unfoldable pub read_with : List Record → List ℕ → ℕ → MessageAnswer
read_with records message room = with_room room (room_free records message)

unfoldable pub rows_with : List Record → List ℕ → List ℕ → List ℕ
rows_with records message lent = written lent (room_free records message)

-- the records of a table's bytes
unfoldable pub or_empty : Maybe (List Record) → List Record
or_empty none = []
or_empty (just rs) = rs

unfoldable pub records_in : List ℕ → List Record
records_in table = or_empty (decode table)

-- "First 20, 21, 22 in that order". The record rules hold exactly when some definition compiles to the table (`rules_iff`).
unfoldable pub read_answer : List ℕ → List ℕ → ℕ → MessageAnswer
read_answer table message room = elim (table_rules parameter_limit table) [ true ↦ read_with (records_in table) message room | false ↦ refusal 20 0 ]

unfoldable pub rows_after : List ℕ → List ℕ → List ℕ → List ℕ
rows_after table message lent = elim (table_rules parameter_limit table) [ true ↦ rows_with (records_in table) message lent | false ↦ lent ]
