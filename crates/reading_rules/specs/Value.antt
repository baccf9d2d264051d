-- "Values": the judgement of one simple value.
use Rattle.std.specs.Prelude.{Bool, true, false, ◌||◌, List, [], ◌∷◌, ℕ, ◌+◌, eqb, length}
use Rattle.classes.specs.Lists.{same_bytes}
use Rattle.classes.specs.Bytes.{between}
use Rattle.numbers.specs.Limits.{bias}
use Rattle.numbers.specs.Decimal.{is_int, int_within}
use Rattle.calendar.specs.Calendar.{date_form, date_within, time_form, time_within}
use Rattle.reading_rules.specs.Token.{Token, word, string, equals, comma, opening, closing}
use Rattle.reading_rules.specs.Record.{Record}

-- "true", "false"
unfoldable pub is_bool : List ℕ → Bool
is_bool w = same_bytes w (116 ∷ 114 ∷ 117 ∷ 101 ∷ []) || same_bytes w (102 ∷ 97 ∷ 108 ∷ 115 ∷ 101 ∷ [])

-- the form of a word, by the kind's number
-- "Bool: `true`, `false`. Date: eight digits .. Time: six digits .. Int: a word, digits without leading zero, `-` before all but 0. .. Unquoted-ascii: a word."
unfoldable pub word_form : ℕ → List ℕ → Bool
word_form kind w = elim (eqb kind 2) [
  | true ↦ is_bool w
  | false ↦ elim (eqb kind 3) [
    | true ↦ is_int w
    | false ↦ elim (eqb kind 5) [
      | true ↦ true
      | false ↦ elim (eqb kind 6) [
        | true ↦ date_form w
        | false ↦ elim (eqb kind 7) [ true ↦ time_form w | false ↦ false ]
      ]
    ]
  ]
]

-- the number, length, date or time of a word of that form lies in what is allowed, by the kind's number and the range
-- "year 0001 to 9999, month, day .. 00 to 23, 00 to 59, 00 to 59. .. Ints and lengths lie in the type's range."
unfoldable pub word_within : ℕ → ℕ → ℕ → List ℕ → Bool
word_within kind least most w = elim (eqb kind 3) [
  | true ↦ int_within least most w
  | false ↦ elim (eqb kind 5) [
    | true ↦ between least most (bias + length w)
    | false ↦ elim (eqb kind 6) [
      | true ↦ date_within w
      | false ↦ elim (eqb kind 7) [ true ↦ time_within w | false ↦ true ]
    ]
  ]
]

-- the token has the form of the simple type: "Ascii: a string", every other a word
unfoldable pub token_form : Record → Token → Bool
token_form r (word w) = word_form r.kind w
token_form r (string w) = eqb r.kind 4
token_form r equals = false
token_form r comma = false
token_form r opening = false
token_form r closing = false

-- a token of the form lies in what is allowed; a string by its "length without quotes"
unfoldable pub token_within : Record → Token → Bool
token_within r (word w) = word_within r.kind r.least r.most w
token_within r (string w) = between r.least r.most (bias + length w)
token_within r equals = false
token_within r comma = false
token_within r opening = false
token_within r closing = false

-- 02 (request 4): "24 shall mean a text without the type's form; the new 30 a right form whose number, length, date or time lies outside what is allowed."
unfoldable pub form_then_range : Bool → Bool → ℕ
form_then_range false within = 24
form_then_range true false = 30
form_then_range true true = 0

-- the number that refuses the token as a value of the simple type, 0 where it is one
unfoldable pub value_number : Record → Token → ℕ
value_number r t = form_then_range (token_form r t) (token_within r t)

-- the numbers that there are
pub data Judgement : ℕ → Type 0 where
  taken : Judgement 0
  formless : Judgement 24
  outside : Judgement 30
