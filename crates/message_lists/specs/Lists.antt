-- What follows a value of a list, against the parser.
use Rattle.std.specs.Prelude.{◌≡◌, true, List, ℕ, ◌+◌, length}
use Rattle.std.specs.Prelude.{Result as Answer, Option, Some, None, Ok, Err}
use Rattle.numbers.specs.Rules.{rule_number}
use Rattle.numbers.specs.declared.Refusal.{Refusal}
use Rattle.reading_rules.specs.Token.{Token, comma}
use Rattle.reading_rules.specs.Schema.{Schema}
use Rattle.reading_rules.specs.Reading.{value, list, Tree, last}
use Rattle.reading_rules.specs.Parse.{Result, got, may_grow, after_value}
use Rattle.message_tokens.specs.Cursor.{cut_at, lexemes_at, Step}
use Rattle.message_unknown.specs.Along.{tokens_at, Stopped}
use Rattle.message_tokens.specs.declared.Cursor.{Cursor}

pub record Grows (S : Schema) (s : List ℕ) (base q v c at : ℕ) : Type 0 where
  pub place : ℕ
  pub step : Step (cut_at base s v) base s v comma place at
  pub may : may_grow (S.hi q) c ≡ true

abbrev pub AfterAt : Schema → List ℕ → ℕ → ℕ → ℕ → ℕ → Answer (Option Cursor) Refusal → Type 0
AfterAt S s base q v c (Ok (Some u)) = Grows S s base q v c u.at
AfterAt S s base q v c (Ok None) = (next : List Token → Result (Tree list)) (w : Tree value) → after_value S q c next w (tokens_at base s v) ≡ got (last w) (tokens_at base s v)
AfterAt S s base q v c (Err r) = (next : List Token → Result (Tree list)) (w : Tree value) → Stopped (after_value S q c next w (tokens_at base s v)) (lexemes_at base s v) (base + length s) (rule_number r.rule) r.place
