-- How code goes along the tokens of a message.
use Rattle.std.specs.Prelude.{◌≡◌, List, ◌∷◌, ℕ}
use Rattle.reading_rules.specs.Token.{Token}
use Rattle.message_rules.specs.Scan.{tokens_of}
use Rattle.message_rules.specs.Scan.{Lexeme as Lex}
use Rattle.reading_rules.specs.Parse.{Result, refused}
use Rattle.message_rules.specs.Verdict.{start_or}
use Rattle.message_tokens.specs.Cursor.{lexemes_at}

-- y is what is left of x
pub data Tail {A : Type 0} (y : List A) : List A → Type 0 where
  here : Tail y y
  later : (l : A) (x : List A) → Tail y x → Tail y (l ∷ x)

abbrev pub tokens_at : ℕ → List ℕ → ℕ → List Token
tokens_at base s at = tokens_of (lexemes_at base s at)

-- a reader of the lexemes x refused with the number n at the place q; end is the message's length
pub record Stopped {A : Type 0} (o : Result A) (x : List Lex) (end n q : ℕ) : Type 0 where
  pub rest : List Lex
  pub is : o ≡ refused n (tokens_of rest)
  pub along : Tail rest x
  pub place : q ≡ start_or end rest
