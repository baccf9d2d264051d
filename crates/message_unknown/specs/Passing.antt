-- Unknown parts: the parser's answers without what was read, and what the code ensures of them.
use Rattle.std.specs.Prelude.{◌≡◌, List, ℕ, suc, ◌+◌, ◌≤◌, ◌<◌, length}
use Rattle.std.specs.Prelude.{Result as Answer, Ok, Err}
use Rattle.numbers.specs.Rules.{rule_number}
use Rattle.numbers.specs.declared.Refusal.{Refusal}
use Rattle.reading_rules.specs.Token.{Token}
use Rattle.message_rules.specs.Scan.{tokens_of}
use Rattle.message_rules.specs.Scan.{Lexeme as Lex}
use Rattle.reading_rules.specs.Parse.{Result, refused, got, braces_at, unknown_at, unknowns_at}
use Rattle.message_rules.specs.Verdict.{start_or}
use Rattle.message_tokens.specs.Cursor.{lexemes_at}
use Rattle.message_tokens.specs.declared.Cursor.{Cursor}
use Rattle.message_unknown.specs.Along.{Tail, tokens_at}

-- an answer without what was read
pub data Left : Type 0 where
  stuck : ℕ → List Token → Left
  left : List Token → Left

unfoldable pub left_of : {A : Type 0} → Result A → Left
left_of (refused n x) = stuck n x
left_of (got a x) = left x

abbrev pub braces_from : ℕ → List ℕ → ℕ → ℕ → Left
braces_from base s i k = left_of (braces_at (tokens_at base s i) k)

abbrev pub unknown_from : ℕ → List ℕ → ℕ → Left
unknown_from base s i = left_of (unknown_at (tokens_at base s i))

abbrev pub unknowns_from : ℕ → List ℕ → ℕ → Left
unknowns_from base s i = left_of (unknowns_at (suc (length (tokens_at base s i))) (tokens_at base s i))

-- from lo to at, along the tokens
pub record MovedPast (base : ℕ) (s : List ℕ) (lo at : ℕ) : Type 0 where
  pub along : Tail (lexemes_at base s at) (lexemes_at base s lo)
  pub less : lo < at
  pub within : at ≤ length s

pub record PassedUpTo (o : Left) (base : ℕ) (s : List ℕ) (lo e : ℕ) : Type 0 where
  pub is : o ≡ left (tokens_at base s e)
  pub moved : MovedPast base s lo e

pub record Halted (o : Left) (x : List Lex) (end n q : ℕ) : Type 0 where
  pub rest : List Lex
  pub is : o ≡ stuck n (tokens_of rest)
  pub along : Tail rest x
  pub place : q ≡ start_or end rest

abbrev pub PassesTo : Left → ℕ → List ℕ → ℕ → Answer Cursor Refusal → Type 0
PassesTo o base s lo (Ok u) = PassedUpTo o base s lo u.at
PassesTo o base s lo (Err r) = Halted o (lexemes_at base s lo) (base + length s) (rule_number r.rule) r.place

-- one step of each loop: the answer from i on is the answer from j on
pub record BraceOn (base : ℕ) (s : List ℕ) (i k j n : ℕ) : Type 0 where
  pub is : braces_from base s i k ≡ braces_from base s j n
  pub moved : MovedPast base s i j
  pub few : n ≤ j

pub record ValueOn (base : ℕ) (s : List ℕ) (i j : ℕ) : Type 0 where
  pub is : unknown_from base s i ≡ unknown_from base s j
  pub moved : MovedPast base s i j

pub record ListOn (base : ℕ) (s : List ℕ) (i j : ℕ) : Type 0 where
  pub is : (fuel : ℕ) → left_of (unknowns_at (suc fuel) (tokens_at base s i)) ≡ left_of (unknowns_at fuel (tokens_at base s j))
  pub moved : MovedPast base s i j
  pub short : length (tokens_at base s j) < length (tokens_at base s i)
