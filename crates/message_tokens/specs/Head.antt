-- What stands next, and its kind by a number.
use Rattle.std.specs.Prelude.{◌≡◌, ℕ, ◌+◌, ◌-◌, ◌≤◌, true, false, List, [], ◌∷◌, length, ◌==◌, ◌≢◌}
use Rattle.reading_rules.specs.Token.{Token, word, string, equals, comma, opening, closing}
use Rattle.message_rules.specs.Scan.{tokens_of}
use Rattle.message_rules.specs.Verdict.{start_or}
use Rattle.message_tokens.specs.Cursor.{part, cut_at, lexemes_at, Step}
use Rattle.message_tokens.specs.declared.Head.{Head}
use Rattle.message_tokens.specs.declared.TokenKind.{TokenKind}
use Rattle.message_tokens.specs.declared.TokenKind.TheVariants.{Nothing, Word, String, Equals, Comma, Opening, Closing}

-- the number of a kind
abbrev pub kind_number : TokenKind → ℕ
kind_number Nothing = 0
kind_number Word = 1
kind_number String = 2
kind_number Equals = 3
kind_number Comma = 4
kind_number Opening = 5
kind_number Closing = 6

-- the token of a kind from a to e
unfoldable pub token_of : ℕ → List ℕ → ℕ → ℕ → Token
token_of k s a e = elim (k == 1) [
  | true ↦ word (part s a e)
  | false ↦ elim (k == 2) [
    | true ↦ string (part s (a + 1) (e - 1))
    | false ↦ elim (k == 3) [
      | true ↦ equals
      | false ↦ elim (k == 4) [
        | true ↦ comma
        | false ↦ elim (k == 5) [ true ↦ opening | false ↦ closing ]
      ]
    ]
  ]
]

-- the kind of the first of these tokens
unfoldable pub token_kind : List Token → ℕ
token_kind [] = 0
token_kind (word w ∷ r) = 1
token_kind (string w ∷ r) = 2
token_kind (equals ∷ r) = 3
token_kind (comma ∷ r) = 4
token_kind (opening ∷ r) = 5
token_kind (closing ∷ r) = 6

pub record HeadAt (base : ℕ) (s : List ℕ) (lo : ℕ) (h : Head) : Type 0 where
  pub few : kind_number h.kind ≤ 6
  pub none : kind_number h.kind ≡ 0 → lexemes_at base s lo ≡ []
  pub some : (kind_number h.kind ≢ 0) → Step (cut_at base s lo) base s lo (token_of (kind_number h.kind) s h.start h.past.at) h.start h.past.at
  pub within : h.start ≤ length s
  pub place : base + h.start ≡ start_or (base + length s) (lexemes_at base s lo)

-- the head of a mark, a token of one byte
abbrev pub mark_head : TokenKind → ℕ → Head
mark_head k a = record { kind = k; start = a; past = record { at = a + 1 } }

-- no comma stands next
abbrev pub LacksComma : List ℕ → ℕ → Type 0
LacksComma s lo = (base : ℕ) → token_kind (tokens_of (lexemes_at base s lo)) ≢ 4
