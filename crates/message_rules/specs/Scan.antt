-- A message's bytes as tokens with their places: what that means, how they are cut, and number 22.
use Rattle.std.specs.Prelude.{◌≡◌, Bool, true, false, not, ◌&&◌, List, [], ◌∷◌, ◌++◌, ◌⊎◌, ℕ, zero, suc, ◌+◌, ◌-◌, eqb, leb, length, take, drop, get_or}
use Rattle.numbers.specs.Limits.{open_limit}
use Rattle.classes.specs.Bytes.{is_blank, is_word_byte, is_string_byte, is_quote}
use Rattle.classes.specs.Lists.{every, run_of}
use Rattle.reading_rules.specs.Token.{Token, word, string, equals, comma, opening, closing, is_token}
use Rattle.reading_rules.specs.Schema.{Found, nowhere, found}

-- a token, where it starts and where it ends (end not included)
pub record Lexeme : Type 0 where
  pub token : Token
  pub start : ℕ
  pub end : ℕ

abbrev pub lexeme : Token → ℕ → ℕ → Lexeme
lexeme t s e = record { token = t; start = s; end = e }

-- a token's bytes, in front of what follows
unfoldable pub spelled_then : Token → List ℕ → List ℕ
spelled_then (word w) r = w ++ r
spelled_then (string w) r = 34 ∷ (w ++ 34 ∷ r)
spelled_then equals r = 61 ∷ r
spelled_then comma r = 44 ∷ r
spelled_then opening r = 123 ∷ r
spelled_then closing r = 125 ∷ r

unfoldable pub spelled_length : Token → ℕ
spelled_length (word w) = length w
spelled_length (string w) = length w + 2
spelled_length equals = 1
spelled_length comma = 1
spelled_length opening = 1
spelled_length closing = 1

-- "a word (longest row ..)": no byte of a word follows it
unfoldable pub no_word_byte : List ℕ → Bool
no_word_byte [] = true
no_word_byte (b ∷ l) = not (is_word_byte b)

unfoldable pub ends_there : Token → List ℕ → Bool
ends_there (word w) r = no_word_byte r
ends_there (string w) r = true
ends_there equals r = true
ends_there comma r = true
ends_there opening r = true
ends_there closing r = true

-- the bytes from the place at on are these tokens, at their places, with blanks between
unfoldable pub Spelled : ℕ → List ℕ → List Lexeme → Type 0
Spelled at bytes [] = every is_blank bytes ≡ true
Spelled at bytes (l ∷ ls) =
    (gap : List ℕ) × (rest : List ℕ)
    × (bytes ≡ gap ++ spelled_then l.token rest)
    × (every is_blank gap ≡ true)
    × (is_token l.token ≡ true)
    × (ends_there l.token rest ≡ true)
    × (l.start ≡ at + length gap)
    × (l.end ≡ l.start + spelled_length l.token)
    × Spelled l.end rest ls

-- the tokens before the first bad byte, and that byte's place if there is one
pub record CutResult : Type 0 where
  pub lexemes : List Lexeme
  pub bad : Found

abbrev pub clean : CutResult
clean = record { lexemes = []; bad = nowhere }

abbrev pub bad_at : ℕ → CutResult
bad_at at = record { lexemes = []; bad = found at }

abbrev pub put_first : Lexeme → CutResult → CutResult
put_first l c = record { lexemes = l ∷ c.lexemes; bad = c.bad }

-- what the first byte after the blanks begins
pub data Begins : Type 0 where
  plain quoted nothing : Begins
  mark : Token → Begins

-- "a word .., a string .., and `= , { }`"
unfoldable pub begins_of : ℕ → Begins
begins_of b = elim (is_word_byte b) [
  | true ↦ plain
  | false ↦ elim (is_quote b) [
    | true ↦ quoted
    | false ↦ elim (eqb b 61) [
      | true ↦ mark equals
      | false ↦ elim (eqb b 44) [
        | true ↦ mark comma
        | false ↦ elim (eqb b 123) [
          | true ↦ mark opening
          | false ↦ elim (eqb b 125) [ true ↦ mark closing | false ↦ nothing ]
        ]
      ]
    ]
  ]
]

-- one token at the place at, where the bytes b ∷ l begin, and what next makes of the bytes after it
-- a word is the longest row; "`"` that begins no string" is bad: after its bytes there is no closing quote
unfoldable pub cut_token : (ℕ → List ℕ → CutResult) → ℕ → ℕ → List ℕ → Begins → CutResult
cut_token next at b l plain =
    let n = run_of is_word_byte (b ∷ l) in
    put_first (lexeme (word (take n (b ∷ l))) at (at + n)) (next (at + n) (drop n (b ∷ l)))
cut_token next at b l quoted =
    let n = run_of is_string_byte l in
    elim (is_quote (get_or l n 0)) [
      | true ↦ put_first (lexeme (string (take n l)) at (at + n + 2)) (next (at + n + 2) (drop (suc n) l))
      | false ↦ bad_at at
    ]
cut_token next at b l (mark t) = put_first (lexeme t at (at + 1)) (next (at + 1) l)
cut_token next at b l nothing = bad_at at

unfoldable pub cut_rest : (ℕ → List ℕ → CutResult) → ℕ → List ℕ → CutResult
cut_rest next at [] = clean
cut_rest next at (b ∷ l) = cut_token next at b l (begins_of b)

-- the bytes from the place at on; fuel is not less than their number, so none is left where it is zero
unfoldable pub cut_from : ℕ → ℕ → List ℕ → CutResult
cut_from zero at bytes = clean
cut_from (suc fuel) at bytes =
    let n = run_of is_blank bytes in
    cut_rest (cut_from fuel) (at + n) (drop n bytes)

abbrev pub cut : List ℕ → CutResult
cut message = cut_from (length message) 0 message

-- no token begins with a byte of this kind before l: a string's bytes run on to no quote
unfoldable pub none_begun : List ℕ → Begins → Bool
none_begun l plain = false
none_begun l quoted = not (is_quote (get_or l (run_of is_string_byte l) 0))
none_begun l nothing = true
none_begun l (mark t) = false

-- "bad byte, `"` that begins no string": no blank and no token begins with these bytes
unfoldable pub begins_none : List ℕ → Bool
begins_none [] = false
begins_none (b ∷ l) = not (is_blank b) && none_begun l (begins_of b)

-- the bytes from the place at on are these tokens, with blanks between, up to the place bad, where no token begins
unfoldable pub Faulty : ℕ → List ℕ → List Lexeme → ℕ → Type 0
Faulty at bytes [] bad =
    (gap : List ℕ) × (rest : List ℕ)
    × (bytes ≡ gap ++ rest)
    × (every is_blank gap ≡ true)
    × (bad ≡ at + length gap)
    × (begins_none rest ≡ true)
Faulty at bytes (l ∷ ls) bad =
    (gap : List ℕ) × (rest : List ℕ)
    × (bytes ≡ gap ++ spelled_then l.token rest)
    × (every is_blank gap ≡ true)
    × (is_token l.token ≡ true)
    × (ends_there l.token rest ≡ true)
    × (l.start ≡ at + length gap)
    × (l.end ≡ l.start + spelled_length l.token)
    × Faulty l.end rest ls bad

-- "Tokens: a word .., a string .., and `= , { }`": a message is its tokens in one way, or has a first bad byte
pub data Cutting (message : List ℕ) : Type 0 where
  -- it spells these tokens and no others
  whole : (ls : List Lexeme) → Spelled 0 message ls → ((ms : List Lexeme) → Spelled 0 message ms → ls ≡ ms) → Cutting message
  -- it spells none: after these tokens stands a byte with which no token begins
  broken : (ls : List Lexeme) (bad : ℕ) → Faulty 0 message ls bad → ((ms : List Lexeme) → Spelled 0 message ms → ⊥) → ((ms : List Lexeme) (place : ℕ) → Faulty 0 message ms place → (ls ≡ ms) × (bad ≡ place)) → Cutting message

unfoldable pub tokens_of : List Lexeme → List Token
tokens_of [] = []
tokens_of (l ∷ ls) = l.token ∷ tokens_of ls

-- "opened less closed, never under 0", after the token
unfoldable pub open_after : ℕ → Token → ℕ
open_after n (word w) = n
open_after n (string w) = n
open_after n equals = n
open_after n comma = n
open_after n opening = suc n
open_after n closing = n - 1

unfoldable pub is_opening : Token → Bool
is_opening (word w) = false
is_opening (string w) = false
is_opening equals = false
is_opening comma = false
is_opening opening = true
is_opening closing = false

-- the place of the first "`{` with 16 open", if there is one
unfoldable pub too_deep : ℕ → List Lexeme → Found
too_deep n [] = nowhere
too_deep n (l ∷ ls) = elim (is_opening l.token && leb open_limit n) [
  | true ↦ found l.start
  | false ↦ too_deep (open_after n l.token) ls
]

-- "Braces are at most sixteen deep when no `{` token stands with 16 open (counted as in 2).": of tokens, n open before, any limit
unfoldable pub shallow : ℕ → ℕ → List Token → Bool
shallow limit n [] = true
shallow limit n (t ∷ ts) = not (is_opening t && leb limit n) && shallow limit (open_after n t) ts

-- these are the message's tokens, up to its end or to its first bad byte
abbrev pub TokensAre : List ℕ → List Lexeme → Type 0
TokensAre message ls = Spelled 0 message ls ⊎ ((bad : ℕ) × Faulty 0 message ls bad)

-- number 22, "at its smallest place", said without a scan
pub data TokenFault (message : List ℕ) (place : ℕ) : Type 0 where
  -- a byte with which no token begins; no brace before it is too deep
  bad_byte : (ls : List Lexeme) → Faulty 0 message ls place → shallow open_limit 0 (tokens_of ls) ≡ true → TokenFault message place
  -- the first `{` with 16 open
  deep_brace : (ms : List Lexeme) (l : Lexeme) (rest : List Lexeme) → TokensAre message (ms ++ (l ∷ rest)) → shallow open_limit 0 (tokens_of ms) ≡ true → shallow open_limit 0 (tokens_of (ms ++ (l ∷ []))) ≡ false → place ≡ l.start → TokenFault message place

-- the same found by a scan: a brace too deep stands before the bad byte, as all the tokens do
unfoldable pub either : Found → Found → Found
either nowhere f = f
either (found at) f = found at

unfoldable pub scan_fault : CutResult → Found
scan_fault c = either (too_deep 0 c.lexemes) c.bad
