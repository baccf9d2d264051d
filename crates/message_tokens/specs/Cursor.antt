-- The cut of a message from a place on. The bytes s may be the part of a message that starts at base: places in the cut count from the message's start.
use Rattle.std.specs.Prelude.{◌≡◌, ℕ, suc, ◌+◌, ◌-◌, ◌<◌, ◌≤◌, Bool, List, length, drop, Result, Ok, Err}
use Rattle.classes.specs.Lists.{run_of}
pub use Rattle.classes.specs.Lists.{part}
use Rattle.reading_rules.specs.Token.{Token, word, string, equals, comma, opening, closing}
use Rattle.message_rules.specs.Scan.{lexeme, CutResult, clean, bad_at, put_first, cut_rest, cut_from}
use Rattle.message_rules.specs.Scan.{Lexeme as Lex}
use Rattle.message_tokens.specs.declared.Head.{Head}
use Rattle.message_tokens.specs.declared.TokenKind.{TokenKind}
use Rattle.message_tokens.specs.declared.TokenKind.TheVariants.{Nothing, Word, String, Equals, Comma, Opening, Closing}

-- the place past the longest row of bytes of the class f from i
abbrev pub row_end : (ℕ → Bool) → List ℕ → ℕ → ℕ
row_end f s i = i + run_of f (drop i s)

-- the cut from the place at of s on, and from a place that is past the blanks
unfoldable pub cut_at : ℕ → List ℕ → ℕ → CutResult
cut_at base s at = cut_from (suc (length s)) (base + at) (drop at s)

unfoldable pub rest_at : ℕ → List ℕ → ℕ → CutResult
rest_at base s p = cut_rest (cut_from (length s)) (base + p) (drop p s)

-- the tokens from there on, with their places and without
abbrev pub lexemes_at : ℕ → List ℕ → ℕ → List Lex
lexemes_at base s at = (cut_at base s at).lexemes

-- the token t stands from a to e, and the cut goes on from e
pub record Step (c : CutResult) (base : ℕ) (s : List ℕ) (lo : ℕ) (t : Token) (a e : ℕ) : Type 0 where
  pub is : c ≡ put_first (lexeme t (base + a) (base + e)) (cut_at base s e)
  pub least : lo ≤ a
  pub less : a < e
  pub within : e ≤ length s

-- a token of a kind stands from a to e, or nothing is left
abbrev pub Stands : CutResult → ℕ → List ℕ → ℕ → TokenKind → ℕ → ℕ → Type 0
Stands c base s lo Nothing a e = (c ≡ clean) × (a ≡ length s)
Stands c base s lo Word a e = Step c base s lo (word (part s a e)) a e
Stands c base s lo String a e = Step c base s lo (string (part s (a + 1) (e - 1))) a e
Stands c base s lo Equals a e = Step c base s lo equals a e
Stands c base s lo Comma a e = Step c base s lo comma a e
Stands c base s lo Opening a e = Step c base s lo opening a e
Stands c base s lo Closing a e = Step c base s lo closing a e

-- what the cursor read from lo on, against the cut there: a token with its start and the cursor past it, or a byte in no token
abbrev pub Reads : CutResult → ℕ → List ℕ → ℕ → Result Head ℕ → Type 0
Reads c base s lo (Ok h) = Stands c base s lo h.kind h.start h.past.at
Reads c base s lo (Err a) = c ≡ bad_at (base + a)
