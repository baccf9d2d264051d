-- What follows a value of a list, said of plain lists.
use mathlib.Core.Path.{◌≡◌, refl, ◌∙◌}
use mathlib.Core.Bool.{true, false}
use mathlib.Core.List.{List, [], ◌∷◌}
use Prim.Native.Nat.{ℕ, ◌+◌, ◌≤◌, ◌<◌}
use lib.ListN.{length}
use borrow.Author.Tests.{le-leb, lt-leb}
use Rattle.reading_rules.specs.Token.{Token, word, string, equals, comma, opening, closing}
use Rattle.reading_rules.specs.Schema.{Schema}
use Rattle.reading_rules.specs.Reading.{value, list, Tree, last}
use Rattle.reading_rules.specs.Parse.{Result, got, need, may_grow, list_ends, after_value}
use Rattle.message_tokens.specs.Cursor.{lexemes_at}
use Rattle.message_tokens.specs.Head.{token_kind, HeadAt, LacksComma}
use Rattle.message_tokens.specs.declared.Head.{Head}
use Rattle.message_tokens.specs.declared.TokenKind.TheVariants.{Comma}
use Rattle.message_tokens.proofs.Heads.{head_not, step_tokens}
use Rattle.message_unknown.specs.Along.{tokens_at, Stopped}
use Rattle.message_lists.specs.Lists.{Grows}
use Rattle.message_frame.proofs.AtToken.{stop_here, stop_at, step_of_comma}

value_ends : (S : Schema) (q c : ℕ) (next : List Token → Result (Tree list)) (v : Tree value) (x : List Token) → (token_kind x ≡ 4 → ⊥) → after_value S q c next v x ≡ list_ends S q c v x
unfolding after_value token_kind
value_ends S q c next v [] a = refl
value_ends S q c next v (word w ∷ r) a = refl
value_ends S q c next v (string w ∷ r) a = refl
value_ends S q c next v (opening ∷ r) a = refl
value_ends S q c next v (equals ∷ r) a = refl
value_ends S q c next v (comma ∷ r) a = absurd (a refl)
value_ends S q c next v (closing ∷ r) a = refl

pub value_bare : (S : Schema) (base : ℕ) (s : List ℕ) (q v c : ℕ) → LacksComma s v → S.lo q ≤ c → (next : List Token → Result (Tree list)) (w : Tree value) → after_value S q c next w (tokens_at base s v) ≡ got (last w) (tokens_at base s v)
unfolding list_ends need
value_bare S base s q v c a b next w = value_ends S q c next w (tokens_at base s v) (a base) ∙ rw (le-leb (S.lo q) c b) refl

module _ (S : Schema) (base : ℕ) (s : List ℕ) (q v c : ℕ) (h : Head) (g : HeadAt base s v h) where
  pub value_last : (h.kind ≡ Comma → ⊥) → S.lo q ≤ c → (next : List Token → Result (Tree list)) (w : Tree value) → after_value S q c next w (tokens_at base s v) ≡ got (last w) (tokens_at base s v)
  unfolding list_ends need
  value_last a b next w = value_ends S q c next w (tokens_at base s v) (head_not base s v h g Comma a) ∙ rw (le-leb (S.lo q) c b) refl

  pub value_short : (h.kind ≡ Comma → ⊥) → c < S.lo q → (next : List Token → Result (Tree list)) (w : Tree value) → Stopped (after_value S q c next w (tokens_at base s v)) (lexemes_at base s v) (base + length s) 25 (base + h.start)
  unfolding list_ends need
  value_short a b next w = stop_here (after_value S q c next w (tokens_at base s v)) base s v h 25 g (value_ends S q c next w (tokens_at base s v) (head_not base s v h g Comma a) ∙ rw (lt-leb (S.lo q) c b) refl)

  pub value_long : h.kind ≡ Comma → may_grow (S.hi q) c ≡ false → (next : List Token → Result (Tree list)) (w : Tree value) → Stopped (after_value S q c next w (tokens_at base s v)) (lexemes_at base s v) (base + length s) 25 (base + h.start)
  unfolding after_value need
  value_long e b next w =
      let k = step_of_comma base s v h g e in
      stop_at (after_value S q c next w (tokens_at base s v)) base s v comma h.start h.past.at 25 k (rw (step_tokens base s v comma h.start h.past.at k, b) refl)

  pub value_grows : h.kind ≡ Comma → may_grow (S.hi q) c ≡ true → Grows S s base q v c h.past.at
  value_grows e b = record { place = h.start; step = step_of_comma base s v h g e; may = b }
