-- Each decision at a value and at a brace, said of plain lists.
use mathlib.Core.Path.{◌≡◌, refl, ap, ◌∙◌}
use mathlib.Core.Bool.{true}
use mathlib.Core.List.{List, [], ◌∷◌}
use Prim.Native.Nat.{ℕ, ◌+◌}
use native.Mathlib.Omega.{arith}
use lib.Dec.{eqb}
use lib.ListN.{length}
use borrow.Author.Tests.{ne_eqb, eq-eqb}
use Rattle.reading_rules.specs.Token.{Token, word, string, equals, comma, opening, closing}
use Rattle.reading_rules.specs.Schema.{Schema}
use Rattle.reading_rules.specs.Reading.{body, Tree, leaf, width}
use Rattle.reading_rules.specs.Parse.{Result, refused, got, need, judged, simple_at, none_at, shut, struct_at}
use Rattle.message_rules.specs.Rows.{row_count, lexeme_at, row_over, rows_of}
use Rattle.message_tokens.specs.Cursor.{cut_at, lexemes_at, Step}
use Rattle.message_tokens.specs.Head.{token_kind, kind_number, HeadAt}
use Rattle.message_tokens.specs.declared.TokenKind.TheVariants.{Word, String, Opening, Closing}
use Rattle.message_tokens.specs.declared.Head.{Head}
use Rattle.message_tokens.proofs.Heads.{head_not, step_lex, step_tokens, step_left, step_within}
use Rattle.message_unknown.specs.Along.{tokens_at, Stopped}
use Rattle.message_frame.specs.Ends.{EndedValue, EndsValue, end_of}
use Rattle.message_frame.specs.AtToken.{unfit_of}
use Rattle.message_frame.proofs.AtToken.{stop_here, stop_at, unfit_here}
use Rattle.message_values.specs.Values.{Leaf, Misfit, LeafAt}
use Rattle.message_frame.specs.declared.Frame.{Frame}
use Rattle.message_frame.specs.declared.Done.{Done}
use Rattle.numbers.specs.Rules.{rule_number}
use Rattle.numbers.specs.declared.Refusal.{Refusal}
use Rattle.std.specs.Prelude.{Result as Answer, Ok, Err}

none_refused : (x : List Token) → none_at x ≡ refused (unfit_of (token_kind x)) x
unfolding none_at unfit_of token_kind
none_refused [] = refl
none_refused (word w ∷ r) = refl
none_refused (string w ∷ r) = refl
none_refused (opening ∷ r) = refl
none_refused (equals ∷ r) = refl
none_refused (comma ∷ r) = refl
none_refused (closing ∷ r) = refl

simple_refused : (S : Schema) (u : ℕ) (x : List Token) → (token_kind x ≡ 1 → ⊥) → (token_kind x ≡ 2 → ⊥) → simple_at S u x ≡ refused (unfit_of (token_kind x)) x
unfolding simple_at unfit_of token_kind
simple_refused S u [] a b = refl
simple_refused S u (word w ∷ r) a b = absurd (a refl)
simple_refused S u (string w ∷ r) a b = absurd (b refl)
simple_refused S u (opening ∷ r) a b = refl
simple_refused S u (equals ∷ r) a b = refl
simple_refused S u (comma ∷ r) a b = refl
simple_refused S u (closing ∷ r) a b = refl

struct_refused : (body_of : ℕ → List Token → Result (Tree body)) (u : ℕ) (x : List Token) → (token_kind x ≡ 5 → ⊥) → struct_at body_of u x ≡ refused (unfit_of (token_kind x)) x
unfolding struct_at unfit_of token_kind
struct_refused body_of u [] a = refl
struct_refused body_of u (word w ∷ r) a = refl
struct_refused body_of u (string w ∷ r) a = refl
struct_refused body_of u (opening ∷ r) a = absurd (a refl)
struct_refused body_of u (equals ∷ r) a = refl
struct_refused body_of u (comma ∷ r) a = refl
struct_refused body_of u (closing ∷ r) a = refl

shut_refused : (b : Tree body) (x : List Token) → (token_kind x ≡ 6 → ⊥) → shut b x ≡ refused 23 x
unfolding shut token_kind
shut_refused b [] a = refl
shut_refused b (word w ∷ r) a = refl
shut_refused b (string w ∷ r) a = refl
shut_refused b (opening ∷ r) a = refl
shut_refused b (equals ∷ r) a = refl
shut_refused b (comma ∷ r) a = refl
shut_refused b (closing ∷ r) a = absurd (a refl)

-- a refusal by the kind of the head
module _ (base : ℕ) (s : List ℕ) (i : ℕ) (h : Head) (g : HeadAt base s i h) where
  pub none_stopped : (n : ℕ) → n ≡ unfit_of (kind_number h.kind) → Stopped (none_at (tokens_at base s i)) (lexemes_at base s i) (base + length s) n (base + h.start)
  none_stopped n m = unfit_here base s i h g (none_at (tokens_at base s i)) (none_refused (tokens_at base s i)) n m

  pub simple_stopped : (S : Schema) (u n : ℕ) → (h.kind ≡ Word → ⊥) → (h.kind ≡ String → ⊥) → n ≡ unfit_of (kind_number h.kind) → Stopped (simple_at S u (tokens_at base s i)) (lexemes_at base s i) (base + length s) n (base + h.start)
  simple_stopped S u n a b m = unfit_here base s i h g (simple_at S u (tokens_at base s i)) (simple_refused S u (tokens_at base s i) (head_not base s i h g Word a) (head_not base s i h g String b)) n m

  pub struct_stopped : (n : ℕ) → (h.kind ≡ Opening → ⊥) → n ≡ unfit_of (kind_number h.kind) → (body_of : ℕ → List Token → Result (Tree body)) (u : ℕ) → Stopped (struct_at body_of u (tokens_at base s i)) (lexemes_at base s i) (base + length s) n (base + h.start)
  struct_stopped n a m body_of u = unfit_here base s i h g (struct_at body_of u (tokens_at base s i)) (struct_refused body_of u (tokens_at base s i) (head_not base s i h g Opening a)) n m

  pub shut_stopped : (h.kind ≡ Closing → ⊥) → (b : Tree body) → Stopped (shut b (tokens_at base s i)) (lexemes_at base s i) (base + length s) 23 (base + h.start)
  shut_stopped a b = stop_here (shut b (tokens_at base s i)) base s i h 23 g (shut_refused b (tokens_at base s i) (head_not base s i h g Closing a))

-- a simple value: a token t that the judgement numbers
pub word_judged : (S : Schema) (u : ℕ) (w : List ℕ) (r : List Token) → simple_at S u (word w ∷ r) ≡ judged (S.judge u (word w)) (leaf (word w)) (word w) r
unfolding simple_at
word_judged S u w r = refl

pub string_judged : (S : Schema) (u : ℕ) (w : List ℕ) (r : List Token) → simple_at S u (string w ∷ r) ≡ judged (S.judge u (string w)) (leaf (string w)) (string w) r
unfolding simple_at
string_judged S u w r = refl

module _ (S : Schema) (s : List ℕ) (f : Frame) (u : ℕ) (t : Token) (a e number : ℕ) (before after : List ℕ)
    (w : Step (cut_at f.base s f.at) f.base s f.at t a e)
    (j : (r : List Token) → simple_at S u (t ∷ r) ≡ judged (S.judge u t) (leaf t) t r)
    (m : number ≡ S.judge u t) where
  is_judged : simple_at S u (tokens_at f.base s f.at) ≡ need (eqb number 0) number (t ∷ tokens_at f.base s e) (got (leaf t)) (tokens_at f.base s e)
  unfolding judged
  is_judged = ap (simple_at S u) (step_tokens f.base s f.at t a e w) ∙ (j (tokens_at f.base s e) ∙ rw (← m) refl)

  leaf_done : (at next : ℕ) → Leaf f number a e before after at next → EndedValue (simple_at S u (tokens_at f.base s f.at)) s f before after at next
  unfolding need width row_count rows_of row_over lexeme_at
  leaf_done at next l =
      let x = step_lex f.base s f.at t a e w in
      let z : eqb number 0 ≡ true = eq-eqb number 0 l.fits in
      let b = step_within f.base s f.at t a e w in
      record {
        ended = record {
          read = record {
            tree = leaf t;
            is = is_judged ∙ rw (z, l.same) refl;
            left = rw l.same (step_left f.base s f.at t a e w);
            written = l.written ∙ rw x refl;
            sized = l.sized;
          };
          moved = record { far = omega (arith, b.0, l.same); within = omega (arith, b.1, l.same); counted = omega (arith, b.0, l.same, l.sized) };
        };
        wide = omega arith;
        last = rw (x, l.same) refl;
      }

  leaf_refused : (n q : ℕ) → Misfit f number a n q → Stopped (simple_at S u (tokens_at f.base s f.at)) (lexemes_at f.base s f.at) (end_of s f) n q
  unfolding need
  leaf_refused n q l = rw (l.place, l.same) (stop_at (simple_at S u (tokens_at f.base s f.at)) f.base s f.at t a e number w (is_judged ∙ rw (ne_eqb number 0 l.unfit) refl))

  pub leaf_ends : (r : Answer Done Refusal) → LeafAt f number a e before after r → EndsValue (simple_at S u (tokens_at f.base s f.at)) s f before after r
  leaf_ends (Ok d) l = leaf_done d.past.at d.row l
  leaf_ends (Err x) l = leaf_refused (rule_number x.rule) x.place l
