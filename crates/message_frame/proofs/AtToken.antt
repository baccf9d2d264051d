-- What the decisions at one token need: a refusal there, and the step over a token of each kind.
use mathlib.Core.Path.{◌≡◌, refl, sym, ap, ◌∙◌}
use mathlib.Core.List.{List, [], ◌∷◌}
use Prim.Native.Nat.{ℕ, ◌+◌, ◌-◌}
use native.Mathlib.Omega.{arith}
use lib.ListN.{length}
use Rattle.reading_rules.specs.Token.{Token, word, string, equals, comma, opening, closing}
use Rattle.reading_rules.specs.Schema.{Schema}
use Rattle.reading_rules.specs.Parse.{Result, refused, on_equals, union_at}
use Rattle.message_tokens.specs.Cursor.{part, cut_at, lexemes_at, Step}
use Rattle.message_tokens.specs.Head.{kind_number, token_of, token_kind, HeadAt}
use Rattle.message_tokens.specs.declared.TokenKind.TheVariants.{Word, String, Equals, Comma, Opening, Closing}
use Rattle.message_tokens.specs.declared.Head.{Head}
use Rattle.message_tokens.proofs.Heads.{head_step, head_kind, head_not, step_tokens, step_place}
use Rattle.message_unknown.specs.Along.{here, tokens_at, Stopped}
use Rattle.message_frame.specs.Ends.{Values}
use Rattle.message_frame.specs.AtToken.{unfit_of}

-- refused where the head stands
pub stop_here : {A : Type 0} (o : Result A) (base : ℕ) (s : List ℕ) (i : ℕ) (h : Head) (n : ℕ) → HeadAt base s i h → o ≡ refused n (tokens_at base s i) → Stopped o (lexemes_at base s i) (base + length s) n (base + h.start)
stop_here o base s i h n g e = record { rest = lexemes_at base s i; is = e; along = here; place = g.place }

-- refused at a token
pub stop_at : {A : Type 0} (o : Result A) (base : ℕ) (s : List ℕ) (i : ℕ) (t : Token) (a e n : ℕ) → Step (cut_at base s i) base s i t a e → o ≡ refused n (t ∷ tokens_at base s e) → Stopped o (lexemes_at base s i) (base + length s) n (base + a)
stop_at o base s i t a e n w q = record { rest = lexemes_at base s i; is = q ∙ ap (refused n) (sym (step_tokens base s i t a e w)); along = here; place = step_place base s i t a e w (base + length s) }

union_refused : (S : Schema) (Vs : Values) (u : ℕ) (x : List Token) → (token_kind x ≡ 1 → ⊥) → union_at S Vs u x ≡ refused (unfit_of (token_kind x)) x
unfolding union_at unfit_of token_kind
union_refused S Vs u [] a = refl
union_refused S Vs u (word w ∷ r) a = absurd (a refl)
union_refused S Vs u (string w ∷ r) a = refl
union_refused S Vs u (opening ∷ r) a = refl
union_refused S Vs u (equals ∷ r) a = refl
union_refused S Vs u (comma ∷ r) a = refl
union_refused S Vs u (closing ∷ r) a = refl

pub equals_none : {A : Type 0} (x : List Token) (f : List Token → Result A) → (token_kind x ≡ 3 → ⊥) → on_equals x f ≡ refused 23 x
unfolding on_equals token_kind
equals_none [] f a = refl
equals_none (word w ∷ r) f a = refl
equals_none (string w ∷ r) f a = refl
equals_none (opening ∷ r) f a = refl
equals_none (equals ∷ r) f a = absurd (a refl)
equals_none (comma ∷ r) f a = refl
equals_none (closing ∷ r) f a = refl

-- where the head stands
module _ (base : ℕ) (s : List ℕ) (i : ℕ) (h : Head) (g : HeadAt base s i h) where
  -- refused by its kind
  pub unfit_here : {A : Type 0} (o : Result A) → o ≡ refused (unfit_of (token_kind (tokens_at base s i))) (tokens_at base s i) → (n : ℕ) → n ≡ unfit_of (kind_number h.kind) → Stopped o (lexemes_at base s i) (base + length s) n (base + h.start)
  unfit_here o e n m = stop_here o base s i h n g (e ∙ ap (λ k. refused k (tokens_at base s i)) (ap unfit_of (head_kind base s i h g) ∙ sym m))

  pub union_stopped : (S : Schema) (u n : ℕ) → (h.kind ≡ Word → ⊥) → n ≡ unfit_of (kind_number h.kind) → (Vs : Values) → Stopped (union_at S Vs u (tokens_at base s i)) (lexemes_at base s i) (base + length s) n (base + h.start)
  union_stopped S u n a m Vs = unfit_here (union_at S Vs u (tokens_at base s i)) (union_refused S Vs u (tokens_at base s i) (head_not base s i h g Word a)) n m

  -- the steps of each kind
  pub step_of_word : h.kind ≡ Word → Step (cut_at base s i) base s i (word (part s h.start h.past.at)) h.start h.past.at
  unfolding token_of
  step_of_word e = head_step base s i h g Word e (λ z. omega arith)

  pub step_of_string : h.kind ≡ String → Step (cut_at base s i) base s i (string (part s (h.start + 1) (h.past.at - 1))) h.start h.past.at
  unfolding token_of
  step_of_string e = head_step base s i h g String e (λ z. omega arith)

  pub step_of_equals : h.kind ≡ Equals → Step (cut_at base s i) base s i equals h.start h.past.at
  unfolding token_of
  step_of_equals e = head_step base s i h g Equals e (λ z. omega arith)

  pub step_of_comma : h.kind ≡ Comma → Step (cut_at base s i) base s i comma h.start h.past.at
  unfolding token_of
  step_of_comma e = head_step base s i h g Comma e (λ z. omega arith)

  pub step_of_opening : h.kind ≡ Opening → Step (cut_at base s i) base s i opening h.start h.past.at
  unfolding token_of
  step_of_opening e = head_step base s i h g Opening e (λ z. omega arith)

  pub step_of_closing : h.kind ≡ Closing → Step (cut_at base s i) base s i closing h.start h.past.at
  unfolding token_of
  step_of_closing e = head_step base s i h g Closing e (λ z. omega arith)
