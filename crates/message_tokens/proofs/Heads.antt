-- The head of the tokens, and what its kind says of them.
use Rattle.std.proofs.Common.{◌≡◌, ℕ, zero, suc, ◌+◌, ◌<◌, ◌≤◌, Bool, true, false, not, eqb, ltb, List, [], ◌∷◌, length, Result, Ok, Err, get_or, take, drop, sym, refl, ap, ◌∙◌, arith, drop-cons, ne_eqb, eq-eqb, ltb-true, ltb-false}
use Rattle.std.specs.Result.{result_unwrap_or}
use Rattle.classes.specs.Bytes.{is_blank, is_word_byte, is_string_byte, is_quote}
use Rattle.classes.specs.Lists.{run_of}
use Rattle.reading_rules.specs.Token.{Token, word, string, equals, comma, opening, closing}
use Rattle.reading_rules.proofs.CountLaws.{clash_bool}
use Rattle.message_rules.specs.Scan.{lexeme, CutResult, bad_at, put_first, tokens_of, Begins, plain, quoted, mark, nothing, begins_of, cut_token, cut_rest, cut_from}
use Rattle.message_rules.specs.Verdict.{start_or}
use Rattle.message_tokens.specs.Cursor.{row_end, cut_at, rest_at, lexemes_at, Step, Stands, Reads}
use Rattle.message_tokens.specs.Head.{kind_number, token_of, token_kind, HeadAt, mark_head, LacksComma}
use Rattle.message_tokens.specs.declared.Cursor.{Cursor}
use Rattle.message_tokens.specs.declared.Head.{Head}
use Rattle.message_tokens.specs.declared.TokenKind.{TokenKind}
use Rattle.message_tokens.specs.declared.TokenKind.TheVariants.{Nothing, Word, String, Equals, Comma, Opening, Closing}
use Rattle.message_tokens.proofs.CutAt.{cut_rest_lem, rest_end}
use Rattle.message_tokens.proofs.Steps.{step_equals, step_comma, step_opening, step_closing}
use Rattle.message_tokens.proofs.Plain.{solid}

-- the tokens at a step
module _ (base : ℕ) (s : List ℕ) (i : ℕ) (t : Token) (a e : ℕ) (h : Step (cut_at base s i) base s i t a e) where
  pub step_lex : lexemes_at base s i ≡ lexeme t (base + a) (base + e) ∷ lexemes_at base s e
  step_lex = ap (λ (c : CutResult). c.lexemes) h.is

  pub step_tokens : tokens_of (lexemes_at base s i) ≡ t ∷ tokens_of (lexemes_at base s e)
  unfolding tokens_of
  step_tokens = ap tokens_of step_lex

  pub step_place : (n : ℕ) → base + a ≡ start_or n (lexemes_at base s i)
  unfolding start_or
  step_place n = rw step_lex refl

  pub step_left : lexemes_at base s e ≡ drop 1 (lexemes_at base s i)
  step_left = rw step_lex refl

  pub step_within : (i < e) × (e ≤ length s)
  step_within = (omega (arith, h.least, h.less), h.within)

kind_few : (k : TokenKind) → kind_number k ≤ 6
kind_few Nothing = omega arith
kind_few Word = omega arith
kind_few String = omega arith
kind_few Equals = omega arith
kind_few Comma = omega arith
kind_few Opening = omega arith
kind_few Closing = omega arith

-- what stands, as a head
module _ (base : ℕ) (s : List ℕ) (i : ℕ) where
  head_some : (k : TokenKind) (a : ℕ) (u : Cursor) → (kind_number k ≡ 0 → ⊥) → Step (cut_at base s i) base s i (token_of (kind_number k) s a u.at) a u.at → HeadAt base s i (record { kind = k; start = a; past = u })
  head_some k a u n w = record { few = kind_few k; none = λ z. absurd (n z); some = λ _. w; within = omega (arith, w.less, w.within); place = step_place base s i (token_of (kind_number k) s a u.at) a u.at w (base + length s) }

  head_none : (a : ℕ) (u : Cursor) → lexemes_at base s i ≡ [] → a ≡ length s → HeadAt base s i (record { kind = Nothing; start = a; past = u })
  unfolding start_or
  head_none a u e q = record { few = omega arith; none = λ z. e; some = λ n. absurd (n refl); within = omega (arith, q); place = rw (e, q) refl }

  head_read : (h : Head) → Stands (cut_at base s i) base s i h.kind h.start h.past.at → HeadAt base s i h
  unfolding token_of
  head_read h w = go h.kind h.start h.past w
    where
      go : (k : TokenKind) (a : ℕ) (u : Cursor) → Stands (cut_at base s i) base s i k a u.at → HeadAt base s i (record { kind = k; start = a; past = u })
      go Nothing a u w = head_none a u (ap (λ (c : CutResult). c.lexemes) w.0) w.1
      go Word a u w = head_some Word a u (λ z. omega arith) w
      go String a u w = head_some String a u (λ z. omega arith) w
      go Equals a u w = head_some Equals a u (λ z. omega arith) w
      go Comma a u w = head_some Comma a u (λ z. omega arith) w
      go Opening a u w = head_some Opening a u (λ z. omega arith) w
      go Closing a u w = head_some Closing a u (λ z. omega arith) w

  -- the head, nothing where no token stands
  pub head_or : (r : Result Head ℕ) (u : Cursor) → Reads (cut_at base s i) base s i r → HeadAt base s i (result_unwrap_or r (record { kind = Nothing; start = length s; past = u }))
  head_or (Ok h) u w = head_read h w
  head_or (Err a) u w = head_none (length s) u (ap (λ (c : CutResult). c.lexemes) w) refl

-- a mark that stands at i
module _ (base : ℕ) (s : List ℕ) (i : ℕ) (h : i < length s) where
  here : (t : Token) (b : ℕ) → get_or s i 0 ≡ b → is_blank b ≡ false → Step (rest_at base s i) base s i t i (i + 1) → Step (cut_at base s i) base s i t i (i + 1)
  here t b e z w = rw (solid base s i h (ap is_blank e ∙ z)) w

  pub here_opening : get_or s i 0 ≡ 123 → Step (cut_at base s i) base s i opening i (i + 1)
  unfolding is_blank
  here_opening e = here opening 123 e refl (step_opening base s i h e)

  pub here_closing : get_or s i 0 ≡ 125 → Step (cut_at base s i) base s i closing i (i + 1)
  unfolding is_blank
  here_closing e = here closing 125 e refl (step_closing base s i h e)

  mark_at : (k : TokenKind) (b : ℕ) → (kind_number k ≡ 0 → ⊥) → get_or s i 0 ≡ b → is_blank b ≡ false → Step (rest_at base s i) base s i (token_of (kind_number k) s i (i + 1)) i (i + 1) → HeadAt base s i (mark_head k i)
  mark_at k b n e z w = head_some base s i k i (record { at = i + 1 }) n (here (token_of (kind_number k) s i (i + 1)) b e z w)

  pub mark_equals : get_or s i 0 ≡ 61 → HeadAt base s i (mark_head Equals i)
  unfolding token_of is_blank
  mark_equals e = mark_at Equals 61 (λ z. omega arith) e refl (step_equals base s i h e)

  pub mark_comma : get_or s i 0 ≡ 44 → HeadAt base s i (mark_head Comma i)
  unfolding token_of is_blank
  mark_comma e = mark_at Comma 44 (λ z. omega arith) e refl (step_comma base s i h e)

  pub mark_opening : get_or s i 0 ≡ 123 → HeadAt base s i (mark_head Opening i)
  unfolding token_of is_blank
  mark_opening e = mark_at Opening 123 (λ z. omega arith) e refl (step_opening base s i h e)

  pub mark_closing : get_or s i 0 ≡ 125 → HeadAt base s i (mark_head Closing i)
  unfolding token_of is_blank
  mark_closing e = mark_at Closing 125 (λ z. omega arith) e refl (step_closing base s i h e)

-- the token of each kind
kind_token : (k : ℕ) (s : List ℕ) (a e : ℕ) (r : List Token) → k ≤ 6 → (k ≡ 0 → ⊥) → token_kind (token_of k s a e ∷ r) ≡ k
unfolding token_kind token_of
kind_token zero s a e r f n = absurd (n refl)
kind_token (suc zero) s a e r f n = refl
kind_token (suc (suc zero)) s a e r f n = refl
kind_token (suc (suc (suc zero))) s a e r f n = refl
kind_token (suc (suc (suc (suc zero)))) s a e r f n = refl
kind_token (suc (suc (suc (suc (suc zero))))) s a e r f n = refl
kind_token (suc (suc (suc (suc (suc (suc zero)))))) s a e r f n = refl
kind_token (suc (suc (suc (suc (suc (suc (suc k))))))) s a e r f n = absurd (omega arith)

-- the kind of a number
abbrev kind_of : ℕ → TokenKind
kind_of zero = Nothing
kind_of (suc zero) = Word
kind_of (suc (suc zero)) = String
kind_of (suc (suc (suc zero))) = Equals
kind_of (suc (suc (suc (suc zero)))) = Comma
kind_of (suc (suc (suc (suc (suc zero))))) = Opening
kind_of (suc (suc (suc (suc (suc (suc n)))))) = Closing

kind_back : (k : TokenKind) → kind_of (kind_number k) ≡ k
kind_back Nothing = refl
kind_back Word = refl
kind_back String = refl
kind_back Equals = refl
kind_back Comma = refl
kind_back Opening = refl
kind_back Closing = refl

same_kind : (k j : TokenKind) → kind_number k ≡ kind_number j → k ≡ j
same_kind k j e = sym (kind_back k) ∙ (ap kind_of e ∙ kind_back j)

-- what a head says
module _ (base : ℕ) (s : List ℕ) (i : ℕ) (h : Head) (g : HeadAt base s i h) where
  pub head_step : (k : TokenKind) → h.kind ≡ k → (kind_number k ≡ 0 → ⊥) → Step (cut_at base s i) base s i (token_of (kind_number k) s h.start h.past.at) h.start h.past.at
  head_step k e n = rw (← e) (g.some (λ z. n (ap kind_number (sym e) ∙ z)))

  pub head_kind : token_kind (tokens_of (lexemes_at base s i)) ≡ kind_number h.kind
  unfolding token_kind tokens_of
  head_kind = go h.kind refl
    where
      there : (k : TokenKind) → h.kind ≡ k → (kind_number k ≡ 0 → ⊥) → token_kind (tokens_of (lexemes_at base s i)) ≡ kind_number h.kind
      there k e n = rw (step_tokens base s i _ _ _ (head_step k e n), e) (kind_token (kind_number k) s h.start h.past.at (tokens_of (lexemes_at base s h.past.at)) (kind_few k) n)

      go : (k : TokenKind) → h.kind ≡ k → token_kind (tokens_of (lexemes_at base s i)) ≡ kind_number h.kind
      go Nothing e = rw (g.none (ap kind_number e), e) refl
      go Word e = there Word e (λ z. omega arith)
      go String e = there String e (λ z. omega arith)
      go Equals e = there Equals e (λ z. omega arith)
      go Comma e = there Comma e (λ z. omega arith)
      go Opening e = there Opening e (λ z. omega arith)
      go Closing e = there Closing e (λ z. omega arith)

  pub head_not : (k : TokenKind) → (h.kind ≡ k → ⊥) → token_kind (tokens_of (lexemes_at base s i)) ≡ kind_number k → ⊥
  head_not k n e = n (same_kind h.kind k (sym head_kind ∙ e))

-- ---- no comma
begins_comma : (b : ℕ) → (b ≡ 44 → ⊥) → begins_of b ≡ mark comma → ⊥
unfolding begins_of
begins_comma b n = go (is_word_byte b) (is_quote b) (eqb b 61) (eqb b 44) (eqb b 123) (eqb b 125) (ne_eqb b 44 n)
  where
    go : (p q x y z w : Bool) → y ≡ false → elim p [ true ↦ plain | false ↦ elim q [ true ↦ quoted | false ↦ elim x [ true ↦ mark equals | false ↦ elim y [ true ↦ mark comma | false ↦ elim z [ true ↦ mark opening | false ↦ elim w [ true ↦ mark closing | false ↦ nothing ] ] ] ] ] ] ≡ mark comma → ⊥
    go true q x y z w k e = let c : ◌≡◌ {A = ℕ} 0 1 = cc in absurd (omega arith)
    go false true x y z w k e = let c : ◌≡◌ {A = ℕ} 0 1 = cc in absurd (omega arith)
    go false false true y z w k e = let c : ◌≡◌ {A = ℕ} 0 1 = cc in absurd (omega arith)
    go false false false true z w k e = clash_bool (sym k)
    go false false false false true w k e = let c : ◌≡◌ {A = ℕ} 0 1 = cc in absurd (omega arith)
    go false false false false false true k e = let c : ◌≡◌ {A = ℕ} 0 1 = cc in absurd (omega arith)
    go false false false false false false k e = let c : ◌≡◌ {A = ℕ} 0 1 = cc in absurd (omega arith)

mark_kind : (t : Token) (r : List Token) → (t ≡ comma → ⊥) → token_kind (t ∷ r) ≡ 4 → ⊥
unfolding token_kind
mark_kind (word w) r n e = omega arith
mark_kind (string w) r n e = omega arith
mark_kind equals r n e = omega arith
mark_kind comma r n e = n refl
mark_kind opening r n e = omega arith
mark_kind closing r n e = omega arith

token_kind_lem : (next : ℕ → List ℕ → CutResult) (at b : ℕ) (l : List ℕ) (g : Begins) → (g ≡ mark comma → ⊥) → token_kind (tokens_of (cut_token next at b l g).lexemes) ≡ 4 → ⊥
unfolding cut_token tokens_of token_kind
token_kind_lem next at b l plain n e = omega arith
token_kind_lem next at b l quoted n e = go (is_quote (get_or l (run_of is_string_byte l) 0)) e
  where
    go : (t : Bool) → token_kind (tokens_of (elim t as (λ _. CutResult) [ true ↦ put_first (lexeme (string (take (run_of is_string_byte l) l)) at (at + run_of is_string_byte l + 2)) (next (at + run_of is_string_byte l + 2) (drop (suc (run_of is_string_byte l)) l)) | false ↦ bad_at at ]).lexemes) ≡ 4 → ⊥
    go true z = omega arith
    go false z = omega arith
token_kind_lem next at b l (mark t) n e = mark_kind t (tokens_of (next (at + 1) l).lexemes) (λ z. n (ap mark z)) e
token_kind_lem next at b l nothing n e = omega arith

-- the kind of the first token of a cut
abbrev kind_in : CutResult → ℕ
kind_in c = token_kind (tokens_of c.lexemes)

module _ (s : List ℕ) (lo p : ℕ) (q : p ≡ row_end is_blank s lo) where
  from_there : (base : ℕ) → cut_at base s lo ≡ rest_at base s p
  from_there base = cut_rest_lem base s lo ∙ ap (rest_at base s) (sym q)

  pub lacks_end : length s ≤ p → LacksComma s lo
  unfolding token_kind tokens_of
  lacks_end h base e = let y : ◌≡◌ {A = ℕ} 0 4 = sym (ap kind_in (from_there base ∙ rest_end base s p h)) ∙ e in omega arith

  token_there : (base : ℕ) → p < length s → rest_at base s p ≡ cut_token (cut_from (length s)) (base + p) (get_or s p 0) (drop (suc p) s) (begins_of (get_or s p 0))
  unfolding rest_at cut_rest
  token_there base h = ap (cut_rest (cut_from (length s)) (base + p)) (drop-cons s p 0 h)

  pub lacks_there : p < length s → (get_or s p 0 ≡ 44 → ⊥) → LacksComma s lo
  lacks_there h n base e =
      token_kind_lem (cut_from (length s)) (base + p) (get_or s p 0) (drop (suc p) s) (begins_of (get_or s p 0)) (begins_comma (get_or s p 0) n) (sym (ap kind_in (from_there base ∙ token_there base h)) ∙ e)

  -- the byte there is no comma, or there is none
  pub lacks_byte : (x : ℕ) → x ≡ get_or s p 0 → not (eqb x 44) ≡ true → LacksComma s lo
  lacks_byte x g t = go (ltb p (length s)) refl
    where
      other : get_or s p 0 ≡ 44 → ⊥
      other z = clash_bool (sym (ap not (eq-eqb x 44 (g ∙ z))) ∙ t)

      go : (b : Bool) → ltb p (length s) ≡ b → LacksComma s lo
      go true e = lacks_there (ltb-true p (length s) e) other
      go false e = lacks_end (ltb-false p (length s) e)
