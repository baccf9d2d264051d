-- The cut from a place on, as code that goes along the bytes meets it.
use Rattle.std.proofs.Common.{◌≡◌, ℕ, zero, suc, ◌+◌, ◌-◌, ◌<◌, ◌≤◌, Bool, true, false, eqb, List, [], ◌∷◌, length, get_or, take, drop, sym, refl, ap, ◌∙◌, add-one, arith, length-drop, drop_of_length-le, get_or-drop, drop-cons, drop-drop, eq-eqb, ne_eqb}
use Rattle.classes.specs.Bytes.{is_blank, is_word_byte, is_string_byte, is_quote}
use Rattle.classes.specs.Lists.{run_of}
use Rattle.classes.proofs.Rows.{run_more, run_within}
use Rattle.reading_rules.specs.Token.{Token, word, string}
use Rattle.message_rules.specs.Scan.{lexeme, CutResult, clean, bad_at, put_first, nothing, mark, begins_of, cut_token, cut_rest, cut_from, cut}
use Rattle.message_rules.proofs.CutLaws.{cut_enough}
use Rattle.message_tokens.specs.Cursor.{part, row_end, cut_at, rest_at}
use Rattle.message_rules.proofs.Spelling.{word_begins}

pub row_in : (f : ℕ → Bool) (s : List ℕ) (i e : ℕ) → e ≡ row_end f s i → i ≤ length s → (i ≤ e) × (e ≤ length s)
row_in f s i e q h = (omega (arith, q), omega (arith, q, run_within f (drop i s), length-drop i s))

pub row_least : (f : ℕ → Bool) (s : List ℕ) (i e : ℕ) → e ≡ row_end f s i → i ≤ e
row_least f s i e q = omega (arith, q)

pub row_past : (f : ℕ → Bool) (s : List ℕ) (i e : ℕ) → e ≡ row_end f s i → i < length s → f (get_or s i 0) ≡ true → i < e
row_past f s i e q h t = omega (arith, q, run_more f s i h t, row_least f s (i + 1) (row_end f s (i + 1)) refl)

-- the whole cut
pub cut_start : (s : List ℕ) → cut s ≡ cut_at 0 s 0
unfolding cut_at
cut_start s = cut_enough (length s) (suc (length s)) 0 s (omega arith) (omega arith)

pub cut_rest_lem : (base : ℕ) (s : List ℕ) (at : ℕ) → cut_at base s at ≡ rest_at base s (row_end is_blank s at)
unfolding cut_at rest_at cut_from
cut_rest_lem base s at =
    let a : base + at + run_of is_blank (drop at s) ≡ base + (at + run_of is_blank (drop at s)) = omega arith in
    rw (a) (ap (cut_rest (cut_from (length s)) (base + (at + run_of is_blank (drop at s)))) (drop-drop (run_of is_blank (drop at s)) at s))

onward : (base : ℕ) (s : List ℕ) (p : ℕ) → cut_from (length s) (base + p) (drop p s) ≡ cut_at base s p
unfolding cut_at
onward base s p = cut_enough (length s) (suc (length s)) (base + p) (drop p s) (omega (arith, length-drop p s)) (omega (arith, length-drop p s))

-- the part of s from a on, which starts at base + a, has the same cut
pub cut_part : (base : ℕ) (s : List ℕ) (a j : ℕ) → cut_at (base + a) (drop a s) j ≡ cut_at base s (a + j)
unfolding cut_at
cut_part base s a j =
    let e : base + a + j ≡ base + (a + j) = omega arith in
    rw (e, drop-drop j a s) (cut_enough (suc (length (drop a s))) (suc (length s)) (base + (a + j)) (drop (a + j) s) (omega (arith, length-drop a s, length-drop (a + j) s)) (omega (arith, length-drop (a + j) s)))

-- one token, over the bytes in front
word_cut : (next : ℕ → List ℕ → CutResult) (p b : ℕ) (l bytes : List ℕ) → bytes ≡ b ∷ l → is_word_byte b ≡ true → cut_rest next p bytes ≡ put_first (lexeme (word (take (run_of is_word_byte bytes) bytes)) p (p + run_of is_word_byte bytes)) (next (p + run_of is_word_byte bytes) (drop (run_of is_word_byte bytes) bytes))
unfolding cut_rest cut_token begins_of
word_cut next p b l bytes e t = rw e (ap (cut_token next p b l) (word_begins b t))

string_cut : (next : ℕ → List ℕ → CutResult) (p : ℕ) (l bytes : List ℕ) → bytes ≡ 34 ∷ l → is_quote (get_or l (run_of is_string_byte l) 0) ≡ true → cut_rest next p bytes ≡ put_first (lexeme (string (take (run_of is_string_byte l) l)) p (p + run_of is_string_byte l + 2)) (next (p + run_of is_string_byte l + 2) (drop (suc (run_of is_string_byte l)) l))
unfolding cut_rest cut_token begins_of is_word_byte
string_cut next p l bytes e t = rw (e, t, cut_token) refl

open_cut : (next : ℕ → List ℕ → CutResult) (p : ℕ) (l bytes : List ℕ) → bytes ≡ 34 ∷ l → is_quote (get_or l (run_of is_string_byte l) 0) ≡ false → cut_rest next p bytes ≡ bad_at p
unfolding cut_rest cut_token begins_of is_word_byte
open_cut next p l bytes e t = rw (e, t, cut_token) refl

bad_cut : (next : ℕ → List ℕ → CutResult) (p b : ℕ) (l bytes : List ℕ) → bytes ≡ b ∷ l → is_word_byte b ≡ false → eqb b 34 ≡ false → eqb b 61 ≡ false → eqb b 44 ≡ false → eqb b 123 ≡ false → eqb b 125 ≡ false → cut_rest next p bytes ≡ bad_at p
unfolding cut_rest cut_token begins_of
bad_cut next p b l bytes e w a c d f g = rw e (ap (cut_token next p b l) (none_begins b w a c d f g))
  where
    none_begins : (b : ℕ) → is_word_byte b ≡ false → eqb b 34 ≡ false → eqb b 61 ≡ false → eqb b 44 ≡ false → eqb b 123 ≡ false → eqb b 125 ≡ false → begins_of b ≡ nothing
    none_begins b w a c d f g = rw (w, a, c, d, f, g, begins_of) refl

mark_cut : (next : ℕ → List ℕ → CutResult) (p b : ℕ) (l bytes : List ℕ) (t : Token) → bytes ≡ b ∷ l → begins_of b ≡ mark t → cut_rest next p bytes ≡ put_first (lexeme t p (p + 1)) (next (p + 1) l)
unfolding cut_rest cut_token
mark_cut next p b l bytes t e m = rw e (ap (cut_token next p b l) m)

module _ (base : ℕ) (s : List ℕ) (p : ℕ) where
  pub rest_end : length s ≤ p → rest_at base s p ≡ clean
  unfolding rest_at cut_rest
  rest_end h = rw (drop_of_length-le s h) refl

  pub rest_word : (e : ℕ) → p < length s → is_word_byte (get_or s p 0) ≡ true → e ≡ row_end is_word_byte s p → rest_at base s p ≡ put_first (lexeme (word (part s p e)) (base + p) (base + e)) (cut_at base s e)
  unfolding rest_at
  rest_word e h t q =
      let n : e - p ≡ run_of is_word_byte (drop p s) = omega (arith, q) in
      let d : drop (run_of is_word_byte (drop p s)) (drop p s) ≡ drop (p + run_of is_word_byte (drop p s)) s = drop-drop (run_of is_word_byte (drop p s)) p s in
      let b : base + p + run_of is_word_byte (drop p s) ≡ base + (p + run_of is_word_byte (drop p s)) = omega arith in
      word_cut (cut_from (length s)) (base + p) (get_or s p 0) (drop (suc p) s) (drop p s) (drop-cons s p 0 h) t
      ∙ rw (n, q, d, b) (ap (put_first (lexeme (word (take (run_of is_word_byte (drop p s)) (drop p s))) (base + p) (base + (p + run_of is_word_byte (drop p s))))) (onward base s (p + run_of is_word_byte (drop p s))))

  pub rest_mark : (b : ℕ) (t : Token) → p < length s → get_or s p 0 ≡ b → begins_of b ≡ mark t → rest_at base s p ≡ put_first (lexeme t (base + p) (base + (p + 1))) (cut_at base s (p + 1))
  unfolding rest_at
  rest_mark b t h e m =
      let a : base + p + 1 ≡ base + (p + 1) = omega arith in
      let n : suc p ≡ p + 1 = omega arith in
      mark_cut (cut_from (length s)) (base + p) b (drop (suc p) s) (drop p s) t (drop-cons s p 0 h ∙ ap (λ k. k ∷ drop (suc p) s) e) m
      ∙ rw (a, n) (ap (put_first (lexeme t (base + p) (base + (p + 1)))) (onward base s (p + 1)))

  pub rest_string : (to : ℕ) → p < length s → get_or s p 0 ≡ 34 → to ≡ row_end is_string_byte s (p + 1) → get_or s to 0 ≡ 34 → rest_at base s p ≡ put_first (lexeme (string (part s (p + 1) (to + 1 - 1))) (base + p) (base + (to + 1))) (cut_at base s (to + 1))
  unfolding rest_at
  rest_string to h b q z =
      let n = run_of is_string_byte (drop (suc p) s) in
      let q' : to ≡ suc p + n = q ∙ rw add-one refl in
      let g : get_or (drop (suc p) s) n 0 ≡ 34 = get_or-drop (suc p) s n 0 ∙ (ap (λ k. get_or s k 0) (sym q') ∙ z) in
      let k : to + 1 - 1 - (p + 1) ≡ n = omega (arith, q') in
      let e : base + p + n + 2 ≡ base + (to + 1) = omega (arith, q') in
      let m : suc p + suc n ≡ to + 1 = omega (arith, q') in
      let a1 : p + 1 ≡ suc p = omega arith in
      string_cut (cut_from (length s)) (base + p) (drop (suc p) s) (drop p s) (drop-cons s p 0 h ∙ ap (λ k. k ∷ drop (suc p) s) b) (eq-eqb (get_or (drop (suc p) s) n 0) 34 g)
      ∙ rw (k, e, drop-drop (suc n) (suc p) s, m, a1) (ap (put_first (lexeme (string (take n (drop (suc p) s))) (base + p) (base + (to + 1)))) (onward base s (to + 1)))

  -- no closing quote, whether the bytes end or another byte stands there
  pub rest_open : (to : ℕ) → p < length s → get_or s p 0 ≡ 34 → to ≡ row_end is_string_byte s (p + 1) → (get_or s to 0 ≡ 34 → ⊥) → rest_at base s p ≡ bad_at (base + p)
  unfolding rest_at
  rest_open to h b q z =
      let n = run_of is_string_byte (drop (suc p) s) in
      let q' : to ≡ suc p + n = q ∙ rw add-one refl in
      open_cut (cut_from (length s)) (base + p) (drop (suc p) s) (drop p s) (drop-cons s p 0 h ∙ ap (λ k. k ∷ drop (suc p) s) b) (ne_eqb (get_or (drop (suc p) s) n 0) 34 (λ g. z (ap (λ k. get_or s k 0) q' ∙ (sym (get_or-drop (suc p) s n 0) ∙ g))))

  pub rest_bad : p < length s → is_word_byte (get_or s p 0) ≡ false → (get_or s p 0 ≡ 34 → ⊥) → (get_or s p 0 ≡ 61 → ⊥) → (get_or s p 0 ≡ 44 → ⊥) → (get_or s p 0 ≡ 123 → ⊥) → (get_or s p 0 ≡ 125 → ⊥) → rest_at base s p ≡ bad_at (base + p)
  unfolding rest_at
  rest_bad h w a c d f g =
      bad_cut (cut_from (length s)) (base + p) (get_or s p 0) (drop (suc p) s) (drop p s) (drop-cons s p 0 h) w (ne_eqb _ _ a) (ne_eqb _ _ c) (ne_eqb _ _ d) (ne_eqb _ _ f) (ne_eqb _ _ g)

pub byte_in : (s : List ℕ) (i b : ℕ) → 0 < b → get_or s i 0 ≡ b → i < length s
byte_in [] i b h e = absurd (omega (arith, e, h))
byte_in (x ∷ s) zero b h e = omega arith
byte_in (x ∷ s) (suc i) b h e = omega (arith, byte_in s i b h e)
