-- Bytes that number 22 passes over one by one, a word's bytes among them.
use Rattle.std.proofs.Common.{◌≡◌, ℕ, zero, suc, ◌+◌, ◌<◌, ◌≤◌, Bool, true, false, not, ◌&&◌, ◌||◌, eqb, ltb, leb, List, [], ◌∷◌, length, get_or, sym, refl, ap, ◌∙◌, arith, ltb-false, ltb-true, eqb-true, leb-true}
use borrow.Author.Tests.{eqb-false}
use Rattle.classes.proofs.Bools.{or_case}
use Rattle.classes.specs.Bytes.{is_blank, is_word_byte, is_plain}
use Rattle.classes.proofs.Rows.{run_more, run_stop, run_end}
use Rattle.classes.proofs.Segment.{segment}
use Rattle.reading_rules.specs.Token.{Token, word, equals, comma}
use Rattle.reading_rules.proofs.CountLaws.{clash_bool, and_both}
use Rattle.message_rules.specs.Scan.{is_opening, open_after}
use Rattle.message_rules.proofs.Spelling.{word_not_blank}
use Rattle.message_tokens.specs.Cursor.{part, row_end, cut_at, rest_at, Step}
use Rattle.message_tokens.specs.Scanned.{fault_from}
use Rattle.message_tokens.specs.Turn.{Plains, PlainEnd}
use Rattle.message_tokens.proofs.CutAt.{cut_rest_lem}
use Rattle.message_tokens.proofs.Steps.{step_equals, step_comma, step_word, fault_word}

-- where no blank stands, the cut starts there
pub solid : (base : ℕ) (s : List ℕ) (i : ℕ) → i < length s → is_blank (get_or s i 0) ≡ false → cut_at base s i ≡ rest_at base s i
solid base s i h e = cut_rest_lem base s i ∙ ap (rest_at base s) (run_stop is_blank s i h e)

module _ (s : List ℕ) (n : ℕ) where
  passed : (i e : ℕ) (t : Token) → i < length s → is_blank (get_or s i 0) ≡ false → is_opening t ≡ false → open_after n t ≡ n → Step (rest_at 0 s i) 0 s i t i e → fault_from n (cut_at 0 s i) ≡ fault_from n (cut_at 0 s e)
  passed i e t h b o a w =
      ap (fault_from n) (solid 0 s i h b ∙ w.is)
      ∙ (fault_word t (0 + i) (0 + e) n (cut_at 0 s e) o ∙ ap (λ m. fault_from m (cut_at 0 s e)) a)

  word_passed : (i : ℕ) → i < length s → is_word_byte (get_or s i 0) ≡ true → fault_from n (cut_at 0 s i) ≡ fault_from n (cut_at 0 s (row_end is_word_byte s i))
  unfolding is_opening open_after
  word_passed i h t =
      passed i (row_end is_word_byte s i) (word (part s i (row_end is_word_byte s i))) h (word_not_blank (get_or s i 0) t) refl refl (step_word 0 s i h (row_end is_word_byte s i) t refl)

  -- what is left of a word counts for nothing, too
  word_rest : (i : ℕ) → fault_from n (cut_at 0 s i) ≡ fault_from n (cut_at 0 s (row_end is_word_byte s i))
  word_rest i = go (ltb i (length s)) refl
    where
      inside : (b : Bool) → i < length s → is_word_byte (get_or s i 0) ≡ b → fault_from n (cut_at 0 s i) ≡ fault_from n (cut_at 0 s (row_end is_word_byte s i))
      inside true h t = word_passed i h t
      inside false h t = ap (λ j. fault_from n (cut_at 0 s j)) (sym (run_stop is_word_byte s i h t))

      go : (b : Bool) → ltb i (length s) ≡ b → fault_from n (cut_at 0 s i) ≡ fault_from n (cut_at 0 s (row_end is_word_byte s i))
      go true e = inside (is_word_byte (get_or s i 0)) (ltb-true i (length s) e) refl
      go false e = ap (λ j. fault_from n (cut_at 0 s j)) (sym (run_end is_word_byte s i (ltb-false i (length s) e)))

  plain_one : (i : ℕ) → i < length s → is_plain (get_or s i 0) ≡ true → fault_from n (cut_at 0 s i) ≡ fault_from n (cut_at 0 s (i + 1))
  unfolding is_plain is_opening open_after
  plain_one i h p = go (is_blank (get_or s i 0)) refl (is_word_byte (get_or s i 0)) refl (eqb (get_or s i 0) 61) refl (eqb (get_or s i 0) 44) refl p
    where
      go : (a : Bool) → is_blank (get_or s i 0) ≡ a → (b : Bool) → is_word_byte (get_or s i 0) ≡ b → (c : Bool) → eqb (get_or s i 0) 61 ≡ c → (d : Bool) → eqb (get_or s i 0) 44 ≡ d → a || (b || (c || d)) ≡ true → fault_from n (cut_at 0 s i) ≡ fault_from n (cut_at 0 s (i + 1))
      go true x b y c z d w q = ap (fault_from n) (cut_rest_lem 0 s i ∙ (ap (rest_at 0 s) (run_more is_blank s i h x) ∙ sym (cut_rest_lem 0 s (i + 1))))
      go false x true y c z d w q = word_passed i h y ∙ (ap (λ j. fault_from n (cut_at 0 s j)) (run_more is_word_byte s i h y) ∙ sym (word_rest (i + 1)))
      go false x false y true z d w q = passed i (i + 1) equals h x refl refl (step_equals 0 s i h (eqb-true (get_or s i 0) 61 z))
      go false x false y false z true w q = passed i (i + 1) comma h x refl refl (step_comma 0 s i h (eqb-true (get_or s i 0) 44 w))
      go false x false y false z false w q = clash_bool q

pub plain_start : (s : List ℕ) (i : ℕ) → PlainEnd s i i
plain_start s i = record { is = λ n. refl; least = omega arith }

pub plain_more : (s : List ℕ) (i j : ℕ) → PlainEnd s i j → j < length s → is_plain (get_or s j 0) ≡ true → PlainEnd s i (j + 1)
plain_more s i j p h t = record { is = λ n. p.is n ∙ plain_one s n j h t; least = omega (arith, p.least) }

-- ---- several at once

pub common_plain : (b : ℕ) → ((leb 42 b && leb b 122) && not (eqb b 63)) || eqb b 32 ≡ true → is_plain b ≡ true
unfolding is_plain is_blank is_word_byte
common_plain b e = or_case ((leb 42 b && leb b 122) && not (eqb b 63)) (eqb b 32) e mark blank
  where
    no : (t : Bool) → not t ≡ true → t ≡ false
    no true z = clash_bool z
    no false z = refl

    mark : (leb 42 b && leb b 122) && not (eqb b 63) ≡ true → is_plain b ≡ true
    mark e =
        and_both (leb 42 b && leb b 122) (not (eqb b 63)) e (λ r n. and_both (leb 42 b) (leb b 122) r (λ x y.
        sym (segment is_plain (63 ∷ []) {v = true} {b = b} 42 123 (tt, eqb-false b 63 (no (eqb b 63) n)) (leb-true 42 b x) (omega (arith, leb-true b 122 y)) tt)))

    blank : eqb b 32 ≡ true → is_plain b ≡ true
    blank e = ap is_plain (eqb-true b 32 e)

pub plains_none : (s : List ℕ) (i : ℕ) → i ≤ length s → Plains s i 0
plains_none s i h = record { there = omega arith; plain = λ k l u. absurd (omega arith) }

pub plains_more : (s : List ℕ) (i n : ℕ) (x y : Bool) → (x ≡ true → Plains s i n) → i + n < length s → (y ≡ true → is_plain (get_or s (i + n) 0) ≡ true) → x && y ≡ true → Plains s i (n + 1)
plains_more s i n x y f h g e = and_both x y e (λ a b. record { there = omega arith; plain = λ k l u. go k (ltb k (i + n)) refl l u (f a) (g b) })
  where
    go : (k : ℕ) (t : Bool) → ltb k (i + n) ≡ t → i ≤ k → k < i + (n + 1) → Plains s i n → is_plain (get_or s (i + n) 0) ≡ true → is_plain (get_or s k 0) ≡ true
    go k true z l u p q = p.plain k l (ltb-true k (i + n) z)
    go k false z l u p q = let m = ltb-false k (i + n) z in let j : k ≡ i + n = omega arith in rw j q

pub plain_many : (n : ℕ) (s : List ℕ) (i j : ℕ) → PlainEnd s i j → Plains s j n → PlainEnd s i (j + n)
plain_many zero s i j p q = let z : j + 0 ≡ j = omega arith in rw z p
plain_many (suc n) s i j p q =
    let z : j + suc n ≡ j + 1 + n = omega arith in
    rw z (plain_many n s i (j + 1) (plain_more s i j p (omega (arith, q.there)) (q.plain j (omega arith) (omega arith))) (record { there = omega (arith, q.there); plain = λ k l u. q.plain k (omega arith) (omega arith) }))
