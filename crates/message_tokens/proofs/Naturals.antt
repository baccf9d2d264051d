-- A word of digits without leading zero.
use Rattle.std.proofs.Common.{◌≡◌, ℕ, suc, ◌+◌, ◌-◌, ◌*◌, ◌<◌, ◌≤◌, Bool, true, false, ◌&&◌, ltb, leb, List, [], ◌∷◌, length, get_or, drop, sym, refl, ap, ◌∙◌, subst, add-one, arith, length-drop, length-take-le, get_or-drop, drop-cons, get_or-take, ltb-false, ltb-true, lt-ltb, leb-true}
use lib.ListN.{get_or-eq_default}
use Rattle.classes.specs.Bytes.{is_digit, is_blank, is_word_byte}
use Rattle.classes.specs.Lists.{every, run_of}
use Rattle.classes.proofs.Rows.{run_more, run_stop, run_end, run_take}
use Rattle.numbers.specs.Decimal.{read_digits, number_of, is_natural}
use Rattle.numbers.specs.Packed.{Packed, none, more}
use Rattle.reading_rules.specs.Token.{word, comma}
use Rattle.reading_rules.proofs.CountLaws.{clash_bool, and_both}
use Rattle.table_rules.proofs.Words.{digit_word}
use Rattle.message_rules.proofs.Spelling.{word_not_blank}
use Rattle.message_tokens.specs.Cursor.{part, row_end, Step}
use Rattle.message_tokens.specs.Digits.{Led, DigitsCounted, CountedBefore, DigitsEnd, DigitsAt}
use Rattle.message_tokens.specs.declared.Digits.{Digits}
use Rattle.message_tokens.specs.declared.Digits.TheVariants.{Other, Before, Number}
use Rattle.message_tokens.proofs.CutAt.{byte_in}
use Rattle.message_tokens.proofs.Steps.{step_comma, step_word}
use Rattle.message_tokens.proofs.Plain.{solid}

-- ---- rows of a class

module _ (f : ℕ → Bool) (b : ℕ) (l : List ℕ) where
  run_in_lem : f b ≡ true → run_of f (b ∷ l) ≡ suc (run_of f l)
  unfolding run_of
  run_in_lem e = rw (run_of, e)

  run_out : f b ≡ false → run_of f (b ∷ l) ≡ 0
  unfolding run_of
  run_out e = rw (run_of, e)

-- a row of a class within another one ends where that does, if the byte there is in neither
run_same : (f g : ℕ → Bool) (l : List ℕ) → ((b : ℕ) → f b ≡ true → g b ≡ true) → g (get_or l (run_of f l) 0) ≡ false → run_of g l ≡ run_of f l
run_same f g [] k e = unfold run_of in refl
run_same f g (b ∷ l) k e = go (f b) refl (run_same f g l k) e
  where
    go : (t : Bool) → f b ≡ t → (g (get_or l (run_of f l) 0) ≡ false → run_of g l ≡ run_of f l) → g (get_or (b ∷ l) (run_of f (b ∷ l)) 0) ≡ false → run_of g (b ∷ l) ≡ run_of f (b ∷ l)
    go true z r q = run_in_lem g b l (k b z) ∙ (ap suc (r (rw (run_in_lem f b l z) at q)) ∙ sym (run_in_lem f b l z))
    go false z r q = run_out g b l (rw (run_out f b l z) at q) ∙ sym (run_out f b l z)

-- ---- the digits, one by one

part_cons : (s : List ℕ) (i e : ℕ) → i < length s → i < e → part s i e ≡ get_or s i 0 ∷ part s (i + 1) e
part_cons s i e h l =
    let q : e - i ≡ suc (e - (i + 1)) = omega arith in
    rw (q, drop-cons s i 0 h, add-one i)

part_none : (s : List ℕ) (i : ℕ) → part s i i ≡ []
part_none s i = let q : i - i ≡ 0 = omega arith in rw q

digit_least : (b : ℕ) → is_digit b ≡ true → 48 ≤ b
unfolding is_digit
digit_least b e = and_both (leb 48 b) (leb b 57) e (λ p q. leb-true 48 b p)

-- the number of a digit
digit_most : (b : ℕ) → is_digit b ≡ true → b - 48 < 10
unfolding is_digit
digit_most b e = and_both (leb 48 b) (leb b 57) e (λ p q. omega (arith, leb-true b 57 q))

-- sum packs the digits from at to i
pub record Summed (s : List ℕ) (at i sum : ℕ) : Type 0 where
  pub number : ℕ
  pub packs : Packed number sum
  pub ends : row_end is_digit s i ≡ row_end is_digit s at
  pub sums : read_digits number (part s i (row_end is_digit s at)) ≡ number_of (part s at (row_end is_digit s at))
  pub least : at ≤ i
  pub within : at < i → i ≤ length s

pub summed_start : (s : List ℕ) (at : ℕ) → Summed s at at 0
summed_start s at = record { number = 0; packs = none; ends = refl; sums = refl; least = omega arith; within = λ l. absurd (omega arith) }

pub digit_floor : (b : ℕ) (t : Bool) → t ≡ is_digit b → t ≡ true → 48 ≤ b
digit_floor b t e f = digit_least b (sym e ∙ f)

pub summed_more : (s : List ℕ) (at i sum next : ℕ) → Summed s at i sum → i < length s → is_digit (get_or s i 0) ≡ true → next ≡ sum * 256 + (get_or s i 0 - 48) → Summed s at (i + 1) next
summed_more s at i sum next m h t q =
    let r = run_more is_digit s i h t in
    record {
      number = m.number * 10 + (get_or s i 0 - 48);
      packs = rw q (more (get_or s i 0 - 48) (digit_most (get_or s i 0) t) m.packs);
      ends = sym r ∙ m.ends;
      sums = sym (ap (read_digits m.number) (part_cons s i (row_end is_digit s at) h (omega (arith, m.ends, r))) ∙ unfold read_digits in refl) ∙ m.sums;
      least = omega (arith, m.least);
      within = λ l. omega (arith, h);
    }

-- ---- the word

natural_is : (w : List ℕ) → every is_digit w ≡ true → 0 < length w → (1 < length w → 48 < get_or w 0 0) → is_natural w ≡ true
unfolding is_natural every
natural_is [] e h k = absurd (omega arith)
natural_is (b ∷ []) e h k = first (is_digit b) e
  where
    first : (p : Bool) → p && true ≡ true → p ≡ true
    first true z = refl
    first false z = clash_bool z
natural_is (b ∷ c ∷ l) e h k = rw (lt-ltb 48 b (k (omega arith)), e)

-- the row of digits ends where none stands
digits_stop : (s : List ℕ) (i : ℕ) → is_word_byte (get_or s i 0) ≡ false → row_end is_digit s i ≡ i
digits_stop s i c = go (ltb i (length s)) refl (is_digit (get_or s i 0)) refl
  where
    go : (b : Bool) → ltb i (length s) ≡ b → (d : Bool) → is_digit (get_or s i 0) ≡ d → row_end is_digit s i ≡ i
    go b e true z = clash_bool (sym c ∙ digit_word (get_or s i 0) z)
    go true e false z = run_stop is_digit s i (ltb-true i (length s) e) z
    go false e false z = run_end is_digit s i (ltb-false i (length s) e)

module _ (s : List ℕ) (at i sum : ℕ) (m : Summed s at i sum) (none_here : is_word_byte (get_or s i 0) ≡ false) where
  end_is : row_end is_digit s at ≡ i
  end_is = sym m.ends ∙ digits_stop s i none_here

  digits_all : every is_digit (part s at i) ≡ true
  digits_all = let q : run_of is_digit (drop at s) ≡ i - at = omega (arith, end_is) in rw q at (run_take is_digit (drop at s))

  first_digit : at < i → is_digit (get_or s at 0) ≡ true
  first_digit l = go (is_digit (get_or s at 0)) refl
    where
      go : (b : Bool) → is_digit (get_or s at 0) ≡ b → is_digit (get_or s at 0) ≡ true
      go true z = z
      go false z = absurd (omega (arith, run_stop is_digit s at (omega (arith, m.within l, l)) z, end_is, l))

  word_end : i ≡ row_end is_word_byte s at
  word_end =
      let q : run_of is_digit (drop at s) ≡ i - at = omega (arith, end_is) in
      let p : at + (i - at) ≡ i = omega (arith, m.least) in
      let z : is_word_byte (get_or (drop at s) (run_of is_digit (drop at s)) 0) ≡ false = rw (q, get_or-drop at s (i - at) 0, p) none_here in
      omega (arith, run_same is_digit is_word_byte (drop at s) digit_word z, q, m.least)

  counted : Led s at i → DigitsCounted s at i sum
  counted v =
      let h : at < length s = omega (arith, m.within v.less, v.less) in
      let d : is_word_byte (get_or s at 0) ≡ true = digit_word (get_or s at 0) (first_digit v.less) in
      let n : m.number ≡ number_of (part s at i) = sym (ap (read_digits m.number) (part_none s i) ∙ unfold read_digits in refl) ∙ (rw end_is at m.sums) in
      record {
        within = m.within v.less;
        natural = natural_is (part s at i) digits_all (omega (arith, length_part, v.less)) (λ l. above l);
        packed = rw n at m.packs;
        first = λ base. subst (λ c. Step c base s at (word (part s at i)) at i) (sym (solid base s at h (word_not_blank (get_or s at 0) d))) (step_word base s at h i d word_end);
      }
    where
      length_part : length (part s at i) ≡ i - at
      length_part = length-take-le (i - at) (drop at s) (omega (arith, length-drop at s, m.within v.less))

      above : 1 < length (part s at i) → 48 < get_or (part s at i) 0 0
      above l =
          let q : 0 < i - at = omega (arith, length_part, l) in
          let p : at + 0 ≡ at = omega arith in
          let z : get_or (part s at i) 0 0 ≡ get_or s at 0 = get_or-take (i - at) (drop at s) 0 0 q ∙ (get_or-drop at s 0 0 ∙ ap (λ j. get_or s j 0) p) in
          let k : get_or s at 0 ≡ 48 → ⊥ = v.single (omega (arith, length_part, l)) in
          rw z (omega (arith, k, digit_least (get_or s at 0) (first_digit v.less)))

module _ (s : List ℕ) (at i sum : ℕ) (m : Summed s at i sum) where
  counted_before : get_or s i 0 ≡ 44 → Led s at i → CountedBefore s at i sum
  unfolding is_blank is_word_byte
  counted_before c v =
      let h : i < length s = byte_in s i 44 (omega arith) c in
      record {
        counted = counted s at i sum m (rw c) v;
        second = λ base. subst (λ c. Step c base s i comma i (i + 1)) (sym (solid base s i h (rw c))) (step_comma base s i h c);
      }

  pub digits_counted : (b : ℕ) → b ≡ get_or s i 0 → (r : Digits) → DigitsEnd s at i sum b r → DigitsAt s at r
  digits_counted b g Other d = tt
  digits_counted b g (Before e n) d = rw (d.0, d.1) (counted_before (sym g ∙ d.2) (rw d.0 at d.3))
  digits_counted b g (Number e n) d = rw (d.0, d.1) (counted s at i sum m (ap is_word_byte (sym g) ∙ d.2) (rw d.0 at d.3))

-- past the end
pub none_there : (s : List ℕ) (i : ℕ) → length s ≤ i → 0 ≡ get_or s i 0
none_there s i h = sym (get_or-eq_default s 0 h)
