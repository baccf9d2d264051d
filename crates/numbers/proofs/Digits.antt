-- Decimal words from a place on.
use Prim.Native.Nat.{ℕ, suc, ◌+◌, ◌-◌, ◌*◌, ◌<◌, ◌≤◌, min}
use mathlib.Core.Bool.{Bool, true, false, ◌&&◌, false≢true}
use mathlib.Core.List.{List, [], ◌∷◌}
use mathlib.Core.Path.{◌≡◌, refl, sym, ◌∙◌, ap}
use native.Mathlib.Numerals.{add-one}
use native.Mathlib.Omega.{arith}
use borrow.Author.Tests.{lt-ltb, le-ltb, le-leb, lt-leb, ne_eqb, leb-true}
use lib.Dec.{eqb, leb, ltb}
use lib.ListN.{length, get_or, drop, drop_of_length-le}
use lib.Seq.{drop-cons}
use Rattle.classes.proofs.Bools.{clash_bool}
use Rattle.classes.specs.Lists.{every}
use Rattle.classes.specs.Bytes.{between, is_digit}
use Rattle.numbers.proofs.Order.{leb_same}
use Rattle.numbers.specs.Limits.{bias, int_most}
use Rattle.numbers.specs.Decimal.{cap, read_digits, number_of, is_digits, is_natural, is_int_like, is_int, int_within, biased_int}

-- numbers that the cap makes one are one with the digits after them
capped_after : (l : List ℕ) (a b : ℕ) → min cap a ≡ min cap b → min cap (read_digits a l) ≡ min cap (read_digits b l)
unfolding read_digits
capped_after [] a b e = e
capped_after (d ∷ l) a b e = capped_after l (a * 10 + (d - 48)) (b * 10 + (d - 48)) (omega arith)

module _ (w : List ℕ) (i : ℕ) where
  pub number_more : (n : ℕ) → i < length w → min cap (read_digits n (drop i w)) ≡ min cap (read_digits (min cap (n * 10 + (get_or w i 0 - 48))) (drop (i + 1) w))
  unfolding read_digits
  number_more n h =
      rw (add-one, drop-cons w i 0)
      (capped_after (drop (suc i) w) (n * 10 + (get_or w i 0 - 48)) (min cap (n * 10 + (get_or w i 0 - 48))) (omega arith))

  pub number_end : (n : ℕ) → length w ≤ i → n ≤ cap → min cap (read_digits n (drop i w)) ≡ n
  unfolding read_digits
  number_end n h l = rw (drop_of_length-le w h) (omega arith)

pub digits_are : (l : List ℕ) → ltb 0 (length l) && every is_digit l ≡ is_digits l
unfolding is_digits
digits_are [] = refl
digits_are (b ∷ l) = rw (lt-ltb 0 (suc (length l)) (omega arith))

pub natural_one : (l : List ℕ) → length l ≡ 1 → is_digit (get_or l 0 0) ≡ is_natural l
unfolding is_natural
natural_one [] e = absurd (omega arith)
natural_one (b ∷ []) e = refl
natural_one (b ∷ c ∷ l) e = absurd (omega arith)

pub natural_more : (l : List ℕ) → (length l ≡ 1 → ⊥) → ltb 48 (get_or l 0 0) && every is_digit l ≡ is_natural l
unfolding is_natural
natural_more [] h = refl
natural_more (b ∷ []) h = absurd (h refl)
natural_more (b ∷ c ∷ l) h = refl

pub natural_led : (l : List ℕ) → (length l ≡ 1 → ⊥) → 48 < get_or l 0 0 → every is_digit l ≡ is_natural l
natural_led l h g = ap (λ b. b && every is_digit l) (sym (lt-ltb 48 (get_or l 0 0) g)) ∙ natural_more l h

pub natural_zero : (l : List ℕ) → (length l ≡ 1 → ⊥) → get_or l 0 0 ≤ 48 → is_natural l ≡ false
natural_zero l h g = sym (natural_more l h) ∙ ap (λ b. b && every is_digit l) (le-ltb 48 (get_or l 0 0) g)

pub and_right : (p q : Bool) → p && q ≡ true → q ≡ true
and_right true q e = e
and_right false q e = absurd (false≢true e)

-- ---- tests that the cap leaves as they are

pub above_zero : (n : ℕ) → ltb 0 (min cap n) ≡ ltb 0 n
above_zero n = leb_same 1 (min cap n) 1 n (λ h. omega arith) (λ h. omega arith)

pub capped_within : (least most n : ℕ) → least ≤ int_most → most ≤ int_most → between least most (bias + min cap n) ≡ between least most (bias + n)
capped_within least most n l m =
    rw (
      leb_same least (bias + min cap n) least (bias + n) (λ h. omega arith) (λ h. omega arith),
      leb_same (bias + min cap n) most (bias + n) most (λ h. omega arith) (λ h. omega arith),
    )

-- ---- a minus in front

pub empty : (w : List ℕ) → length w ≡ 0 → w ≡ []
empty [] h = refl
empty (b ∷ w) h = absurd (omega arith)

minus_first : (w : List ℕ) → get_or w 0 0 ≡ 45 → w ≡ 45 ∷ drop 1 w
minus_first [] h = absurd (omega arith)
minus_first (b ∷ l) h = ap (λ (a : ℕ). a ∷ l) h

no_minus : {A : Type 0} (f g : List ℕ → A) → ((b : ℕ) (l : List ℕ) → eqb b 45 ≡ false → f (b ∷ l) ≡ g (b ∷ l)) → (w : List ℕ) → (length w ≡ 0 → f [] ≡ g []) → (get_or w 0 0 ≡ 45 → ⊥) → f w ≡ g w
no_minus f g p [] e h = e refl
no_minus f g p (b ∷ l) e h = p b l (ne_eqb b 45 h)

module _ (w : List ℕ) (h : get_or w 0 0 ≡ 45) where
  pub like_minus : is_int_like w ≡ is_digits (drop 1 w)
  unfolding is_int_like
  like_minus = ap is_int_like (minus_first w h)

  pub int_minus : (n : ℕ) → n ≡ min cap (number_of (drop 1 w)) → is_int w ≡ is_natural (drop 1 w) && ltb 0 n
  unfolding is_int
  int_minus n e = ap is_int (minus_first w h) ∙ rw (e, above_zero (number_of (drop 1 w)))

  pub biased_minus : biased_int w ≡ bias - number_of (drop 1 w)
  unfolding biased_int
  biased_minus = ap biased_int (minus_first w h)

  module _ (least most n : ℕ) (e : n ≡ min cap (number_of (drop 1 w))) where
    pub within_minus : n ≤ bias → int_within least most w ≡ between least most (bias - n)
    unfolding int_within
    within_minus l =
        let same : number_of (drop 1 w) ≡ n = omega arith in
        ap (int_within least most) (minus_first w h) ∙ rw (same, le-leb n bias l)

    pub within_below : bias < n → int_within least most w ≡ false
    unfolding int_within
    within_below l = ap (int_within least most) (minus_first w h) ∙ rw (lt-leb (number_of (drop 1 w)) bias (omega arith))

module _ (w : List ℕ) (h : get_or w 0 0 ≡ 45 → ⊥) where
  pub like_plain : is_int_like w ≡ is_digits w
  unfolding is_int_like is_digits
  like_plain = no_minus is_int_like is_digits (λ b l e. rw (is_int_like, e)) w (λ z. refl) h

  pub int_plain : is_int w ≡ is_natural w
  unfolding is_int is_natural
  int_plain = no_minus is_int is_natural (λ b l e. rw (is_int, e)) w (λ z. refl) h

  pub biased_plain : (length w ≡ 0 → ⊥) → biased_int w ≡ bias + number_of w
  unfolding biased_int
  biased_plain k = no_minus biased_int (λ v. bias + number_of v) (λ b l e. rw (biased_int, e)) w (λ z. absurd (k z)) h

  pub within_number : (least most : ℕ) → (length w ≡ 0 → ⊥) → int_within least most w ≡ between least most (bias + number_of w)
  unfolding int_within
  within_number least most k = no_minus (int_within least most) (λ v. between least most (bias + number_of v)) (λ b l e. rw (int_within, e)) w (λ z. absurd (k z)) h

  pub within_plain : (least most n : ℕ) → (length w ≡ 0 → ⊥) → n ≡ min cap (number_of w) → least ≤ int_most → most ≤ int_most → int_within least most w ≡ between least most (bias + n)
  within_plain least most n k e l m = within_number least most k ∙ rw e (sym (capped_within least most (number_of w) l m))

-- digits without leading zero begin with no `-`
pub natural_first : (w : List ℕ) → is_natural w ≡ true → (get_or w 0 0 ≡ 45 → ⊥) × (length w ≡ 0 → ⊥)
unfolding is_natural is_digit
natural_first [] e = clash_bool e
natural_first (b ∷ []) e = (λ z. clash_bool (rw z at e), λ z. omega arith)
natural_first (b ∷ c ∷ l) e = (λ z. clash_bool (rw z at e), λ z. omega arith)

-- an int within the limits has its number there
biased_most : (minus p : Bool) (a n : ℕ) → a ≤ int_most → elim minus [ true ↦ p | false ↦ between 0 int_most n ] ≡ true → elim minus [ true ↦ a | false ↦ n ] ≤ int_most
biased_most true p a n h e = h
biased_most false p a n h e = leb-true n int_most (and_right (leb 0 n) (leb n int_most) e)

pub within_most : (w : List ℕ) → int_within 0 int_most w ≡ true → biased_int w ≤ int_most
unfolding int_within biased_int
within_most [] e = omega arith
within_most (b ∷ l) e = biased_most (eqb b 45) _ (bias - number_of l) (bias + number_of (b ∷ l)) (omega arith) e
