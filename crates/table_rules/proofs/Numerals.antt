-- Numbers written in decimal, and read back.
use mathlib.Core.Path.{◌≡◌, refl, ap, ◌∙◌}
use mathlib.Core.Bool.{Bool, true, false}
use mathlib.Core.List.{List, [], ◌∷◌, ◌++◌}
use Prim.Native.Nat.{ℕ, zero, suc, ◌+◌, ◌-◌, ◌/◌, ◌%◌, ◌≤◌, ◌<◌}
use native.Mathlib.Nat.{div-add-mod', mod-lt, div-lt_self, le-div_iff_mul-le}
use native.Mathlib.Omega.{arith}
use lib.Dec.{eqb, leb, ltb}
use borrow.Author.Tests.{ne_eqb, le-leb, leb-true, ltb-false, ltb-true, lt-ltb}
use Rattle.classes.specs.Lists.{pick, every, All}
use Rattle.classes.specs.Bytes.{between, is_digit}
use Rattle.numbers.specs.Limits.{bias, int_most, count_limit}
use Rattle.numbers.specs.Decimal.{read_digits, number_of, is_natural, is_int, int_within, biased_int}
use Rattle.numbers.specs.Range.{number_when, read_count, read_int, before_sides, second_dot, cut_range, number, sides}
use Rattle.reading_rules.proofs.CountLaws.{clash_bool, and_both}

-- ---- written

unfoldable pub write_digits : ℕ → ℕ → List ℕ → List ℕ
write_digits zero n r = (48 + n) ∷ r
write_digits (suc f) n r = pick (ltb n 10) ((48 + n) ∷ r) (write_digits f (n / 10) ((48 + n % 10) ∷ r))

unfoldable pub write_nat : ℕ → List ℕ
write_nat n = write_digits n n []

-- an int counted from the least
unfoldable pub write_int : ℕ → List ℕ
write_int z = pick (ltb z bias) (45 ∷ write_nat (bias - z)) (write_nat (z - bias))

-- ---- digits

-- by the two ways that write_digits goes on
by_ten : (P : List ℕ → Type 0) (f n : ℕ) (r : List ℕ) → n ≤ suc f → (n < 10 → P ((48 + n) ∷ r)) → (10 ≤ n → n / 10 ≤ f → P (write_digits f (n / 10) ((48 + n % 10) ∷ r))) → P (write_digits (suc f) n r)
unfolding write_digits
by_ten P f n r h one more = by (ltb n 10) refl
  where
    by : (b : Bool) → ltb n 10 ≡ b → P (pick b ((48 + n) ∷ r) (write_digits f (n / 10) ((48 + n % 10) ∷ r)))
    by true e = unfold pick in one (ltb-true n 10 e)
    by false e = unfold pick in (let l = ltb-false n 10 e in more l (omega (arith, div-lt_self {n = n} {k = 10} (omega arith) (omega arith))))

digits_read : (f n : ℕ) (r : List ℕ) → n ≤ f → read_digits 0 (write_digits f n r) ≡ read_digits n r
unfolding write_digits read_digits
digits_read zero n r h = ap (λ x. read_digits x r) (omega arith)
digits_read (suc f) n r h = by_ten (λ l. read_digits 0 l ≡ read_digits n r) f n r h
    (λ l. ap (λ x. read_digits x r) (omega arith))
    (λ l m. digits_read f (n / 10) ((48 + n % 10) ∷ r) m ∙ ap (λ x. read_digits x r) (omega (arith, div-add-mod' n 10)))

pub digit_of : (d : ℕ) → d < 10 → is_digit (48 + d) ≡ true
unfolding is_digit
digit_of d h = rw (le-leb 48 (48 + d) (omega arith)) (le-leb (48 + d) 57 (omega arith))

-- no zero leads
Fit : ℕ → List ℕ → Type 0
Fit n [] = Unit {0}
Fit n (c ∷ l) = 1 ≤ n

front : (n : ℕ) (l : List ℕ) → n < 10 → every is_digit l ≡ true → Fit n l → is_natural ((48 + n) ∷ l) ≡ true
unfolding is_natural every Fit
front n [] h e f = digit_of n h
front n (c ∷ l) h e f = rw (lt-ltb 48 (48 + n) (omega arith), digit_of n h) e

digits_natural : (f n : ℕ) (r : List ℕ) → n ≤ f → every is_digit r ≡ true → Fit n r → is_natural (write_digits f n r) ≡ true
unfolding write_digits every Fit
digits_natural zero n r h e g = front n r (omega arith) e g
digits_natural (suc f) n r h e g = by_ten (λ l. is_natural l ≡ true) f n r h
    (λ l. front n r l e g)
    (λ l m. digits_natural f (n / 10) ((48 + n % 10) ∷ r) m (rw (digit_of (n % 10) (mod-lt n (omega arith))) e) ((le-div_iff_mul-le (omega arith)).1 (omega arith)))

-- what is written is a natural number's digits, and reads as it
pub nat_natural : (n : ℕ) → is_natural (write_nat n) ≡ true
unfolding write_nat every Fit
nat_natural n = digits_natural n n [] (omega arith) refl tt

pub nat_read : (n : ℕ) → number_of (write_nat n) ≡ n
unfolding write_nat read_digits
nat_read n = digits_read n n [] (omega arith)

pub natural_digits : (l : List ℕ) → is_natural l ≡ true → every is_digit l ≡ true
unfolding is_natural every
natural_digits [] e = clash_bool e
natural_digits (b ∷ []) e = rw e
natural_digits (b ∷ c ∷ l) e = and_both (ltb 48 b) _ e (λ x y. y)

pub digit_range : (b : ℕ) → is_digit b ≡ true → (48 ≤ b) × (b ≤ 57)
unfolding is_digit
digit_range b e = and_both (leb 48 b) (leb b 57) e (λ x y. (leb-true 48 b x, leb-true b 57 y))

abbrev pub Digit : ℕ → Type 0
Digit b = (48 ≤ b) × (b ≤ 57)

every_digit : (l : List ℕ) → every is_digit l ≡ true → All Digit l
unfolding every All
every_digit [] e = tt
every_digit (b ∷ l) e = and_both (is_digit b) (every is_digit l) e (λ x y. (digit_range b x, every_digit l y))

-- no byte of a number is a dot, a star or a minus; all are digits
pub written_digits : (n : ℕ) → All Digit (write_nat n)
written_digits n = every_digit (write_nat n) (natural_digits (write_nat n) (nat_natural n))

-- ---- ints

pub in_range : (lo hi n : ℕ) → lo ≤ n → n ≤ hi → between lo hi n ≡ true
in_range lo hi n a b = rw (le-leb lo n a) (le-leb n hi b)

-- w is an int from lo to hi, and its number is z
pub record IntIs (lo hi z : ℕ) (w : List ℕ) : Type 0 where
  pub form : is_int w ≡ true
  pub within : int_within lo hi w ≡ true
  pub value : biased_int w ≡ z

head_digit : (c : ℕ) (l : List ℕ) → every is_digit (c ∷ l) ≡ true → (48 ≤ c) × (c ≤ 57)
unfolding every
head_digit c l e = and_both (is_digit c) (every is_digit l) e (λ x y. digit_range c x)

int_plus : (lo hi z : ℕ) (w : List ℕ) → is_natural w ≡ true → bias + number_of w ≡ z → lo ≤ z → z ≤ hi → IntIs lo hi z w
unfolding is_int int_within biased_int
int_plus lo hi z [] e r a b = empty e
  where
    empty : {X : Type 0} → is_natural [] ≡ true → X
    empty e = unfold is_natural in clash_bool e
int_plus lo hi z (c ∷ l) e r a b =
    let d = head_digit c l (natural_digits (c ∷ l) e) in
    let m : eqb c 45 ≡ false = ne_eqb c 45 (λ q. omega arith) in
    record {
      form = rw (m, is_int) e;
      within = rw (m, int_within) (in_range lo hi _ (omega arith) (omega arith));
      value = rw (m, biased_int) r;
    }

int_minus : (lo hi z : ℕ) (w : List ℕ) → is_natural w ≡ true → 1 ≤ number_of w → number_of w ≤ bias → bias - number_of w ≡ z → lo ≤ z → z ≤ hi → IntIs lo hi z (45 ∷ w)
unfolding is_int int_within biased_int
int_minus lo hi z w e l h r a b =
    record {
      form = rw e (lt-ltb 0 (number_of w) (omega arith));
      within = rw (le-leb (number_of w) bias h) (in_range lo hi _ (omega arith) (omega arith));
      value = r;
    }

pub int_written : (lo hi z : ℕ) → lo ≤ z → z ≤ hi → hi ≤ int_most → IntIs lo hi z (write_int z)
unfolding write_int
int_written lo hi z a b h = by (ltb z bias) refl
  where
    by : (t : Bool) → ltb z bias ≡ t → IntIs lo hi z (pick t (45 ∷ write_nat (bias - z)) (write_nat (z - bias)))
    by true e = unfold pick in (let l = ltb-true z bias e in let r = nat_read (bias - z) in int_minus lo hi z (write_nat (bias - z)) (nat_natural (bias - z)) (omega arith) (omega arith) (omega arith) a b)
    by false e = unfold pick in (let l = ltb-false z bias e in let r = nat_read (z - bias) in int_plus lo hi z (write_nat (z - bias)) (nat_natural (z - bias)) (omega arith) a b)

-- ---- sides of a range

pub read_count_lem : (n : ℕ) → n ≤ count_limit → read_count (write_nat n) ≡ number n
unfolding read_count number_when
read_count_lem n h = rw (nat_natural n, nat_read n, le-leb n count_limit h)

pub read_int_lem : (z : ℕ) → z ≤ int_most → read_int (write_int z) ≡ number z
unfolding read_int number_when
read_int_lem z h = let w = int_written 0 int_most z (omega arith) h (omega arith) in rw (w.form, w.within, w.value)

abbrev pub NoDot : ℕ → Type 0
NoDot b = b ≡ 46 → ⊥

pub cut_put : (u v : List ℕ) → All NoDot u → cut_range (u ++ (46 ∷ 46 ∷ v)) ≡ sides u v
unfolding cut_range second_dot pick All before_sides
cut_put [] v a = refl
cut_put (b ∷ u) v a = rw (ne_eqb b 46 a.0, cut_put u v a.1)

pub no_dots : (l : List ℕ) → All Digit l → All NoDot l
unfolding All
no_dots [] a = tt
no_dots (b ∷ l) a = ((λ q. omega (arith, a.0)), no_dots l a.1)

pub int_dots : (z : ℕ) → All NoDot (write_int z)
unfolding write_int
int_dots z = by (ltb z bias)
  where
    by : (b : Bool) → All NoDot (pick b (45 ∷ write_nat (bias - z)) (write_nat (z - bias)))
    by true = unfold pick All in ((λ q. omega arith), no_dots (write_nat (bias - z)) (written_digits (bias - z)))
    by false = unfold pick in no_dots (write_nat (z - bias)) (written_digits (z - bias))
