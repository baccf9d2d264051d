-- Ranges: the run, cut at its first dot, and each side.
use Prim.Native.Nat.{ℕ, suc, ◌+◌, ◌-◌, ◌<◌, ◌≤◌, min}
use mathlib.Core.Bool.{Bool, true, false, not, ◌&&◌, and-false}
use mathlib.Core.List.{List, [], ◌∷◌}
use mathlib.Core.Path.{◌≡◌, refl, sym, ap}
use mathlib.Core.Logic.{⊎_elim}
use native.Mathlib.Numerals.{add-one}
use native.Mathlib.Omega.{arith}
use borrow.Author.Tests.{eq-eqb, ne_eqb, le-leb, lt-leb}
use lib.Dec.{eqb}
use lib.ListN.{length, get_or, take, drop, get_or-eq_default}
use Rattle.std.specs.Bool.{then_some}
use Rattle.numbers.specs.Answers.{side_of}
use Rattle.classes.specs.Lists.{pick, run_of}
use Rattle.classes.proofs.Rows.{rest_all}
use Rattle.numbers.proofs.Order.{less_or_not}
use Rattle.numbers.proofs.Digits.{and_right, within_most}
use Rattle.numbers.specs.Limits.{int_most, count_limit}
use Rattle.numbers.specs.Decimal.{cap, number_of, is_natural, is_int, int_within, biased_int}
use Rattle.numbers.specs.Range.{unread, number, number_when, read_int, read_count, uncut, sides, before_sides, second_dot, cut_range, not_dot}

-- ---- one side

module _ (w : List ℕ) where
  pub int_read : (n : ℕ) → is_int w && int_within 0 int_most w ≡ true → n ≡ min int_most (biased_int w) → read_int w ≡ number n
  unfolding read_int number_when
  int_read n t e = rw t (ap number (omega (arith, within_most w (and_right (is_int w) (int_within 0 int_most w) t))))

  pub int_unread : is_int w && int_within 0 int_most w ≡ false → read_int w ≡ unread
  unfolding read_int number_when
  int_unread t = rw t

  pub count_unread : is_natural w ≡ false → read_count w ≡ unread
  unfolding read_count number_when
  count_unread t = rw t

  module _ (n : ℕ) (e : n ≡ min cap (number_of w)) where
    pub count_read : is_natural w ≡ true → n ≤ count_limit → read_count w ≡ number n
    unfolding read_count number_when
    count_read t l = rw (t, le-leb (number_of w) count_limit (omega arith)) (ap number (omega arith))

    pub count_over : count_limit < n → read_count w ≡ unread
    unfolding read_count number_when
    count_over l = rw (lt-leb (number_of w) count_limit (omega arith), and-false (is_natural w))

-- the answer of the code
module _ (w : List ℕ) (n : ℕ) where
  pub count_answer : n ≡ min cap (number_of w) → n ≤ count_limit → side_of (then_some (is_natural w) n) ≡ read_count w
  count_answer e l = by (is_natural w) refl
    where
      by : (t : Bool) → is_natural w ≡ t → side_of (then_some t n) ≡ read_count w
      by true t = sym (count_read w n e t l)
      by false t = sym (count_unread w t)

-- ---- the cut

second_missing : (w : List ℕ) → (get_or w 0 0 ≡ 46 → ⊥) → second_dot w ≡ uncut
unfolding second_dot pick
second_missing [] h = refl
second_missing (b ∷ w) h = rw (ne_eqb b 46 h)

second_found : (w : List ℕ) → get_or w 0 0 ≡ 46 → second_dot w ≡ sides [] (drop 1 w)
unfolding second_dot pick
second_found [] h = absurd (omega arith)
second_found (b ∷ w) h = rw (eq-eqb b 46 h)

-- one byte more in front, dot or not
abbrev passed : Bool → ℕ → ℕ
passed dot n = elim (not dot) [ true ↦ suc n | false ↦ 0 ]

missing : (dot : Bool) (b n : ℕ) (w : List ℕ) → ((get_or w (suc n) 0 ≡ 46 → ⊥) → cut_range w ≡ uncut) → (get_or (b ∷ w) (suc (passed dot n)) 0 ≡ 46 → ⊥) → pick dot (second_dot w) (before_sides b (cut_range w)) ≡ uncut
unfolding pick before_sides
missing true b n w up h = second_missing w h
missing false b n w up h = rw (up h)

found : (dot : Bool) (b n : ℕ) (w : List ℕ) → (get_or w (suc n) 0 ≡ 46 → cut_range w ≡ sides (take n w) (drop (suc (suc n)) w)) → get_or (b ∷ w) (suc (passed dot n)) 0 ≡ 46 → pick dot (second_dot w) (before_sides b (cut_range w)) ≡ sides (take (passed dot n) (b ∷ w)) (drop (suc (suc (passed dot n))) (b ∷ w))
unfolding pick before_sides
found true b n w up h = second_found w h
found false b n w up h = rw (up h)

missing_from : (w : List ℕ) → (get_or w (suc (run_of not_dot w)) 0 ≡ 46 → ⊥) → cut_range w ≡ uncut
unfolding cut_range run_of
missing_from [] h = refl
missing_from (b ∷ w) h = missing (eqb b 46) b (run_of not_dot w) w (missing_from w) h

found_from : (w : List ℕ) → get_or w (suc (run_of not_dot w)) 0 ≡ 46 → cut_range w ≡ sides (take (run_of not_dot w) w) (drop (suc (suc (run_of not_dot w))) w)
unfolding cut_range run_of
found_from [] h = absurd (omega arith)
found_from (b ∷ w) h = found (eqb b 46) b (run_of not_dot w) w (found_from w) h

module _ (w : List ℕ) (dot : ℕ) (e : dot ≡ run_of not_dot w) where
  pub cut_missing : (get_or w (dot + 1) 0 ≡ 46 → ⊥) → cut_range w ≡ uncut
  cut_missing h = missing_from w (rw (e, add-one) at h)

  -- the sides as the parts to dot and from dot + 2 to the end
  pub cut_found : get_or w (dot + 1) 0 ≡ 46 → cut_range w ≡ sides (take dot w) (take (length w - (dot + 2)) (drop (dot + 2) w))
  cut_found h =
      let two : dot + 2 ≡ suc (suc dot) = omega arith in
      rw (rest_all w (dot + 2), two, e) (found_from w (rw (e, add-one) at h))

-- a byte that is not 0 lies in the row
pub inside : (s : List ℕ) (i b : ℕ) → get_or s i 0 ≡ suc b → i < length s
inside s i b h = ⊎_elim (λ l. l) (λ g. absurd (omega (arith, get_or-eq_default s 0 {n = i} g))) (less_or_not i (length s))
