-- A class of bytes on a segment, by one test that antt computes.
use Prim.Native.Nat.{ℕ, zero, suc, ◌+◌, ◌-◌, ◌≤◌, ◌<◌}
use mathlib.Core.Bool.{Bool, true, false, not, ◌&&◌, ◌||◌}
use mathlib.Core.List.{List, [], ◌∷◌}
use mathlib.Core.Path.{◌≡◌, refl, ◌∙◌, ap}
use mathlib.Core.Logic.{⊎_elim}
use native.Mathlib.Omega.{arith}
use native.Mathlib.Nat.{eq-or-lt_of_le}
use lib.Dec.{T, eqb, eqb→eq}
use borrow.Author.Tests.{ne_eqb, eqb-true}
use Rattle.classes.specs.Bytes.{is_blank, is_mark, is_word_byte, is_plain}
use Rattle.classes.proofs.Bools.{or_case}

-- b is none of the keys, the last one first
abbrev pub Other : List ℕ → ℕ → Type 0
Other [] b = Unit {0}
Other (k ∷ ks) b = Other ks b × (b ≡ k → ⊥)

abbrev one_of : List ℕ → ℕ → Bool
one_of [] b = false
one_of (k ∷ ks) b = eqb b k || one_of ks b

abbrev agrees : Bool → Bool → Bool
agrees true b = b
agrees false b = not b

-- f is v at the n numbers from low, the keys apart
abbrev pub agrees_at : (ℕ → Bool) → List ℕ → Bool → ℕ → ℕ → Bool
agrees_at f ks v low zero = true
agrees_at f ks v low (suc n) = (one_of ks low || agrees v (f low)) && agrees_at f ks v (suc low) n

and_both : (a b : Bool) → T (a && b) → T a × T b
and_both true b t = (tt, t)
and_both false b t = absurd t

either : (p q : Bool) → (T p → ⊥) → (T q → ⊥) → T (p || q) → ⊥
either true q f g t = f tt
either false q f g t = g t

other : (ks : List ℕ) (b : ℕ) → Other ks b → T (one_of ks b) → ⊥
other [] b o t = t
other (k ∷ ks) b o t = either (eqb b k) (one_of ks b) (λ e. o.1 (eqb→eq b k e)) (λ e. other ks b o.0 e) t

agreed : (q v b : Bool) → (T q → ⊥) → T (q || agrees v b) → v ≡ b
agreed true v b g t = absurd (g tt)
agreed false true true g t = refl
agreed false true false g t = absurd t
agreed false false true g t = absurd t
agreed false false false g t = refl

module _ (f : ℕ → Bool) (ks : List ℕ) (v : Bool) (b : ℕ) (o : Other ks b) where
  from : (n low : ℕ) → T (agrees_at f ks v low n) → low ≤ b → b < low + n → v ≡ f b
  from zero low t l u = absurd (omega arith)
  from (suc n) low t l u =
      let h = and_both (one_of ks low || agrees v (f low)) (agrees_at f ks v (suc low) n) t in
      ⊎_elim
      (λ e. agreed (one_of ks low) v (f low) (rw e (λ q. other ks b o q)) h.0 ∙ ap f e)
      (λ g. from n (suc low) h.1 g (omega arith))
      (eq-or-lt_of_le l)

-- an arm of a `match` on ranges: b lies from low to below high and is no key. `search` reads low and high off the path
pub segment : (f : ℕ → Bool) (ks : List ℕ) {v : Bool} {b : ℕ} (low high : ℕ) → Other ks b → low ≤ b → b < high → T (agrees_at f ks v low (high - low)) → v ≡ f b
segment f ks {v} {b} low high o l u t = from f ks v b o (high - low) low t l (omega arith)

-- the arm with no lower bound
pub below : (f : ℕ → Bool) (ks : List ℕ) {v : Bool} {b : ℕ} (high : ℕ) → Other ks b → b < high → T (agrees_at f ks v 0 high) → v ≡ f b
below f ks {v} {b} high o u t = from f ks v b o high 0 t (omega arith) (omega arith)

-- a byte that is no `=` and no `,`
pub plain_else : (b : ℕ) (x y : Bool) → x ≡ is_blank b → y ≡ is_word_byte b → (b ≡ 61 → ⊥) → (b ≡ 44 → ⊥) → x || y ≡ is_plain b
unfolding is_plain
plain_else b x y e f h k = rw (e, f, ne_eqb b 61 h, ne_eqb b 44 k) (same (is_blank b) (is_word_byte b))
  where
    same : (p q : Bool) → p || q ≡ p || (q || false)
    same true q = refl
    same false true = refl
    same false false = refl

-- a definition's marks are bytes
pub mark_small : (b : ℕ) → is_mark b ≡ true → b < 256
unfolding is_mark
mark_small b e =
    or_case (eqb b 60) _ e (is 60 (omega arith))
    (λ x. or_case (eqb b 62) _ x (is 62 (omega arith))
    (λ x. or_case (eqb b 91) _ x (is 91 (omega arith))
    (λ x. or_case (eqb b 93) _ x (is 93 (omega arith))
    (λ x. or_case (eqb b 123) _ x (is 123 (omega arith))
    (λ x. or_case (eqb b 125) _ x (is 125 (omega arith))
    (λ x. or_case (eqb b 59) (eqb b 63) x (is 59 (omega arith)) (is 63 (omega arith))))))))
  where
    is : (c : ℕ) → c < 256 → eqb b c ≡ true → b < 256
    is c h e = omega (arith, eqb-true b c e)
