-- Rows of bytes from a place on: one byte more, the byte that decides, and the end.
use Prim.Native.Nat.{ℕ, zero, suc, ◌+◌, ◌-◌, ◌≤◌, ◌<◌}
use mathlib.Core.Bool.{Bool, true, false, and-false}
use mathlib.Core.List.{List, [], ◌∷◌, ◌++◌}
use mathlib.Core.Path.{◌≡◌, refl, sym, ap, ◌∙◌}
use native.Mathlib.Numerals.{add-one}
use native.Mathlib.Omega.{arith}
use borrow.Author.Tests.{eq-eqb, ne_eqb, eqb-true}
use lib.Dec.{eqb}
use lib.ListN.{length, get_or, take, drop, replicate, length-take, length-drop, drop_of_length-le}
use lib.Pointwise.{pointwise}
use lib.Seq.{drop-cons, take_all, take-nil}
use Rattle.classes.specs.Lists.{every, run_of, last_byte, same_bytes, part}
use Rattle.classes.proofs.Bools.{clash_bool, both_true}

module _ (f : ℕ → Bool) (s : List ℕ) (i : ℕ) where
  pub every_more : i < length s → f (get_or s i 0) ≡ true → every f (drop i s) ≡ every f (drop (i + 1) s)
  unfolding every
  every_more h t = rw (add-one, drop-cons s i 0, t)

  pub every_stop : i < length s → f (get_or s i 0) ≡ false → every f (drop i s) ≡ false
  unfolding every
  every_stop h t = rw (drop-cons s i 0, t)

  pub every_end : length s ≤ i → every f (drop i s) ≡ true
  unfolding every
  every_end h = rw (drop_of_length-le s h)

module _ (f : ℕ → Bool) (s : List ℕ) (i : ℕ) where
  pub run_more : i < length s → f (get_or s i 0) ≡ true → i + run_of f (drop i s) ≡ i + 1 + run_of f (drop (i + 1) s)
  unfolding run_of
  run_more h t = rw (add-one, drop-cons s i 0, run_of, t) (omega arith)

  pub run_stop : i < length s → f (get_or s i 0) ≡ false → i + run_of f (drop i s) ≡ i
  unfolding run_of
  run_stop h t = rw (drop-cons s i 0, run_of, t) (omega arith)

  pub run_end : length s ≤ i → i + run_of f (drop i s) ≡ i
  unfolding run_of
  run_end h = rw (drop_of_length-le s h) (omega arith)

one_more : (t : Bool) (n k : ℕ) → n ≤ k → elim t [ true ↦ suc n | false ↦ 0 ] ≤ suc k
one_more true n k h = omega arith
one_more false n k h = omega arith

pub run_within : (f : ℕ → Bool) (s : List ℕ) → run_of f s ≤ length s
unfolding run_of
run_within f [] = omega arith
run_within f (b ∷ s) = one_more (f b) (run_of f s) (length s) (run_within f s)

-- the bytes of a longest row are of the class
pub run_take : (f : ℕ → Bool) (l : List ℕ) → every f (take (run_of f l) l) ≡ true
unfolding run_of every
run_take f [] = refl
run_take f (b ∷ l) = go (f b) refl (run_take f l)
  where
    go : (t : Bool) → f b ≡ t → every f (take (run_of f l) l) ≡ true → every f (take (elim t [ true ↦ suc (run_of f l) | false ↦ 0 ]) (b ∷ l)) ≡ true
    go true e k = rw e k
    go false e k = refl

module _ (a b : List ℕ) (i : ℕ) where
  pub same_more : i < length a → i < length b → get_or a i 0 ≡ get_or b i 0 → same_bytes (drop i a) (drop i b) ≡ same_bytes (drop (i + 1) a) (drop (i + 1) b)
  unfolding same_bytes
  same_more h k e = rw (add-one, drop-cons a i 0, drop-cons b i 0, eq-eqb (get_or a i 0) (get_or b i 0) e)

  pub same_stop : i < length a → i < length b → (get_or a i 0 ≡ get_or b i 0 → ⊥) → same_bytes (drop i a) (drop i b) ≡ false
  unfolding same_bytes
  same_stop h k e = rw (drop-cons a i 0, drop-cons b i 0, ne_eqb (get_or a i 0) (get_or b i 0) e)

  pub same_end : length a ≤ i → length b ≤ i → same_bytes (drop i a) (drop i b) ≡ true
  unfolding same_bytes
  same_end h k = rw (drop_of_length-le a h, drop_of_length-le b k)

-- one byte more, where the place is one past it
pub same_step : (a b : List ℕ) (i : ℕ) → 1 ≤ i → i < length a → i < length b → get_or a (i - 1) 0 ≡ get_or b (i - 1) 0 → same_bytes (drop (i - 1) a) (drop (i - 1) b) ≡ same_bytes (drop (i + 1 - 1) a) (drop (i + 1 - 1) b)
same_step a b i l h k e =
    let q : i - 1 + 1 ≡ i + 1 - 1 = omega arith in
    same_more a b (i - 1) (omega arith) (omega arith) e ∙ rw q

-- at the last byte, which is the same, or where there is none
pub same_last : (a b : List ℕ) (i : ℕ) → length a ≤ i + 1 → i ≤ length a - 1 → length a ≡ length b → last_byte a ≡ last_byte b → same_bytes (drop i a) (drop i b) ≡ true
same_last a b i h l k e = by (length a) refl
  where
    by : (n : ℕ) → length a ≡ n → same_bytes (drop i a) (drop i b) ≡ true
    by zero z = same_end a b i (omega arith) (omega arith)
    by (suc n) z =
        let p : i ≡ length a - 1 = omega arith in
        let q : length b - 1 ≡ i = omega arith in
        same_more a b i (omega arith) (omega arith) (ap (λ m. get_or a m 0) p ∙ (e ∙ ap (λ m. get_or b m 0) q)) ∙ same_end a b (i + 1) (omega arith) (omega arith)

pub same_length : (a b : List ℕ) → (length a ≡ length b → ⊥) → same_bytes a b ≡ false
unfolding same_bytes
same_length [] [] h = absurd (h refl)
same_length [] (b ∷ l) h = refl
same_length (a ∷ k) [] h = refl
same_length (a ∷ k) (b ∷ l) h = rw (same_length k l (λ e. h (ap suc e))) (and-false (eqb a b))

pub bytes_self : (w : List ℕ) → same_bytes w w ≡ true
unfolding same_bytes
bytes_self [] = refl
bytes_self (b ∷ w) = rw (eq-eqb b b refl) (bytes_self w)

pub same_true : (v w : List ℕ) → same_bytes v w ≡ true → v ≡ w
unfolding same_bytes
same_true [] [] e = refl
same_true [] (b ∷ w) e = clash_bool e
same_true (a ∷ v) [] e = clash_bool e
same_true (a ∷ v) (b ∷ w) e = let x = both_true (eqb a b) (same_bytes v w) e in let y = eqb-true a b x.0 in let z = same_true v w x.1 in cc

-- a last byte that differs
pub same_not_last : (a b : List ℕ) → (last_byte a ≡ last_byte b → ⊥) → same_bytes a b ≡ false
same_not_last a b h = by (same_bytes a b) refl
  where
    by : (t : Bool) → same_bytes a b ≡ t → t ≡ false
    by true e = absurd (h (ap (λ w. last_byte w) (same_true a b e)))
    by false e = refl

-- no mark stands where there is none
pub no_mark : (n k : ℕ) → get_or (replicate n false) k false ≡ false
no_mark zero k = refl
no_mark (suc n) zero = refl
no_mark (suc n) (suc k) = no_mark n k

-- nothing is joined of nothing only
pub both_nil : (x y : List ℕ) → x ++ y ≡ [] → (x ≡ []) × (y ≡ [])
both_nil [] y e = (refl, e)
both_nil (p ∷ x) y e = let z : ◌≡◌ {A = ℕ} 0 1 = cc in absurd (omega arith)

-- ---- a part, with any bounds

pub part_over : (t : List ℕ) (p e : ℕ) → length t < e → take (length t - p) (drop p t) ≡ part t p e
part_over t p e h =
    take_all (length t - p) (drop p t) (simp length-drop (omega arith))
    ∙ sym (take_all (e - p) (drop p t) (simp length-drop (omega arith)))

pub part_none : (t : List ℕ) (p e : ℕ) → length t < p → [] ≡ part t p e
part_none t p e h = let q : length t ≤ p = omega arith in rw (drop_of_length-le t q, take-nil)

pub part_back : (t : List ℕ) (p e : ℕ) → e ≤ p → [] ≡ part t p e
part_back t p e h = let q : e - p ≡ 0 = omega arith in rw q

pub part_most : (t : List ℕ) (p e : ℕ) → length (part t p e) ≤ length t
part_most t p e = rw (length-take, length-drop) (omega arith)

pub part_within : (t : List ℕ) (p e i : ℕ) → i < length (part t p e) → p + i < length t
part_within t p e i h = omega (arith, simp (length-take, length-drop) at h)

-- a part of n bytes
pub part_of : (t : List ℕ) (p n : ℕ) → part t p (p + n) ≡ take n (drop p t)
part_of t p n = let q : p + n - p ≡ n = omega arith in rw q

-- the part of a slice from a place to its end
pub rest_all : (s : List ℕ) (i : ℕ) → take (length s - i) (drop i s) ≡ drop i s
rest_all s i = take_all (length s - i) (drop i s) (rw length-drop (omega arith))

-- ---- `==` of slices

pub same_pointwise : (a b : List ℕ) → pointwise eqb a b ≡ same_bytes a b
unfolding same_bytes
same_pointwise [] [] = refl
same_pointwise [] (y ∷ b) = refl
same_pointwise (x ∷ a) [] = refl
same_pointwise (x ∷ a) (y ∷ b) = rw (same_pointwise a b)
