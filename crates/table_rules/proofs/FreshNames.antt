-- A name that no shown name is: one prefix for the whole table, by counting.
use mathlib.Core.Path.{◌≡◌, refl, ap, sym, ◌∙◌}
use mathlib.Core.Bool.{Bool, true, false}
use mathlib.Core.List.{List, [], ◌∷◌}
use Prim.Native.Nat.{ℕ, zero, suc, ◌+◌, ◌*◌, ◌-◌, ◌/◌, ◌%◌, ◌≤◌, ◌<◌}
use native.Mathlib.Nat.{div-add-mod', mod-lt, div-lt_iff_lt-mul}
use native.Mathlib.Omega.{arith}
use lib.Dec.{leb, eqb}
use lib.ListN.{length}
use borrow.Author.Tests.{ne_eqb, eqb-true, eqb-false, le-leb, lt-leb}
use Rattle.classes.specs.Lists.{same_bytes, every}
use Rattle.classes.specs.Bytes.{is_letter, is_name_byte}
use Rattle.definition_rules.specs.Words.{number_if, number_in, kind_of_run, is_keyword, starts_with_letter, name_form}
use Rattle.definition_rules.specs.Table.{bit}
use mathlib.Core.Logic.{◌⊎◌, inl, inr}

unfoldable pub occ : ℕ → List ℕ → ℕ
occ k [] = 0
occ k (j ∷ js) = bit (eqb j k) + occ k js

unfoldable keep_b : Bool → ℕ → List ℕ → List ℕ
keep_b true j l = l
keep_b false j l = j ∷ l

unfoldable del : ℕ → List ℕ → List ℕ
del k [] = []
del k (j ∷ js) = keep_b (eqb j k) j (del k js)

del_length : (k : ℕ) (l : List ℕ) → length (del k l) + occ k l ≡ length l
unfolding del occ
del_length k [] = refl
del_length k (j ∷ l) = by (eqb j k) (del_length k l)
  where
    by : (b : Bool) → length (del k l) + occ k l ≡ length l → length (keep_b b j (del k l)) + (bit b + occ k l) ≡ suc (length l)
    by true e = unfold keep_b bit in omega arith
    by false e = unfold keep_b bit in omega arith

del_occ : (i k : ℕ) (l : List ℕ) → (i ≡ k → ⊥) → occ i (del k l) ≡ occ i l
unfolding del occ
del_occ i k [] h = refl
del_occ i k (j ∷ l) h = by (eqb j k) refl (del_occ i k l h)
  where
    by : (b : Bool) → eqb j k ≡ b → occ i (del k l) ≡ occ i l → occ i (keep_b b j (del k l)) ≡ bit (eqb j i) + occ i l
    by true e q = unfold keep_b bit in let z = eqb-true j k e in rw (ne_eqb j i (λ y. h (sym y ∙ z))) (omega arith)
    by false e q = unfold keep_b in rw q

-- n different numbers need n places
pigeon : (n : ℕ) (l : List ℕ) → ((i : ℕ) → i < n → 1 ≤ occ i l) → n ≤ length l
pigeon zero l h = omega arith
pigeon (suc n) l h =
    let a = pigeon n (del n l) (λ i q. rw (del_occ i n l (λ e. omega arith)) (h i (omega arith))) in
    omega (arith, del_length n l, h n (omega arith))

seek : (n : ℕ) (l : List ℕ) → ◌⊎◌ ((i : ℕ) → i < n → 1 ≤ occ i l) ((i : ℕ) × (i < n) × (occ i l ≡ 0))
seek zero l = inl (λ i q. absurd (omega arith))
seek (suc n) l = by (seek n l) (occ n l) refl
  where
    by : ◌⊎◌ ((i : ℕ) → i < n → 1 ≤ occ i l) ((i : ℕ) × (i < n) × (occ i l ≡ 0)) → (c : ℕ) → occ n l ≡ c → ◌⊎◌ ((i : ℕ) → i < suc n → 1 ≤ occ i l) ((i : ℕ) × (i < suc n) × (occ i l ≡ 0))
    by (inr x) c e = inr (x.0, omega (arith, x.1), x.2)
    by (inl f) zero e = inr (n, omega arith, e)
    by (inl f) (suc c) e = inl (λ i q. elim (eqb i n) as (λ b. eqb i n ≡ b → 1 ≤ occ i l) [ true ↦ λ y. rw (eqb-true i n y) (omega arith) | false ↦ λ y. f i (omega (arith, eqb-false i n y)) ] refl)

pub free : (l : List ℕ) → (i : ℕ) × (i ≤ length l) × (occ i l ≡ 0)
free l = by (seek (suc (length l)) l)
  where
    by : ◌⊎◌ ((i : ℕ) → i < suc (length l) → 1 ≤ occ i l) ((i : ℕ) × (i < suc (length l)) × (occ i l ≡ 0)) → (i : ℕ) × (i ≤ length l) × (occ i l ≡ 0)
    by (inl f) = absurd (omega (arith, pigeon (suc (length l)) l f))
    by (inr x) = (x.0, omega (arith, x.1), x.2)

-- the prefix of a name as a number, and the names made
unfoldable pub code : List ℕ → ℕ
code [] = 1000
code (a ∷ []) = 1000
code (a ∷ b ∷ r) = (a - 65) * 26 + (b - 65)

unfoldable pub rest : List ℕ → List ℕ
rest [] = []
rest (a ∷ []) = []
rest (a ∷ b ∷ r) = r

unfoldable pub fresh : ℕ → ℕ → List ℕ
fresh q i = (65 + q / 26) ∷ (65 + q % 26) ∷ (65 + i / 26) ∷ (65 + i % 26) ∷ []

pub code_fresh : (q i : ℕ) → code (fresh q i) ≡ q
unfolding code fresh
code_fresh q i = omega (arith, div-add-mod' q 26)

pub num_fresh : (q i : ℕ) → code (rest (fresh q i)) ≡ i
unfolding code fresh rest
num_fresh q i = omega (arith, div-add-mod' i 26)

pub fresh_inj : (q i j : ℕ) → fresh q i ≡ fresh q j → i ≡ j
fresh_inj q i j e = sym (num_fresh q i) ∙ (ap (λ v. code (rest v)) e ∙ num_fresh q j)

unfoldable pub codes : List (List ℕ) → List ℕ
codes [] = []
codes (v ∷ vs) = code v ∷ codes vs

capital_letter : (b : ℕ) → 65 ≤ b → b ≤ 90 → is_letter b ≡ true
unfolding is_letter
capital_letter b h l = rw (lt_leb' 97 b (omega arith), le-leb 65 b h, le-leb b 90 l)
  where
    lt_leb' : (a b : ℕ) → b < a → leb a b ≡ false
    lt_leb' a b h = borrow.Author.Tests.lt-leb a b h

capital_byte : (b : ℕ) → 65 ≤ b → b ≤ 90 → is_name_byte b ≡ true
unfolding is_name_byte
capital_byte b h l = rw (capital_letter b h l)

same_head : (a b : ℕ) (u v : List ℕ) → (a ≡ b → ⊥) → same_bytes (a ∷ u) (b ∷ v) ≡ false
unfolding same_bytes
same_head a b u v h = rw (ne_eqb a b h)

capital_kind : (b : ℕ) (w : List ℕ) → b ≤ 90 → kind_of_run (b ∷ w) ≡ 10
unfolding kind_of_run number_in number_if
capital_kind b w l = rw (same_head 118 b _ w (λ e. omega arith), same_head 98 b _ w (λ e. omega arith), same_head 105 b _ w (λ e. omega arith), same_head 97 b _ w (λ e. omega arith), same_head 117 b _ w (λ e. omega arith), same_head 100 b _ w (λ e. omega arith), same_head 116 b _ w (λ e. omega arith), same_head 115 b _ w (λ e. omega arith), same_head 117 b _ w (λ e. omega arith))

capital_keyword : (b : ℕ) (w : List ℕ) → b ≤ 90 → is_keyword (b ∷ w) ≡ false
unfolding is_keyword
capital_keyword b w l = rw (capital_kind b w l, same_head 97 b _ w (λ e. omega arith), same_head 112 b _ w (λ e. omega arith))

pub fresh_ok : (q i : ℕ) → q ≤ 256 → i ≤ 256 → name_form (fresh q i) ≡ true
unfolding name_form fresh starts_with_letter every
fresh_ok q i h l =
    let a = hi q h in
    let b = hi i l in
    let c = mod-lt q {m = 26} (omega arith) in
    let d = mod-lt i {m = 26} (omega arith) in
    rw (capital_letter (65 + q / 26) (omega arith) (omega arith), capital_byte (65 + q / 26) (omega arith) (omega arith), capital_byte (65 + q % 26) (omega arith) (omega arith), capital_byte (65 + i / 26) (omega arith) (omega arith), capital_byte (65 + i % 26) (omega arith) (omega arith), capital_keyword (65 + q / 26) _ (omega arith))
  where
    hi : (x : ℕ) → x ≤ 256 → x / 26 < 26
    hi x h = (div-lt_iff_lt-mul {k = 26} {x = x} {y = 26} (omega arith)).1 (omega arith)
