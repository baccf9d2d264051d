-- Lines step by step; and that a line begins behind a line feed, with none between.
use Prim.Native.Nat.{ℕ, zero, suc, ◌+◌, ◌-◌, ◌≤◌, ◌<◌}
use mathlib.Core.Bool.{Bool, true, false, cond}
use mathlib.Core.List.{List, [], ◌∷◌}
use mathlib.Core.Path.{◌≡◌, refl, sym, ap, subst, ◌∙◌}
use native.Mathlib.Decide.{dec_lt}
use native.Mathlib.Nat.{add-zero}
use native.Mathlib.Numerals.{add-one}
use native.Mathlib.Omega.{arith}
use borrow.Author.Tests.{eq-eqb, ne_eqb}
use lib.Dec.{T, eqb, eqb→eq}
use lib.ListN.{length, get_or, take, drop, length-drop}
use lib.Seq.{take_all, length-take-le, get_or-take}
use Rattle.std.specs.List.{count_by}
use Rattle.std.proofs.lemmas.List.Sums.{count_by_more_yes, count_by_more_no}
use Rattle.classes.specs.Bytes.{is_blank}
use Rattle.classes.specs.Lists.{run_of}
use Rattle.cli_places.specs.Lines.{break_of, breaks_before, line_start, line_end, not_break, blanks_off}

-- ---- the place behind the last number below one that is a hit

module _ (f : ℕ → ℕ) (Hit Miss : ℕ → Type 0) (first : f 0 ≡ 0) (hit : (p : ℕ) → Hit p → f (suc p) ≡ suc p) (miss : (p : ℕ) → Miss p → f (suc p) ≡ f p) where
  last_by : (p i : ℕ) → Dec (i < p) → i < suc p → Hit i → ((k : ℕ) → i + 1 ≤ k → k < suc p → Miss k) → (i < p → f p ≡ i + 1) → f (suc p) ≡ i + 1
  last_by p i (yes l) h here after rest = miss p (after p (omega arith) (omega arith)) ∙ rest l
  last_by p i (no l) h here after rest = let e : p ≡ i = omega (arith, l) in rw (e, hit i here, add-one)

  pub behind_last : (p i : ℕ) → i < p → Hit i → ((k : ℕ) → i + 1 ≤ k → k < p → Miss k) → f p ≡ i + 1
  behind_last zero i h here after = absurd (omega arith)
  behind_last (suc p) i h here after = last_by p i (dec_lt i p) h here after (λ l. behind_last p i l here (λ k a b. after k a (omega (arith, b))))

  pub all_missed : (p : ℕ) → ((k : ℕ) → k < p → Miss k) → f p ≡ 0
  all_missed zero h = first
  all_missed (suc p) h = miss p (h p (omega arith)) ∙ all_missed p (λ k b. h k (omega (arith, b)))

-- ---- where a line begins and ends

module _ (s : List ℕ) where
  begins : line_start s 0 ≡ 0
  unfolding line_start
  begins = refl

  behind : (p : ℕ) → get_or s p 0 ≡ 10 → line_start s (suc p) ≡ suc p
  unfolding line_start
  behind p e = rw (eq-eqb _ 10 e)

  before : (p : ℕ) → (get_or s p 0 ≡ 10 → ⊥) → line_start s (suc p) ≡ line_start s p
  unfolding line_start
  before p e = rw (ne_eqb _ 10 e)

  starts_behind : (p i : ℕ) → i < p → get_or s i 0 ≡ 10 → ((k : ℕ) → i + 1 ≤ k → k < p → get_or s k 0 ≡ 10 → ⊥) → line_start s p ≡ i + 1
  starts_behind p i = behind_last (line_start s) (λ k. get_or s k 0 ≡ 10) (λ k. get_or s k 0 ≡ 10 → ⊥) begins behind before p i

  starts_first : (p : ℕ) → ((k : ℕ) → k < p → get_or s k 0 ≡ 10 → ⊥) → line_start s p ≡ 0
  starts_first p = all_missed (line_start s) (λ k. get_or s k 0 ≡ 10) (λ k. get_or s k 0 ≡ 10 → ⊥) begins behind before p

  -- the same of the part before the place
  pub last_start : (p i : ℕ) → p ≤ length s → i < length (take p s) → get_or (take p s) i 0 ≡ 10
      → ((k : ℕ) → i + 1 ≤ k → k < length (take p s) → get_or (take p s) k 0 ≡ 10 → ⊥) → (i + 1 ≡ line_start s p) × (i + 1 ≤ p)
  last_start p i within h here after =
      let size : length (take p s) ≡ p = length-take-le p s within in
      let inside : i < p = omega arith in (
        sym (starts_behind p i inside (sym (get_or-take p s i 0 inside) ∙ here)
            (λ k a b e. after k a (omega (arith, b)) (get_or-take p s k 0 b ∙ e))),
        omega arith,
      )

  pub no_start : (p : ℕ) → p ≤ length s → ((k : ℕ) → k < length (take p s) → get_or (take p s) k 0 ≡ 10 → ⊥) → 0 ≡ line_start s p
  no_start p within h =
      let size : length (take p s) ≡ p = length-take-le p s within in
      sym (starts_first p (λ k b e. h k (omega (arith, b)) (get_or-take p s k 0 b ∙ e)))

  one_more : (p : ℕ) (t : Bool) → p < length s → eqb (get_or s p 0) 10 ≡ t
      → count_by (λ b. eqb b 10) (take p s) + cond t 1 0 ≡ count_by (λ b. eqb b 10) (take (p + 1) s)
  one_more p true h e = sym (count_by_more_yes (λ b. eqb b 10) s p 0 h e)
  one_more p false h e = add-zero _ ∙ sym (count_by_more_no (λ b. eqb b 10) s p 0 h e)

  pub breaks_are : (p : ℕ) → p ≤ length s → breaks_before s p ≡ count_by (λ b. eqb b 10) (take p s)
  unfolding breaks_before
  breaks_are zero h = refl
  breaks_are (suc p) h =
      ap (λ n. n + break_of (get_or s p 0)) (breaks_are p (omega arith)) ∙ one_more p (eqb (get_or s p 0) 10) (omega arith) refl ∙ rw add-one

pub run_first : (f : ℕ → Bool) (l : List ℕ) (i : ℕ) → i < length l → f (get_or l i 0) ≡ false → ((k : ℕ) → k < i → f (get_or l k 0) ≡ true) → run_of f l ≡ i
unfolding run_of
run_first f [] i h here below = absurd (omega arith)
run_first f (b ∷ l) zero h here below = rw (run_of, here)
run_first f (b ∷ l) (suc i) h here below =
    let e : f b ≡ true = below 0 (omega arith) in
    rw (run_of, e) (ap suc (run_first f l i (omega arith) here (λ k m. below (suc k) (omega (arith, m)))))

pub run_all : (f : ℕ → Bool) (l : List ℕ) → ((k : ℕ) → k < length l → f (get_or l k 0) ≡ true) → run_of f l ≡ length l
unfolding run_of
run_all f [] h = refl
run_all f (b ∷ l) h =
    let e : f b ≡ true = h 0 (omega arith) in
    rw (run_of, e) (ap suc (run_all f l (λ k m. h (suc k) (omega (arith, m)))))

module _ (s : List ℕ) (p : ℕ) (within : p ≤ length s) where
  abbrev rest : List ℕ
  rest = take (length s - p) (drop p s)

  whole : rest ≡ drop p s
  whole = take_all (length s - p) (drop p s) (rw length-drop (omega arith))

  pub first_end : (i : ℕ) → i < length rest → get_or rest i 0 ≡ 10 → ((k : ℕ) → k < i → get_or rest k 0 ≡ 10 → ⊥)
      → (p + i ≡ line_end s p) × (p + i ≤ length s)
  unfolding line_end
  first_end i h here below =
      let run : run_of not_break rest ≡ i = run_first not_break rest i h (rw (eq-eqb _ 10 here)) (λ k m. rw (ne_eqb _ 10 (below k m))) in
      let inside : i < length (drop p s) = rw whole at h in
      let bound : p + i ≤ length s = omega (arith, length-drop p s) in
      (ap (λ n. p + n) (sym (rw whole at run)), bound)

  pub no_end : ((k : ℕ) → k < length rest → get_or rest k 0 ≡ 10 → ⊥) → length s ≡ line_end s p
  unfolding line_end
  no_end h =
      let run : run_of not_break rest ≡ length rest = run_all not_break rest (λ k m. rw (ne_eqb _ 10 (h k m))) in
      let run_d : run_of not_break (drop p s) ≡ length (drop p s) = rw whole at run in
      omega (arith, run_d, length-drop p s)

-- ---- the end without blanks

module _ (s : List ℕ) where
  off_first : blanks_off s 0 ≡ 0
  unfolding blanks_off
  off_first = refl

  off_one : (p : ℕ) → is_blank (get_or s p 0) ≡ true → blanks_off s (suc p) ≡ blanks_off s p
  unfolding blanks_off
  off_one p e = rw e

  off_none : (p : ℕ) → is_blank (get_or s p 0) ≡ false → blanks_off s (suc p) ≡ suc p
  unfolding blanks_off
  off_none p e = rw e

  pub text_stays : (p i : ℕ) → i < p → is_blank (get_or s i 0) ≡ false → ((k : ℕ) → i + 1 ≤ k → k < p → is_blank (get_or s k 0) ≡ true) → blanks_off s p ≡ i + 1
  text_stays p i = behind_last (blanks_off s) (λ k. is_blank (get_or s k 0) ≡ false) (λ k. is_blank (get_or s k 0) ≡ true) off_first off_none off_one p i

  pub all_off : (p : ℕ) → ((k : ℕ) → k < p → is_blank (get_or s k 0) ≡ true) → blanks_off s p ≡ 0
  all_off p = all_missed (blanks_off s) (λ k. is_blank (get_or s k 0) ≡ false) (λ k. is_blank (get_or s k 0) ≡ true) off_first off_none off_one p

-- ---- a line begins at 0 or behind a line feed, and none stands from there to the place

stays : (p n : ℕ) (t : Bool) → n ≤ p → cond t (suc p) n ≤ suc p
stays p n true h = omega arith
stays p n false h = omega arith

pub start_within : (s : List ℕ) (p : ℕ) → line_start s p ≤ p
unfolding line_start
start_within s zero = omega arith
start_within s (suc p) = stays p (line_start s p) (eqb (get_or s p 0) 10) (start_within s p)

module _ (s : List ℕ) (p k : ℕ) where
  other : eqb (get_or s p 0) 10 ≡ false → get_or s p 0 ≡ 10 → ⊥
  other q e = let t : eqb (get_or s p 0) 10 ≡ true = eq-eqb _ 10 e in let z : ◌≡◌ {A = ℕ} 0 1 = cc in absurd (omega arith)

  at_or_before : Dec (k < p) → eqb (get_or s p 0) 10 ≡ false → k < suc p → (k < p → get_or s k 0 ≡ 10 → ⊥) → get_or s k 0 ≡ 10 → ⊥
  at_or_before (yes m) q l r e = r m e
  at_or_before (no m) q l r e = let i : k ≡ p = omega (arith, m) in other q (rw i at e)

  clear_by : (t : Bool) → eqb (get_or s p 0) 10 ≡ t → cond t (suc p) (line_start s p) ≤ k → k < suc p
      → (line_start s p ≤ k → k < p → get_or s k 0 ≡ 10 → ⊥) → get_or s k 0 ≡ 10 → ⊥
  clear_by true q h l r e = omega arith
  clear_by false q h l r e = at_or_before (dec_lt k p) q l (r h) e

  behind_by : (t : Bool) → eqb (get_or s p 0) 10 ≡ t → cond t (suc p) (line_start s p) ≡ suc k → (line_start s p ≡ suc k → get_or s k 0 ≡ 10)
      → get_or s k 0 ≡ 10
  behind_by true q h r = let i : k ≡ p = omega arith in rw i (eqb→eq _ 10 (subst T (sym q) tt))
  behind_by false q h r = r h

pub start_clear : (s : List ℕ) (p k : ℕ) → line_start s p ≤ k → k < p → get_or s k 0 ≡ 10 → ⊥
unfolding line_start
start_clear s zero k h l e = omega arith
start_clear s (suc p) k h l e = clear_by s p k (eqb (get_or s p 0) 10) refl h l (start_clear s p k) e

pub start_behind : (s : List ℕ) (p k : ℕ) → line_start s p ≡ suc k → get_or s k 0 ≡ 10
unfolding line_start
start_behind s zero k h = absurd (omega arith)
start_behind s (suc p) k h = behind_by s p k (eqb (get_or s p 0) 10) refl h (start_behind s p k)
