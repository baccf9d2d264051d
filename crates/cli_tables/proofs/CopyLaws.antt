-- What lent bytes have in front on which others were put: as many of these as there is room for.
use mathlib.Core.Path.{◌≡◌, refl, sym, ap, ◌∙◌}
use mathlib.Core.Bool.{Bool, true, false}
use mathlib.Core.List.{List, ◌++◌}
use Prim.Native.Nat.{ℕ, ◌+◌, ◌-◌, ◌≤◌, min, max}
use native.Mathlib.Omega.{arith}
use lib.Dec.{leb}
use lib.ListN.{length, take, drop, take-append-drop}
use lib.Seq.{sets, take_all, length-take-le, length-sets, take-append_seam}
use borrow.Author.Tests.{leb-true, leb-false}
use Rattle.classes.specs.Lists.{part}
use Rattle.classes.proofs.Stores.{sets_append, sets_out}
use Rattle.definition_writer.proofs.WriteLaws.{sets_front}

module _ (s d : List ℕ) where
  all_there : length s ≤ length d → take (length s) (sets d 0 s) ≡ take (length d) s
  all_there h = ap (take (length s)) (sets_front s d h) ∙ (take-append_seam s (drop (length s) d) ∙ sym (take_all (length d) s h))

  first_there : length d ≤ length s → take (length d) (sets d 0 s) ≡ take (length d) s
  first_there h = ap (take (length d)) only ∙ (ap (λ n. take n (front ++ drop (length front) d)) (sym e) ∙ take-append_seam front (drop (length front) d))
    where
      front : List ℕ
      front = take (length d) s

      e : length front ≡ length d
      e = length-take-le (length d) s h

      only : sets d 0 s ≡ front ++ drop (length front) d
      only =
          ap (sets d 0) (sym (take-append-drop (length d) s))
          ∙ (sym (sets_append front (drop (length d) s) d 0)
          ∙ (sets_out (drop (length d) s) (sets d 0 front) (0 + length front) (omega (arith, e, length-sets d 0 front))
          ∙ sets_front front d (omega (arith, e))))

  there : (n : ℕ) → n ≡ min (length d) (length s) → take n (sets d 0 s) ≡ take (length d) s
  there n e = by (leb (length s) (length d)) refl
    where
      by : (b : Bool) → leb (length s) (length d) ≡ b → take n (sets d 0 s) ≡ take (length d) s
      by true q =
          let h : length s ≤ length d = leb-true (length s) (length d) q in
          let p : n ≡ length s = omega (arith, e, h) in
          ap (λ k. take k (sets d 0 s)) p ∙ all_there h
      by false q =
          let h : length d ≤ length s = omega (arith, leb-false (length s) (length d) q) in
          let p : n ≡ length d = omega (arith, e, h) in
          ap (λ k. take k (sets d 0 s)) p ∙ first_there h

  -- a page of the bytes d, with s put on it from its first byte on
  pub copied_there : (row old : List ℕ) (at n : ℕ) → old ≡ d → at ≡ 0 → row ≡ sets old at s → n ≡ max at (min (length old) (at + length s)) → part row 0 n ≡ take (length d) s
  copied_there row old at n eo ea r e =
      let p : n - 0 ≡ n = omega arith in
      let q : n ≡ min (length d) (length s) = omega (arith, rw (eo, ea) at e) in
      ap (λ k. take k row) p ∙ (ap (take n) (rw (eo, ea) at r) ∙ there n q)
