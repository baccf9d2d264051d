-- Laws of the questions about a run, said of plain lists.
use Prim.Native.Nat.{ℕ, suc}
use mathlib.Core.Bool.{Bool, true, false, ◌&&◌}
use mathlib.Core.List.{List, [], ◌∷◌}
use mathlib.Core.Path.{◌≡◌, refl, sym}
use native.Mathlib.Omega.{arith}
use borrow.Author.Tests.{eq-eqb, ne_eqb, eqb-true, eqb-false, lt-ltb}
use lib.Dec.{eqb, ltb}
use lib.ListN.{length}
use Rattle.classes.specs.Lists.{not_empty, same_bytes}
use Rattle.classes.proofs.Rows.{same_length}
use Rattle.definition_rules.specs.Words.{kw_void, kw_bool, kw_int, kw_ascii, kw_unquoted, kw_date, kw_time, kw_struct, kw_union, kind_of_run, number_in, number_if}

pub some_bytes : (w : List ℕ) → not_empty w ≡ ltb 0 (length w)
unfolding not_empty
some_bytes [] = refl
some_bytes (b ∷ w) = rw (lt-ltb 0 (suc (length w)) (omega arith))

-- a run that is as long as no type keyword
pub kind_far : (w : List ℕ) → (length w ≡ 3 → ⊥) → (length w ≡ 4 → ⊥) → (length w ≡ 5 → ⊥) → (length w ≡ 6 → ⊥) → (length w ≡ 14 → ⊥) → 10 ≡ kind_of_run w
unfolding kind_of_run number_in number_if
kind_far w three four five six long =
    rw (
      same_length kw_void w (λ e. four (sym e)),
      same_length kw_bool w (λ e. four (sym e)),
      same_length kw_int w (λ e. three (sym e)),
      same_length kw_ascii w (λ e. five (sym e)),
      same_length kw_unquoted w (λ e. long (sym e)),
      same_length kw_date w (λ e. four (sym e)),
      same_length kw_time w (λ e. four (sym e)),
      same_length kw_struct w (λ e. six (sym e)),
      same_length kw_union w (λ e. five (sym e)),
    )

-- ---- equality of rows goes both ways

eqb_sym : (a b : ℕ) → eqb a b ≡ eqb b a
eqb_sym a b = by (eqb b a) refl
  where
    by : (t : Bool) → eqb b a ≡ t → eqb a b ≡ t
    by true e = eq-eqb a b (sym (eqb-true b a e))
    by false e = ne_eqb a b (λ q. eqb-false b a e (sym q))

pub same_sym : (a b : List ℕ) → same_bytes a b ≡ same_bytes b a
unfolding same_bytes
same_sym [] [] = refl
same_sym [] (b ∷ l) = refl
same_sym (a ∷ k) [] = refl
same_sym (a ∷ k) (b ∷ l) = rw (eqb_sym a b, same_sym k l)

-- of four tests, the third holds, or doesn't
pub third_holds : (a b d : Bool) → (a && b) && d ≡ a && b && true && d
third_holds true true d = refl
third_holds true false d = refl
third_holds false b d = refl

pub third_fails : (a b d : Bool) → false ≡ a && b && false && d
third_fails true true d = refl
third_fails true false d = refl
third_fails false b d = refl
