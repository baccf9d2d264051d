-- Tests one after the other.
use mathlib.Core.Path.{◌≡◌, refl, ◌∙◌}
use mathlib.Core.Bool.{Bool, true, false, not, ◌&&◌}

-- x and y are the answers to a and b
pub both : {a b x y : Bool} → x ≡ a → x ≡ true → y ≡ b → y ≡ a && b
both e h f = rw (← e, h) f

pub stops : {a x : Bool} (b : Bool) → x ≡ a → x ≡ false → false ≡ a && b
stops b e h = rw (← e, h)

pub unless : {a b x y : Bool} → x ≡ b → x ≡ false → y ≡ a → y ≡ a && not b
unless {a} {b} {x} {y} e h f = rw (← e, h) (f ∙ go a)
  where
    go : (z : Bool) → z ≡ z && true
    go true = refl
    go false = refl

pub stopped : (a : Bool) {b x : Bool} → x ≡ b → x ≡ true → false ≡ a && not b
stopped a e h = rw (← e, h) (go a)
  where
    go : (z : Bool) → false ≡ z && false
    go true = refl
    go false = refl
