-- Laws of counting.
use mathlib.Core.Path.{◌≡◌, refl}
use mathlib.Core.Bool.{Bool, true, false, ◌&&◌}
use mathlib.Core.List.{List, [], ◌∷◌}
use Prim.Native.Nat.{ℕ, ◌+◌, ◌≤◌}
use native.Mathlib.Omega.{arith}
use lib.Dec.{eqb}
use borrow.Author.Tests.{eqb-true, eq-eqb, ltb-true, ltb-false, lt-ltb, le-ltb}
pub use Rattle.classes.proofs.Bools.{clash_bool}
use Rattle.reading_rules.specs.Count.{same, times, In, Once, has, all_in}

pub same_self : (k : ℕ) → same k k ≡ 1
unfolding same
same_self k = rw (eq-eqb k k refl, same)

pub same_case : {X : Type 0} (j k : ℕ) → (j ≡ k → X) → (same j k ≡ 0 → X) → X
unfolding same
same_case {X} j k f g = go (eqb j k) refl
  where
    go : (b : Bool) → eqb j k ≡ b → X
    go true e = f (eqb-true j k e)
    go false e = g (rw (e, same))

pub same_le : (j k : ℕ) → same j k ≤ 1
same_le j k = same_case j k (λ q. rw (← q) (omega (arith, same_self j))) (λ q. omega arith)

-- the member's test
pub has_in : (z : List ℕ) (k : ℕ) → has z k ≡ true → In k z
unfolding has
has_in z k e = ltb-true 0 (times k z) e

pub hasnt_in : (z : List ℕ) (k : ℕ) → has z k ≡ false → times k z ≡ 0
unfolding has
hasnt_in z k e = omega (arith, ltb-false 0 (times k z) e)

pub in_has : (z : List ℕ) (k : ℕ) → In k z → has z k ≡ true
unfolding has
in_has z k h = lt-ltb 0 (times k z) h

pub out_hasnt : (z : List ℕ) (k : ℕ) → times k z ≡ 0 → has z k ≡ false
unfolding has
out_hasnt z k h = le-ltb 0 (times k z) (omega arith)

pub and_both : {X : Type 0} (a b : Bool) → a && b ≡ true → (a ≡ true → b ≡ true → X) → X
and_both true b e f = f refl e
and_both false b e f = clash_bool e

pub all_in_lem : (rs z : List ℕ) → all_in rs z ≡ true → (k : ℕ) → In k rs → In k z
unfolding all_in times
all_in_lem [] z e k h = absurd (omega arith)
all_in_lem (r ∷ rs) z e k h =
    and_both (has z r) (all_in rs z) e (λ a b. same_case r k
    (λ q. rw (← q) (has_in z r a))
    (λ q. all_in_lem rs z b k (omega arith)))

pub in_all : (rs z : List ℕ) → ((k : ℕ) → In k rs → In k z) → all_in rs z ≡ true
unfolding all_in times
in_all [] z f = refl
in_all (r ∷ rs) z f = rw (in_has z r (f r (omega (arith, same_self r)))) (in_all rs z (λ k h. f k (omega arith)))

pub once_nil : Once []
unfolding times
once_nil k = omega arith

pub once_more : (d : ℕ) (z : List ℕ) → Once z → times d z ≡ 0 → Once (d ∷ z)
unfolding times
once_more d z o e k = same_case d k
    (λ q. go q)
    (λ q. omega (arith, o k))
  where
    go : d ≡ k → same d k + times k z ≤ 1
    go q = omega (arith, same_le d k, rw q at e)

-- what is new was not there
pub was_new : (d : ℕ) (z ks : List ℕ) → times d z + times d (d ∷ ks) ≤ 1 → times d z ≡ 0
unfolding times
was_new d z ks h = omega (arith, same_self d)

pub in_head : (k : ℕ) (l : List ℕ) → In k (k ∷ l)
unfolding times
in_head k l = omega (arith, same_self k)

pub in_tail : (k j : ℕ) (l : List ℕ) → In k l → In k (j ∷ l)
unfolding times
in_tail k j l h = omega arith

pub in_cons : {X : Type 0} (k j : ℕ) (l : List ℕ) → In k (j ∷ l) → (j ≡ k → X) → (In k l → X) → X
unfolding times
in_cons k j l h f g = same_case j k f (λ e. g (omega arith))

pub in_nil : {X : Type 0} (k : ℕ) → In k [] → X
unfolding times
in_nil k h = absurd (omega arith)

pub once_tail : (k : ℕ) (ks : List ℕ) → Once (k ∷ ks) → Once ks
unfolding times
once_tail k ks o q = omega (arith, o q)

pub once_apart : (k : ℕ) (ks : List ℕ) → Once (k ∷ ks) → (q : ℕ) → In q ks → same k q ≡ 0
unfolding times
once_apart k ks o q h = omega (arith, o q)

pub out_apart : (k : ℕ) (ks : List ℕ) (q : ℕ) → (In q (k ∷ ks) → ⊥) → same k q ≡ 0
out_apart k ks q f = same_case k q (λ e. absurd (f (rw (← e) (in_head k ks)))) (λ z. z)
