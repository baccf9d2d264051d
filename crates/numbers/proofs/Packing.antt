-- Packed digits are in the order of the numbers.
use mathlib.Core.Path.{◌≡◌, refl, sym, subst}
use mathlib.Core.Bool.{Bool, true, false}
use Prim.Native.Nat.{ℕ, ◌+◌, ◌*◌, ◌/◌, ◌%◌, ◌≤◌, ◌<◌}
use native.Mathlib.Omega.{arith}
use lib.Dec.{ltb}
use borrow.Author.Tests.{ltb-true, ltb-false}
use Rattle.numbers.specs.Packed.{Packed, none, more, packed_limit, PackedBound}

-- what holds of p < q and of q ≤ p holds
either : {X : Type 0} (p q : ℕ) → (p < q → X) → (q ≤ p → X) → X
either {X} p q f g = go (ltb p q) refl
  where
    go : (b : Bool) → ltb p q ≡ b → X
    go true e = f (ltb-true p q e)
    go false e = g (ltb-false p q e)

record KeepsOrder (n p m q : ℕ) : Type 0 where
  less : p < q → n < m
  same : p ≡ q → n ≡ m

zero_first : {m q : ℕ} → Packed m q → KeepsOrder 0 0 m q
zero_first none = record { less = λ h. h; same = λ e. refl }
zero_first (more {n = m} {p = q} d k r) =
    let z = zero_first r in
    record {
      less = λ h. either 0 q (λ l. let i = z.less l in omega arith) (λ l. omega arith);
      same = λ e. let i = z.same (omega arith) in omega arith;
    }

ordered : {n p m q : ℕ} → Packed n p → Packed m q → KeepsOrder n p m q
ordered r none = record { less = λ h. absurd (omega arith); same = λ e. sym ((zero_first r).same (sym e)) }
ordered none (more d k r) = zero_first (more d k r)
ordered (more {n = n} {p = p} d h r) (more {n = m} {p = q} e k t) =
    let z = ordered {n = n} {p = p} {m = m} {q = q} r t in
    record {
      less = λ l. either p q (λ i. let j = z.less i in omega arith) (λ i. let j = z.same (omega arith) in omega arith);
      same = λ l. let j = z.same (omega arith) in omega arith;
    }

packed_bound : (v p : ℕ) → Packed v p → PackedBound v p
packed_bound v p r = record {
  least = λ n d s f l. either p d (λ i. let j = (ordered r s).less i in omega arith) (λ i. let j = (ordered r s).same (omega arith) in omega arith);
  most = λ n d s f l. either d p (λ i. let j = (ordered s r).less i in omega arith) (λ i. let j = (ordered s r).same (omega arith) in omega arith);
}

-- ---- eight digits

pub one_digit : (d : ℕ) → d < 10 → PackedBound d d
one_digit d h =
    let a : 0 * 10 + d ≡ d = omega arith in
    let b : 0 * 256 + d ≡ d = omega arith in
    packed_bound d d (subst (λ n. Packed n d) a (subst (λ p. Packed (0 * 10 + d) p) b (more d h none)))

nine : {n p : ℕ} → Packed n p → Packed (n * 10 + 9) (p * 256 + 9)
nine = more 9 (omega arith)

nought : {n p : ℕ} → Packed n p → Packed (n * 10 + 0) (p * 256 + 0)
nought = more 0 (omega arith)

nines : Packed 99_999_999 0x0909_0909_0909_0909
nines = nine (nine (nine (nine (nine (nine (nine (nine none)))))))

ninth : Packed 100_000_000 packed_limit
ninth = nought (nought (nought (nought (nought (nought (nought (nought (more 1 (omega arith) none))))))))

pub packed_none : (v : ℕ) → 99_999_999 < v → PackedBound v 0xFFFF_FFFF_FFFF_FFFF
packed_none v h = record {
  least = λ n d s f l. let a = (ordered nines s).less (omega arith) in let b = (ordered s ninth).less f in absurd (omega arith);
  most = λ n d s f l. let b = (ordered s ninth).less f in omega arith;
}

-- the last two digits of m
two_more : {n p : ℕ} (m : ℕ) → n ≡ m / 100 → Packed n p → Packed m (p * 65536 + (m % 100 / 10 * 256 + m % 100 % 10))
two_more {n} {p} m e r =
    let a : (n * 10 + m % 100 / 10) * 10 + m % 100 % 10 ≡ m = omega arith in
    let b : (p * 256 + m % 100 / 10) * 256 + m % 100 % 10 ≡ p * 65536 + (m % 100 / 10 * 256 + m % 100 % 10) = omega arith in
    subst (λ k. Packed k (p * 65536 + (m % 100 / 10 * 256 + m % 100 % 10))) a (subst (λ q. Packed ((n * 10 + m % 100 / 10) * 10 + m % 100 % 10) q) b (more (m % 100 % 10) (omega arith) (more (m % 100 / 10) (omega arith) r)))

two_first : (x : ℕ) → x < 100 → Packed x (x / 10 * 256 + x % 10)
two_first x h =
    let a : (0 * 10 + x / 10) * 10 + x % 10 ≡ x = omega arith in
    let b : (0 * 256 + x / 10) * 256 + x % 10 ≡ x / 10 * 256 + x % 10 = omega arith in
    subst (λ k. Packed k (x / 10 * 256 + x % 10)) a (subst (λ q. Packed ((0 * 10 + x / 10) * 10 + x % 10) q) b (more (x % 10) (omega arith) (more (x / 10) (omega arith) none)))

-- the digits two by two
pub three_pairs : (x a b : ℕ) → x < 1_000_000 → a ≡ x / 100 → b ≡ a / 100 → (e f g : ℕ) → e ≡ b / 10 * 256 + b % 10 → f ≡ a % 100 / 10 * 256 + a % 100 % 10 → g ≡ x % 100 / 10 * 256 + x % 100 % 10 → PackedBound x ((e * 65536 + f) * 65536 + g)
three_pairs x a b l p q e f g i j k = rw (i, j, k) (packed_bound x _ (two_more x p (two_more a q (two_first b (omega arith)))))

pub four_pairs : (x a b c : ℕ) → x < 100_000_000 → a ≡ x / 100 → b ≡ a / 100 → c ≡ b / 100 → (e f g h : ℕ) → e ≡ c / 10 * 256 + c % 10 → f ≡ b % 100 / 10 * 256 + b % 100 % 10 → g ≡ a % 100 / 10 * 256 + a % 100 % 10 → h ≡ x % 100 / 10 * 256 + x % 100 % 10 → PackedBound x (((e * 65536 + f) * 65536 + g) * 65536 + h)
four_pairs x a b c l p q r e f g h i j k m = rw (i, j, k, m) (packed_bound x _ (two_more x p (two_more a q (two_more b r (two_first c (omega arith))))))
