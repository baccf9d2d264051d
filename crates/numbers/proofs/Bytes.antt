-- Numbers in bytes: past the end, and what is written is read back.
use Prim.Native.Nat.{ℕ, ◌+◌, ◌-◌, ◌/◌, ◌%◌, ◌<◌, ◌≤◌}
use mathlib.Core.List.{List}
use mathlib.Core.Path.{◌≡◌, ap, ◌∙◌}
use mathlib.Core.Logic.{⊎_elim}
use native.Mathlib.Omega.{arith}
use borrow.Author.Tests.{lt-ltb, le-ltb}
use lib.ListN.{length, get_or, set, length-set, get_or-eq_default}
use lib.Seq.{get_or-set_same, get_or-set_other, set_out}
use Rattle.classes.specs.Lists.{pick}
use Rattle.numbers.proofs.Order.{less_or_not}
use Rattle.numbers.specs.Limits.{bias, int_most}
use Rattle.numbers.specs.LittleEndian.{signed, le16, le32, le_int, set16, set32, set_int}

-- ---- past the end

module _ (s : List ℕ) (at : ℕ) (h : length s ≤ at) where
  pub le16_past : le16 s at ≡ 0
  le16_past = rw (get_or-eq_default s 0 {n = at} h, get_or-eq_default s 0 {n = at + 1} (omega arith))

  pub set16_past : (v : ℕ) → set16 s at v ≡ s
  set16_past v = rw (set_out s at (v % 256) h) (set_out s (at + 1) (v / 256) (omega arith))

-- the last byte stands alone
pub le16_last : (s : List ℕ) (at : ℕ) → length s ≤ at + 1 → get_or s at 0 ≡ le16 s at
le16_last s at h = omega (arith, get_or-eq_default s 0 {n = at + 1} h)

pub le32_past : (s : List ℕ) (at : ℕ) → length s ≤ at → le32 s at ≡ 0
le32_past s at h = omega (arith, le16_past s at h, le16_past s (at + 2) (omega arith))

pub set32_past : (s : List ℕ) (at v : ℕ) → length s ≤ at → set32 s at v ≡ s
set32_past s at v h = rw (set16_past s at h (v % 65536)) (set16_past s (at + 2) (omega arith) (v / 65536))

-- ---- read after write

pub read_16 : (d : List ℕ) (at v : ℕ) → at + 1 < length d → le16 (set16 d at v) at ≡ v
read_16 d at v h =
    rw (
      get_or-set_other (set d at (v % 256)) (at + 1) at (v / 256) 0 (omega arith),
      get_or-set_same d at (v % 256) 0 (omega arith),
      get_or-set_same (set d at (v % 256)) (at + 1) (v / 256) 0 (simp length-set h),
    )
    (omega arith)

-- a place before the write
pub read_16_before : (d : List ℕ) (i j v : ℕ) → i + 1 < j → le16 (set16 d j v) i ≡ le16 d i
read_16_before d i j v h =
    rw (
      get_or-set_other (set d j (v % 256)) (j + 1) i (v / 256) 0 (omega arith),
      get_or-set_other d j i (v % 256) 0 (omega arith),
      get_or-set_other (set d j (v % 256)) (j + 1) (i + 1) (v / 256) 0 (omega arith),
      get_or-set_other d j (i + 1) (v % 256) 0 (omega arith),
    )

pub read_32 : (d : List ℕ) (at v : ℕ) → at + 3 < length d → le32 (set32 d at v) at ≡ v
read_32 d at v h =
    let e = set16 d at (v % 65536) in
    rw (
      read_16_before e at (at + 2) (v / 65536) (omega arith),
      read_16 d at (v % 65536) (omega arith),
      read_16 e (at + 2) (v / 65536) (simp length-set (omega arith)),
    )
    (omega arith)

pub signed_low : (z : ℕ) → z < bias → signed z ≡ z + bias
unfolding signed pick
signed_low z h = rw (lt-ltb z bias h)

pub signed_high : (z : ℕ) → bias ≤ z → signed z ≡ z - bias
unfolding signed pick
signed_high z h = rw (le-ltb z bias h)

pub signed_twice : (z : ℕ) → z ≤ int_most → signed (signed z) ≡ z
signed_twice z h =
    ⊎_elim
    (λ l. ap signed (signed_low z l) ∙ signed_high (z + bias) (omega arith) ∙ omega arith)
    (λ g. ap signed (signed_high z g) ∙ signed_low (z - bias) (omega arith) ∙ omega arith)
    (less_or_not z bias)

pub read_int_lem : (d : List ℕ) (at v : ℕ) → at + 3 < length d → v ≤ int_most → le_int (set_int d at v) at ≡ v
read_int_lem d at v h l = ap signed (read_32 d at (signed v) h) ∙ signed_twice v l
