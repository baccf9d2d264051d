-- Rows that are filled from the front.
use Prim.Native.Nat.{ℕ, ◌+◌, ◌*◌, ◌<◌}
use mathlib.Core.List.{List}
use mathlib.Core.Path.{◌≡◌, ◌∙◌}
use native.Mathlib.Omega.{arith}
use borrow.Author.Count.{below_more}
use lib.ListN.{length, get_or, set}
use lib.Seq.{get_or-set_same, get_or-set_other}
use Rattle.numbers.specs.LittleEndian.{le32}

pub words_more : (s d : List ℕ) (i v : ℕ) → i < length d → v ≡ le32 s (4 * i) → ((k : ℕ) → k < i → get_or d k 0 ≡ le32 s (4 * k))
    → (k : ℕ) → k < i + 1 → get_or (set d i v) k 0 ≡ le32 s (4 * k)
words_more s d i v h e all =
    below_more (λ k. get_or (set d i v) k 0 ≡ le32 s (4 * k)) i
    (λ k l. get_or-set_other d i k v 0 (λ q. omega (arith, q, l)) ∙ all k l)
    (get_or-set_same d i v 0 h ∙ e)
