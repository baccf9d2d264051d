-- What stands at the front of the input, by each way through `next`.
use Prim.Native.Nat.{ℕ, ◌<◌, ◌≤◌}
use mathlib.Core.List.{List}
use mathlib.Core.Path.{◌≡◌}
use borrow.Author.Tests.{lt-ltb, le-ltb}
use lib.ListN.{length}
use Rattle.test_frames.specs.declared.Head.{Head}
use Rattle.test_frames.specs.declared.Front.TheVariants.{Part, Long, Whole}
use Rattle.test_frames.specs.Frame.{length_of, largest, front_by}

module _ (s : List ℕ) (h : Head) where
  pub front_short : length s < 13 → Part ≡ front_by s h
  unfolding front_by
  front_short a = rw (lt-ltb (length s) 13 a)

  module _ (n g : ℕ) (en : n ≡ length_of h) (eg : g ≡ largest h) (a : 13 ≤ length s) where
    pub front_long : 100000 < g → Long n ≡ front_by s h
    unfolding front_by
    front_long b = rw (le-ltb (length s) 13 a, ← eg, lt-ltb 100000 g b, en)

    pub front_part : g ≤ 100000 → length s < n → Part ≡ front_by s h
    unfolding front_by
    front_part b c = rw (le-ltb (length s) 13 a, ← eg, le-ltb 100000 g b, ← en, lt-ltb (length s) n c)

    pub front_whole : g ≤ 100000 → n ≤ length s → Whole h ≡ front_by s h
    unfolding front_by
    front_whole b c = rw (le-ltb (length s) 13 a, ← eg, le-ltb 100000 g b, ← en, le-ltb (length s) n c)
