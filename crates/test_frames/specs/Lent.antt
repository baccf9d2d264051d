-- What is lent to the functions under test, and the rows of a frame.
use Rattle.std.specs.Prelude.{Bool, List, ◌≡◌, ℕ, ◌*◌, ◌<◌, ◌/◌, min, eqb, length, get_or, drop}
use Rattle.classes.specs.Lists.{every}
use Rattle.numbers.specs.LittleEndian.{le32}

-- each number from a place on is as it was lent
abbrev pub kept_from : ℕ → List ℕ → ℕ → Bool
kept_from lent d from = every (λ n. eqb n lent) (drop from d)

-- the first n of d are the u32s of s, as many as are whole and fit
pub record Words (s : List ℕ) (d : List ℕ) (n : ℕ) : Type 0 where
  pub count : n ≡ min (length s / 4) (length d)
  pub words : (k : ℕ) → k < n → get_or d k 0 ≡ le32 s (4 * k)
