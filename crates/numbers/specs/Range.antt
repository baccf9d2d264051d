-- "A range is `lo..hi`, one run, lo ≤ hi, each number without leading zero or `-0`."
use Rattle.std.specs.Prelude.{Bool, true, false, not, ◌&&◌, List, [], ◌∷◌, ℕ, leb, eqb}
use Rattle.classes.specs.Lists.{pick, same_bytes}
use Rattle.numbers.specs.Limits.{no_limit, count_limit, int_most}
use Rattle.numbers.specs.Decimal.{number_of, is_natural, is_int, int_within, biased_int}

-- ---- one side

pub data MaybeNumber : Type 0 where
  unread : MaybeNumber
  number : ℕ → MaybeNumber

unfoldable pub number_when : Bool → ℕ → MaybeNumber
number_when true n = number n
number_when false n = unread

-- "Ints: -2,147,483,648 to 2,147,483,647", counted from the least; "without leading zero or `-0`"
unfoldable pub read_int : List ℕ → MaybeNumber
read_int w = number_when (is_int w && int_within 0 int_most w) (biased_int w)

-- "lo 0 to 65,534; hi .. to 65,534"
unfoldable pub read_count : List ℕ → MaybeNumber
read_count w = number_when (is_natural w && leb (number_of w) count_limit) (number_of w)

-- "or `*` for no limit"
unfoldable pub read_upper : List ℕ → MaybeNumber
read_upper w = pick (same_bytes w (42 ∷ [])) (number no_limit) (read_count w)

-- ---- "`lo..hi`, one run"

pub data Sides : Type 0 where
  uncut : Sides
  sides : List ℕ → List ℕ → Sides

unfoldable pub before_sides : ℕ → Sides → Sides
before_sides b uncut = uncut
before_sides b (sides u v) = sides (b ∷ u) v

unfoldable pub second_dot : List ℕ → Sides
second_dot [] = uncut
second_dot (b ∷ w) = pick (eqb b 46) (sides [] w) uncut

-- the two sides of the first dot, which is double
unfoldable pub cut_range : List ℕ → Sides
cut_range [] = uncut
cut_range (b ∷ w) = pick (eqb b 46) (second_dot w) (before_sides b (cut_range w))

unfoldable pub on_sides : {A : Type 0} → Sides → A → (List ℕ → List ℕ → A) → A
on_sides uncut a f = a
on_sides (sides u v) a f = f u v

pub data MaybeRange : Type 0 where
  no_range : MaybeRange
  range : ℕ → ℕ → MaybeRange

unfoldable pub low_of : MaybeRange → ℕ
low_of no_range = 0
low_of (range a b) = a

unfoldable pub high_of : MaybeRange → ℕ
high_of no_range = 0
high_of (range a b) = b

unfoldable pub both_read : MaybeNumber → MaybeNumber → MaybeRange
both_read unread y = no_range
both_read (number a) unread = no_range
both_read (number a) (number b) = range a b

-- the range of an int, an ascii or an unquoted-ascii; that it lies in the kind's limits and "lo ≤ hi" are asked apart
unfoldable pub read_int_range : List ℕ → MaybeRange
read_int_range w = on_sides (cut_range w) no_range (λ u v. both_read (read_int u) (read_int v))

-- "Cardinality: lo 0 to 65,534; hi 1 to 65,534, or `*` for no limit"
unfoldable pub read_count_range : List ℕ → MaybeRange
read_count_range w = on_sides (cut_range w) no_range (λ u v. both_read (read_count u) (read_upper v))

-- any byte but a dot
abbrev pub not_dot : ℕ → Bool
not_dot b = not (eqb b 46)
