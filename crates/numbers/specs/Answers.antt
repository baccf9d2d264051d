-- What the code's answers on ranges mean.
use Rattle.std.specs.Prelude.{Option, None, Some, ℕ}
use Rattle.numbers.specs.Range.{MaybeNumber, unread, number, MaybeRange, no_range, range}
use Rattle.numbers.specs.declared.Range.{Range}

-- one side of a range
abbrev pub side_of : Option ℕ → MaybeNumber
side_of None = unread
side_of (Some n) = number n

-- a range
abbrev pub range_of : Option Range → MaybeRange
range_of None = no_range
range_of (Some r) = range r.low r.high
