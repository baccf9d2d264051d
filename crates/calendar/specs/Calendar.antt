-- Dates and times.
use Rattle.std.specs.Prelude.{Bool, true, false, not, ◌&&◌, ◌||◌, List, ℕ, ◌+◌, ◌-◌, ◌*◌, ◌%◌, eqb, leb, length, get_or, take, drop}
use Rattle.classes.specs.Lists.{every}
use Rattle.classes.specs.Bytes.{between, is_digit}
use Rattle.numbers.specs.Decimal.{number_of}

-- "February has 29 days in each year that four divides"; but, by 02 (request 2), "A year that 100 divides and 400 doesn't has 28 days in February."
unfoldable pub leap : ℕ → Bool
leap year = eqb (year % 4) 0 && (not (eqb (year % 100) 0) || eqb (year % 400) 0)

unfoldable pub days_of : ℕ → ℕ → ℕ
days_of year month = elim (eqb month 2) [
  | true ↦ elim (leap year) [ true ↦ 29 | false ↦ 28 ]
  | false ↦ elim (eqb month 4 || (eqb month 6 || (eqb month 9 || eqb month 11))) [ true ↦ 30 | false ↦ 31 ]
]

-- "Date: eight digits"
unfoldable pub date_form : List ℕ → Bool
date_form w = eqb (length w) 8 && every is_digit w

-- "year 0001 to 9999, month, day": what eight digits may be
unfoldable pub date_within : List ℕ → Bool
date_within w =
    let year = number_of (take 4 w) in
    let month = number_of (take 2 (drop 4 w)) in
    let day = number_of (drop 6 w) in
    leb 1 year && (between 1 12 month && between 1 (days_of year month) day)

-- "Time: six digits"
unfoldable pub time_form : List ℕ → Bool
time_form w = eqb (length w) 6 && every is_digit w

-- "00 to 23, 00 to 59, 00 to 59": what six digits may be
unfoldable pub time_within : List ℕ → Bool
time_within w =
    let hour = number_of (take 2 w) in
    let minute = number_of (take 2 (drop 2 w)) in
    let second = number_of (drop 4 w) in
    leb hour 23 && (leb minute 59 && leb second 59)

-- the number of the two digits at a place
abbrev pub pair_at : List ℕ → ℕ → ℕ
pair_at w at = (get_or w at 0 - 48) * 10 + (get_or w (at + 1) 0 - 48)
