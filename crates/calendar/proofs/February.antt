-- How many days February has, by what divides the year.
use Prim.Native.Nat.{ℕ, ◌%◌}
use mathlib.Core.Path.{◌≡◌}
use native.Mathlib.Omega.{arith}
use borrow.Author.Tests.{eq-eqb, ne_eqb}
use Rattle.calendar.specs.Calendar.{leap, days_of}

module _ (year : ℕ) where
  -- "A year that 100 divides and 400 doesn't has 28 days in February."
  pub common_century : year % 100 ≡ 0 → (year % 400 ≡ 0 → ⊥) → days_of year 2 ≡ 28
  unfolding days_of leap
  common_century c f = rw (days_of, leap, eq-eqb (year % 4) 0 (omega (arith, c)), eq-eqb (year % 100) 0 c, ne_eqb (year % 400) 0 f)

  -- One that 400 divides has 29,
  pub leap_century : year % 400 ≡ 0 → days_of year 2 ≡ 29
  unfolding days_of leap
  leap_century f =
      rw (days_of, leap, eq-eqb (year % 4) 0 (omega (arith, f)), eq-eqb (year % 100) 0 (omega (arith, f)), eq-eqb (year % 400) 0 f)

  -- and so has one that four divides and 100 doesn't.
  pub leap_year : year % 4 ≡ 0 → (year % 100 ≡ 0 → ⊥) → days_of year 2 ≡ 29
  unfolding days_of leap
  leap_year q c = rw (days_of, leap, eq-eqb (year % 4) 0 q, ne_eqb (year % 100) 0 c)

  -- One that four doesn't divide has 28.
  pub common_year : (year % 4 ≡ 0 → ⊥) → days_of year 2 ≡ 28
  unfolding days_of leap
  common_year q = rw (days_of, leap, ne_eqb (year % 4) 0 q)
