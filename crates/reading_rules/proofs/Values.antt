-- What each number of a value means, by its form and its range.
use mathlib.Core.Path.{◌≡◌, refl, sym}
use mathlib.Core.Bool.{Bool, true, false}
use mathlib.Core.List.{List}
use mathlib.Core.Logic.{◌↔◌}
use Prim.Native.Nat.{ℕ, ◌≤◌, ◌<◌}
use native.Mathlib.Omega.{arith}
use lib.ListN.{length}
use Rattle.numbers.proofs.Sizes.{past_every_range}
use Rattle.numbers.specs.Limits.{int_most}
use Rattle.numbers.specs.Decimal.{is_int}
use Rattle.reading_rules.specs.Token.{Token, word}
use Rattle.reading_rules.specs.Record.{Record}
use Rattle.reading_rules.specs.Value.{word_form, word_within, token_form, token_within, form_then_range, value_number}
use Rattle.reading_rules.proofs.CountLaws.{clash_bool}

pub by_form : (a b : Bool) → (form_then_range a b ≡ 24) ↔ (a ≡ false)
unfolding form_then_range
by_form true true = ((λ e. absurd (omega arith)), λ e. clash_bool (sym e))
by_form true false = ((λ e. absurd (omega arith)), λ e. clash_bool (sym e))
by_form false b = ((λ e. refl), λ e. refl)

by_range : (a b : Bool) → (form_then_range a b ≡ 30) ↔ ((a ≡ true) × (b ≡ false))
unfolding form_then_range
by_range true true = ((λ e. absurd (omega arith)), λ x. clash_bool (sym x.1))
by_range true false = ((λ e. (refl, refl)), λ x. refl)
by_range false b = ((λ e. absurd (omega arith)), λ x. clash_bool x.0)

pub by_both : (a b : Bool) → (form_then_range a b ≡ 0) ↔ ((a ≡ true) × (b ≡ true))
unfolding form_then_range
by_both true true = ((λ e. (refl, refl)), λ x. refl)
by_both true false = ((λ e. absurd (omega arith)), λ x. clash_bool x.1)
by_both false b = ((λ e. absurd (omega arith)), λ x. clash_bool x.0)

module _ (r : Record) (t : Token) where
  -- "24 shall mean a text without the type's form"
  pub no_form_24 : (value_number r t ≡ 24) ↔ (token_form r t ≡ false)
  unfolding value_number
  no_form_24 = by_form (token_form r t) (token_within r t)

  -- "the new 30 a right form whose number, length, date or time lies outside what is allowed"
  pub outside_30 : (value_number r t ≡ 30) ↔ ((token_form r t ≡ true) × (token_within r t ≡ false))
  unfolding value_number
  outside_30 = by_range (token_form r t) (token_within r t)

  pub value_0 : (value_number r t ≡ 0) ↔ ((token_form r t ≡ true) × (token_within r t ≡ true))
  unfolding value_number
  value_0 = by_both (token_form r t) (token_within r t)

-- ---- "An int of any number of digits in right form but beyond its range is 30."

pub many_digits : (r : Record) (w : List ℕ) → r.kind ≡ 3 → r.most ≤ int_most → is_int w ≡ true → 11 < length w → value_number r (word w) ≡ 30
unfolding token_form token_within word_form word_within
many_digits r w k m e h = (outside_30 r (word w)).1 (rw k e, rw k (past_every_range r.least r.most w m e h))
