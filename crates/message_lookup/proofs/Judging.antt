-- The value rule that each kind's number picks.
use mathlib.Core.Path.{◌≡◌, refl, sym, ap, ◌∙◌}
use mathlib.Core.Bool.{Bool, true, false, ◌&&◌}
use mathlib.Core.List.{List, [], ◌∷◌}
use lib.Pointwise.{pointwise}
use Rattle.classes.specs.Lists.{same_bytes}
use Prim.Native.Nat.{ℕ, ◌+◌, ◌<◌}
use native.Mathlib.Omega.{arith}
use borrow.Author.Tests.{ne_eqb, lt-leb}
use lib.Dec.{eqb, leb}
use Rattle.classes.proofs.Bools.{both_true, and_off}
use Rattle.classes.specs.Bytes.{between}
use Rattle.numbers.specs.Limits.{bias}
use Rattle.numbers.specs.Decimal.{is_int}
use Rattle.calendar.specs.Calendar.{date_form, date_within, time_form, time_within}
use Rattle.reading_rules.specs.Token.{word, string}
use Rattle.reading_rules.specs.Record.{Record, blank}
use Rattle.reading_rules.specs.Value.{is_bool, word_form, word_within, token_form, token_within, form_then_range, value_number}
use Rattle.reading_rules.proofs.CountLaws.{clash_bool}
use Rattle.reading_rules.proofs.Values.{by_form, by_both}
use Rattle.message_lookup.specs.Questions.{text_token, length_lies, int_lies}

-- slices are equal as the paper's bytes are
pub same_slices : (a b : List ℕ) → pointwise eqb a b ≡ same_bytes a b
unfolding pointwise same_bytes
same_slices [] [] = refl
same_slices [] (y ∷ b) = refl
same_slices (x ∷ a) [] = refl
same_slices (x ∷ a) (y ∷ b) = ap (λ z. eqb x y && z) (same_slices a b)

-- ---- form, then range

pub no_form : (form within : Bool) → form ≡ false → 24 ≡ form_then_range form within
no_form form within e = sym ((by_form form within).1 e)

pub no_range_lem : (form within : Bool) → form && within ≡ false → form ≡ true → 30 ≡ form_then_range form within
unfolding form_then_range
no_range_lem true true e f = clash_bool (sym e)
no_range_lem true false e f = refl
no_range_lem false within e f = clash_bool f

pub form_and_range : (form within : Bool) → form && within ≡ true → 0 ≡ form_then_range form within
form_and_range form within e = sym ((by_both form within).1 (both_true form within e))

-- a length past every range
pub too_long : (least most n : ℕ) → most < 0x1_0000_0000 → 0xFFFF_FFFF < n → false ≡ between least most (bias + n)
too_long least most n h l = rw (lt-leb (bias + n) most (omega arith)) (sym (and_off (leb least (bias + n))))

-- ---- a word or a string, by the kind's number

module _ (r : Record) (w : List ℕ) where
  word_by : (k : ℕ) → r.kind ≡ k → form_then_range (word_form k w) (word_within k r.least r.most w) ≡ value_number r (word w)
  unfolding value_number token_form token_within
  word_by k e = rw (← e)

  pub word_bool : r.kind ≡ 2 → form_then_range (is_bool w) true ≡ value_number r (word w)
  unfolding word_form word_within
  word_bool e = word_by 2 e

  pub word_int : r.kind ≡ 3 → form_then_range (is_int w) (int_lies r w) ≡ value_number r (word w)
  unfolding word_form word_within
  word_int e = word_by 3 e

  pub word_unquoted : r.kind ≡ 5 → form_then_range true (length_lies r w) ≡ value_number r (word w)
  unfolding word_form word_within
  word_unquoted e = word_by 5 e

  pub word_date : r.kind ≡ 6 → form_then_range (date_form w) (date_within w) ≡ value_number r (word w)
  unfolding word_form word_within
  word_date e = word_by 6 e

  pub word_time : r.kind ≡ 7 → form_then_range (time_form w) (time_within w) ≡ value_number r (word w)
  unfolding word_form word_within
  word_time e = word_by 7 e

  formless : (k : ℕ) → (k ≡ 2 → ⊥) → (k ≡ 3 → ⊥) → (k ≡ 5 → ⊥) → (k ≡ 6 → ⊥) → (k ≡ 7 → ⊥) → word_form k w ≡ false
  unfolding word_form
  formless k h2 h3 h5 h6 h7 = rw (ne_eqb k 2 h2, word_form, ne_eqb k 3 h3, ne_eqb k 5 h5, ne_eqb k 6 h6, ne_eqb k 7 h7)

  -- of no other kind is a word a value
  pub word_none : (r.kind ≡ 2 → ⊥) → (r.kind ≡ 3 → ⊥) → (r.kind ≡ 5 → ⊥) → (r.kind ≡ 6 → ⊥) → (r.kind ≡ 7 → ⊥) → 24 ≡ value_number r (word w)
  word_none h2 h3 h5 h6 h7 =
      no_form (word_form r.kind w) (word_within r.kind r.least r.most w) (formless r.kind h2 h3 h5 h6 h7) ∙ word_by r.kind refl

  pub string_by : form_then_range (eqb r.kind 4) (length_lies r w) ≡ value_number r (string w)
  unfolding value_number token_form token_within
  string_by = refl

-- past the records nothing is a value
pub value_blank : (w : List ℕ) (q : Bool) → 24 ≡ value_number blank (text_token q w)
unfolding blank value_number token_form word_form
value_blank w true = no_form false (token_within blank (string w)) refl
value_blank w false = no_form false (token_within blank (word w)) refl
