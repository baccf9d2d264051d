-- What a list of ints takes.
use Rattle.std.specs.Prelude.{◌≡◌, true, List, ℕ, ◌≤◌, ◌<◌}
use Rattle.numbers.specs.Decimal.{number_of, is_natural}
use Rattle.numbers.specs.Packed.{Packed, packed_limit}
use Rattle.reading_rules.specs.Token.{word}
use Rattle.reading_rules.specs.Schema.{Schema, simple}
use Rattle.reading_rules.specs.Parse.{may_grow}
use Rattle.message_lookup.specs.declared.Ints.{Ints}

-- the field p has simple values, and at most eight digits without leading zero that, packed, lie in the range are one;
-- fewer than e.hi values may have one more
pub record IntsOf (S : Schema) (p : ℕ) (e : Ints) : Type 0 where
  pub plain : S.kind (S.core p) ≡ simple
  pub judged : (w : List ℕ) (d : ℕ) → is_natural w ≡ true → Packed (number_of w) d → d < packed_limit → e.least ≤ d → d ≤ e.most → S.judge (S.core p) (word w) ≡ 0
  pub grows : (c : ℕ) → c < e.hi → may_grow (S.hi p) c ≡ true
