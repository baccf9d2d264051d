-- What a list of ints takes, from the record of its type.
use mathlib.Core.Path.{◌≡◌, refl, sym, ap, ◌∙◌}
use mathlib.Core.Bool.{Bool, true, false, ◌||◌}
use mathlib.Core.List.{List}
use Prim.Native.Nat.{ℕ, ◌+◌, ◌-◌, ◌≤◌, ◌<◌}
use native.Mathlib.Omega.{arith}
use lib.Dec.{eqb}
use borrow.Author.Tests.{le-leb, lt-ltb}
use Rattle.numbers.specs.Limits.{bias, no_limit}
use Rattle.numbers.specs.Decimal.{number_of, is_natural, is_int}
use Rattle.numbers.specs.Packed.{PackedBound}
use Rattle.numbers.proofs.Digits.{int_plain, within_number, natural_first}
use Rattle.reading_rules.specs.Token.{word}
use Rattle.reading_rules.specs.Record.{Record}
use Rattle.reading_rules.specs.Schema.{schema_of, kind_of, simple}
use Rattle.reading_rules.specs.Value.{value_number}
use Rattle.reading_rules.specs.Parse.{may_grow}
use Rattle.table_records.specs.Stored.{record_in}
use Rattle.message_lookup.specs.Questions.{schema_at, int_lies}
use Rattle.message_lookup.specs.IntList.{IntsOf}
use Rattle.message_lookup.proofs.Steps.{here}
use Rattle.message_lookup.proofs.Judging.{form_and_range, word_int}

natural_int : (r : Record) (w : List ℕ) → r.kind ≡ 3 → is_natural w ≡ true → r.least ≤ bias + number_of w → bias + number_of w ≤ r.most → 0 ≡ value_number r (word w)
natural_int r w k e a b =
    let f = natural_first w e in
    form_and_range (is_int w) (int_lies r w) (rw (int_plain w f.0, e, within_number w f.0 r.least r.most f.1, le-leb r.least (bias + number_of w) a, le-leb (bias + number_of w) r.most b))
    ∙ word_int r w k

pub no_limit_lem : (hi c : ℕ) → hi ≡ no_limit → may_grow hi c ≡ true
unfolding may_grow
no_limit_lem hi c e = rw e

pub under_limit : (hi c : ℕ) → c < hi → may_grow hi c ≡ true
unfolding may_grow
under_limit hi c h = rw (lt-ltb c hi h) (or_true (eqb hi no_limit))
  where
    or_true : (b : Bool) → b || true ≡ true
    or_true true = refl
    or_true false = refl

module _ (t unpacked : List ℕ) (n p u : ℕ) (c : u ≡ (schema_at t unpacked n).core p) (l : u < n) where
  plain_kind : (record_in t unpacked u).kind ≡ 3 → (schema_at t unpacked n).kind u ≡ simple
  unfolding schema_of kind_of
  plain_kind k = sym (here (λ (r : Record). kind_of r.kind) t unpacked n u l (sym (ap kind_of k)))

  word_judged : (record_in t unpacked u).kind ≡ 3 → (w : List ℕ) → is_natural w ≡ true → (record_in t unpacked u).least ≤ bias + number_of w → bias + number_of w ≤ (record_in t unpacked u).most → (schema_at t unpacked n).judge u (word w) ≡ 0
  unfolding schema_of
  word_judged k w e a b = sym (here (λ (r : Record). value_number r (word w)) t unpacked n u l (natural_int (record_in t unpacked u) w k e a b))

  pub ints_some : (low high least most hi many : ℕ) → (record_in t unpacked u).kind ≡ 3 → bias ≤ (record_in t unpacked u).most → low ≡ (record_in t unpacked u).least - bias → high ≡ (record_in t unpacked u).most - bias → PackedBound low least → PackedBound high most → hi ≡ (schema_at t unpacked n).hi p → ((c : ℕ) → c < many → may_grow hi c ≡ true) → IntsOf (schema_at t unpacked n) p (record { least = least; most = most; hi = many })
  ints_some low high least most hi many k o a b f g h m = record {
    plain = rw (← c) (plain_kind k);
    judged = λ w d v z l i j. rw (← c) (word_judged k w v (omega (arith, f.least (number_of w) d z l i)) (omega (arith, g.most (number_of w) d z l j, o)));
    grows = λ c l. ap (λ x. may_grow x c) (sym h) ∙ m c l;
  }
