-- What reading needs of a table, and that it is enough.
use mathlib.Core.Path.{◌≡◌, refl, ap, sym, ◌∙◌}
use mathlib.Core.Bool.{Bool, true, false, ◌&&◌}
use mathlib.Core.List.{List, [], ◌∷◌}
use Prim.Native.Nat.{ℕ, zero, suc, ◌+◌, ◌≤◌, ◌<◌}
use native.Mathlib.Omega.{arith}
use lib.Dec.{leb, ltb}
use lib.ListN.{length, get_or, get_or-eq_default}
use borrow.Author.Tests.{leb-true, leb-false}
use Rattle.classes.proofs.Rows.{same_true}
use Rattle.classes.specs.Lists.{every, same_bytes}
use Rattle.numbers.specs.Decimal.{is_digits, is_natural, is_int_like, is_int, is_minus, number_of}
use Rattle.reading_rules.specs.Token.{Token, word, string, equals, comma, opening, closing, is_text}
use Rattle.reading_rules.specs.Record.{Record, blank, record_at}
use Rattle.reading_rules.specs.Value.{word_form, token_form, token_within, form_then_range, value_number, Judgement, taken, formless, outside}
use Rattle.reading_rules.specs.Schema.{union, Found, nowhere, found, kind_of, numbers_where, is_untagged_of, is_tagged_of, is_tagged_as, first, first_where, schema_of, WellFormed}
use Rattle.reading_rules.proofs.CountLaws.{clash_bool, and_both}
use Rattle.reading_rules.proofs.Values.{value_0}

-- the record rules that a reading rests on
pub record ReadingRules (table : List Record) : Type 0 where
  -- "Cardinality: .. hi 1 to 65,534, or `*` for no limit"
  pub counted : (p : ℕ) → p < length table → 1 ≤ (record_at table p).hi_count
  -- "In a union, at most one field is untagged, .. an int by its own type"
  pub bare_is_int : (u q : ℕ) → kind_of (record_at table u).kind ≡ union → q < length table → is_untagged_of u (record_at table q) ≡ true → (record_at table q).kind ≡ 3
  -- "beside an untagged one .. no tag is an optional `-` with one or more digits only"
  pub no_digit_tags : (u q k : ℕ) → kind_of (record_at table u).kind ≡ union → q < length table → k < length table → is_untagged_of u (record_at table q) ≡ true → is_tagged_of u (record_at table k) ≡ true → is_int_like (record_at table k).label ≡ false

-- the first of the numbers of records for which the test holds
first_is : (f : Record → Bool) (i : ℕ) (table : List Record) (q : ℕ) → first (numbers_where f i table) ≡ found q → (n : ℕ) × (q ≡ i + n) × (n < length table) × (f (record_at table n) ≡ true)
unfolding numbers_where first record_at
first_is f i [] q e = let z : ◌≡◌ {A = ℕ} 0 1 = cc in absurd (omega arith)
first_is f i (r ∷ rs) q e = go (f r) refl e (first_is f (suc i) rs q)
  where
    go : (b : Bool) → f r ≡ b → first (elim b [ true ↦ i ∷ numbers_where f (suc i) rs | false ↦ numbers_where f (suc i) rs ]) ≡ found q → (first (numbers_where f (suc i) rs) ≡ found q → (n : ℕ) × (q ≡ suc i + n) × (n < length rs) × (f (record_at rs n) ≡ true)) → (n : ℕ) × (q ≡ i + n) × (n < suc (length rs)) × (f (record_at (r ∷ rs) n) ≡ true)
    go true p a k = let g : i ≡ q = cc in (0, omega arith, omega arith, p)
    go false p a k = let g = k a in (suc g.0, omega arith, omega arith, g.3)

-- a record that the search finds has the property
pub where_is : (f : Record → Bool) (i : ℕ) (table : List Record) (q : ℕ) → first_where f i table ≡ found q → (n : ℕ) × (q ≡ i + n) × (n < length table) × (f (record_at table n) ≡ true)
unfolding first_where record_at
where_is f i [] q e = let z : ◌≡◌ {A = ℕ} 0 1 = cc in absurd (omega arith)
where_is f i (r ∷ rs) q e = go (f r) refl e (where_is f (suc i) rs q)
  where
    go : (b : Bool) → f r ≡ b → elim b [ true ↦ found i | false ↦ first_where f (suc i) rs ] ≡ found q → (first_where f (suc i) rs ≡ found q → (n : ℕ) × (q ≡ suc i + n) × (n < length rs) × (f (record_at rs n) ≡ true)) → (n : ℕ) × (q ≡ i + n) × (n < suc (length rs)) × (f (record_at (r ∷ rs) n) ≡ true)
    go true p a k = let g : i ≡ q = cc in (0, omega arith, omega arith, p)
    go false p a k = let g = k a in (suc g.0, omega arith, omega arith, g.3)

-- and where it finds none, none has it
pub where_none : (f : Record → Bool) (i : ℕ) (table : List Record) → first_where f i table ≡ nowhere → (n : ℕ) → n < length table → f (record_at table n) ≡ false
unfolding first_where record_at
where_none f i [] e n h = absurd (omega arith)
where_none f i (r ∷ rs) e zero h = go (f r) refl e
  where
    go : (b : Bool) → f r ≡ b → elim b [ true ↦ found i | false ↦ first_where f (suc i) rs ] ≡ nowhere → f r ≡ false
    go true p a = let z : ◌≡◌ {A = ℕ} 0 1 = cc in absurd (omega arith)
    go false p a = p
where_none f i (r ∷ rs) e (suc n) h = go (f r) refl e (λ a. where_none f (suc i) rs a n (omega arith))
  where
    go : (b : Bool) → f r ≡ b → elim b [ true ↦ found i | false ↦ first_where f (suc i) rs ] ≡ nowhere → (first_where f (suc i) rs ≡ nowhere → f (record_at rs n) ≡ false) → f (record_at rs n) ≡ false
    go true p a k = let z : ◌≡◌ {A = ℕ} 0 1 = cc in absurd (omega arith)
    go false p a k = k a

-- "one wire tag twice in a body" does not happen: then the field with a tag is the one that the search finds
pub tag_found : (table : List Record) → ((p i j : ℕ) (w : List ℕ) → i < length table → j < length table → is_tagged_as p w (record_at table i) ≡ true → is_tagged_as p w (record_at table j) ≡ true → i ≡ j) → (p k : ℕ) (w : List ℕ) → k < length table → is_tagged_as p w (record_at table k) ≡ true → (schema_of table).find p w ≡ found k
unfolding schema_of
tag_found table apart p k w h e = go (first_where (is_tagged_as p w) 0 table) refl
  where
    go : (f : Found) → first_where (is_tagged_as p w) 0 table ≡ f → first_where (is_tagged_as p w) 0 table ≡ found k
    go nowhere a = clash_bool (sym (where_none (is_tagged_as p w) 0 table a k h) ∙ e)
    go (found j) a =
        let g = where_is (is_tagged_as p w) 0 table j a in
        let m : g.0 ≡ k = apart p g.0 k w g.2 h g.3 e in
        a ∙ ap found (omega (arith, g.1, m))

-- an int's word is digits with an optional `-`
natural_digits : (l : List ℕ) → is_natural l ≡ true → is_digits l ≡ true
unfolding is_natural is_digits every
natural_digits [] e = clash_bool e
natural_digits (b ∷ []) e = rw e
natural_digits (b ∷ c ∷ l) e = and_both (ltb 48 b) _ e (λ p q. q)

int_like_lem : (w : List ℕ) → is_int w ≡ true → is_int_like w ≡ true
unfolding is_int is_int_like
int_like_lem [] e = clash_bool e
int_like_lem (b ∷ l) e = go (is_minus b) e
  where
    go : (m : Bool) → elim m [ true ↦ is_natural l && ltb 0 (number_of l) | false ↦ is_natural (b ∷ l) ] ≡ true → elim m [ true ↦ is_digits l | false ↦ is_digits (b ∷ l) ] ≡ true
    go true a = and_both (is_natural l) _ a (λ p q. natural_digits l p)
    go false a = natural_digits (b ∷ l) a

form_judged : (a b : Bool) → Judgement (form_then_range a b)
unfolding form_then_range
form_judged true true = taken
form_judged true false = outside
form_judged false b = formless

value_spoken : (r : Record) (t : Token) → value_number r t ≡ 0 → is_text t ≡ true
unfolding value_number form_then_range token_form is_text
value_spoken r (word w) e = refl
value_spoken r (string w) e = refl
value_spoken r equals e = absurd (omega arith)
value_spoken r comma e = absurd (omega arith)
value_spoken r opening e = absurd (omega arith)
value_spoken r closing e = absurd (omega arith)

value_judged : (r : Record) (t : Token) → Judgement (value_number r t)
unfolding value_number
value_judged r t = form_judged (token_form r t) (token_within r t)

int_spoken : (r : Record) (w : List ℕ) → r.kind ≡ 3 → value_number r (word w) ≡ 0 → is_int_like w ≡ true
unfolding token_form word_form
int_spoken r w k e =
    let a = ((value_0 r (word w)).0 e).0 in
    let b : is_int w ≡ true = rw k at a in
    int_like_lem w b

counts_some : (table : List Record) → ((p : ℕ) → p < length table → 1 ≤ (record_at table p).hi_count) → (p : ℕ) → 1 ≤ (record_at table p).hi_count
unfolding record_at blank
counts_some table h p = go (leb (length table) p) refl
  where
    go : (b : Bool) → leb (length table) p ≡ b → 1 ≤ (get_or table p blank).hi_count
    go true e = rw (get_or-eq_default table blank (leb-true (length table) p e)) (omega arith)
    go false e = h p (leb-false (length table) p e)

pub well_formed : (table : List Record) → ReadingRules table → WellFormed (schema_of table)
unfolding schema_of
well_formed table R =
    record {
      some = counts_some table R.counted;
      spoken = λ q t e. value_spoken (record_at table q) t e;
      numbered = λ q t. value_judged (record_at table q) t;
      bare_form = λ u q w k b e.
          let g = first_is (is_untagged_of u) 0 table q b in
          let m : q ≡ g.0 = omega (arith, g.1) in
          int_spoken (record_at table q) w (R.bare_is_int u q k (omega (arith, g.1, g.2)) (rw m g.3)) e;
      bare_tags = λ u q k w n b e.
          let g = first_is (is_untagged_of u) 0 table q b in
          let h = where_is (is_tagged_as u w) 0 table k e in
          let m : q ≡ g.0 = omega (arith, g.1) in
          let j : k ≡ h.0 = omega (arith, h.1) in
          and_both (is_tagged_of u (record_at table h.0)) (same_bytes (record_at table h.0).label w) h.3 (λ x y.
          rw (← (same_true (record_at table h.0).label w y)) (R.no_digit_tags u g.0 h.0 n g.2 h.2 g.3 x));
    }
