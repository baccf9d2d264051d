-- The questions that the rules of a reading ask about a definition, and their answers from a table.
use Rattle.std.specs.Prelude.{◌≡◌, Bool, true, false, not, ◌&&◌, ◌||◌, List, [], ◌∷◌, ℕ, suc, ◌≤◌, eqb, leb}
use Rattle.numbers.specs.Limits.{no_limit}
use Rattle.classes.specs.Lists.{same_bytes}
use Rattle.numbers.specs.Decimal.{is_int_like}
use Rattle.reading_rules.specs.Token.{Token, word, is_text}
use Rattle.reading_rules.specs.Record.{Up, top, under, Record, record_at}
use Rattle.reading_rules.specs.Value.{value_number, Judgement}

pub data Kind : Type 0 where
  void simple struct union reference : Kind

unfoldable pub is_void : Kind → Bool
is_void void = true
is_void simple = false
is_void struct = false
is_void union = false
is_void reference = false

-- a parameter that a search found, or none
pub data Found : Type 0 where
  nowhere : Found
  found : ℕ → Found

pub record Schema : Type 0 where
  -- the parameter's own kind
  pub kind : ℕ → Kind
  -- "A reference reads as its target.": the target, else the parameter itself
  pub core : ℕ → ℕ
  -- the untagged fields of a struct, in order
  pub untagged : ℕ → List ℕ
  -- the tagged fields of a struct or union
  pub tagged : ℕ → List ℕ
  -- the untagged int of a union
  pub bare : ℕ → Found
  -- the field or alternative with this wire tag
  pub find : ℕ → List ℕ → Found
  -- "its list has lo to hi values"
  pub lo : ℕ → ℕ
  pub hi : ℕ → ℕ
  -- "directly in an extension" or "plugin"
  pub optional : ℕ → Bool
  -- the number that refuses a token as a value of a simple type; 0 takes it
  pub judge : ℕ → Token → ℕ

-- n is not over the hi count
unfoldable pub at_most : ℕ → ℕ → Bool
at_most hi n = eqb hi no_limit || leb n hi

-- "Kinds 1 to 10: void, bool, int, ascii, unquoted-ascii, date, time, struct, union, reference."
unfoldable pub kind_of : ℕ → Kind
kind_of k = elim (eqb k 1) [
  | true ↦ void
  | false ↦ elim (eqb k 8) [
    | true ↦ struct
    | false ↦ elim (eqb k 9) [
      | true ↦ union
      | false ↦ elim (eqb k 10) [ true ↦ reference | false ↦ simple ]
    ]
  ]
]

unfoldable pub core_of : ℕ → ℕ → Kind → ℕ
core_of p target void = p
core_of p target simple = p
core_of p target struct = p
core_of p target union = p
core_of p target reference = target

unfoldable pub is_under : ℕ → Up → Bool
is_under p top = false
is_under p (under q) = eqb q p

-- the numbers from i on, of the records for which the test holds
unfoldable pub numbers_where : (Record → Bool) → ℕ → List Record → List ℕ
numbers_where f i [] = []
numbers_where f i (r ∷ rs) = elim (f r) [ true ↦ i ∷ numbers_where f (suc i) rs | false ↦ numbers_where f (suc i) rs ]

abbrev pub is_untagged_of : ℕ → Record → Bool
is_untagged_of p r = is_under p r.parent && r.untagged

abbrev pub is_tagged_of : ℕ → Record → Bool
is_tagged_of p r = is_under p r.parent && not r.untagged

unfoldable pub first : List ℕ → Found
first [] = nowhere
first (q ∷ qs) = found q

-- the first record from i on for which the test holds
unfoldable pub first_where : (Record → Bool) → ℕ → List Record → Found
first_where f i [] = nowhere
first_where f i (r ∷ rs) = elim (f r) [ true ↦ found i | false ↦ first_where f (suc i) rs ]

abbrev pub is_tagged_as : ℕ → List ℕ → Record → Bool
is_tagged_as p w r = is_tagged_of p r && same_bytes r.label w

unfoldable pub schema_of : List Record → Schema
schema_of table =
    record {
      kind = λ p. kind_of (record_at table p).kind;
      core = λ p. core_of p (record_at table p).target (kind_of (record_at table p).kind);
      untagged = λ p. numbers_where (is_untagged_of p) 0 table;
      tagged = λ p. numbers_where (is_tagged_of p) 0 table;
      bare = λ p. first (numbers_where (is_untagged_of p) 0 table);
      find = λ p w. first_where (is_tagged_as p w) 0 table;
      lo = λ p. (record_at table p).lo_count;
      hi = λ p. (record_at table p).hi_count;
      optional = λ p. (record_at table p).extension || (record_at table p).plugin;
      judge = λ p t. value_number (record_at table p) t;
    }

-- What the theorems on reading ask of a schema.
pub record WellFormed (S : Schema) : Type 0 where
  -- "hi 1 to 65,534, or `*`"
  pub some : (q : ℕ) → 1 ≤ S.hi q
  -- a simple value is a word or a string
  pub spoken : (q : ℕ) (t : Token) → S.judge q t ≡ 0 → is_text t ≡ true
  -- what isn't a value of the type has the number 24 or 30
  pub numbered : (q : ℕ) (t : Token) → Judgement (S.judge q t)
  -- the untagged alternative is an int: what it takes is digits with an optional `-`
  pub bare_form : (u q : ℕ) (w : List ℕ) → S.kind u ≡ union → S.bare u ≡ found q → S.judge q (word w) ≡ 0 → is_int_like w ≡ true
  -- "beside an untagged one .. no tag is an optional `-` with one or more digits only"
  pub bare_tags : (u q k : ℕ) (w : List ℕ) → S.kind u ≡ union → S.bare u ≡ found q → S.find u w ≡ found k → is_int_like w ≡ false
