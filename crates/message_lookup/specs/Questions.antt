-- The questions of a reading, asked of a table's bytes.
use Rattle.std.specs.Prelude.{Bool, true, false, List, ℕ, ◌+◌, length, drop, Result, Ok, Err}
use Rattle.classes.specs.Bytes.{between}
use Rattle.numbers.specs.Limits.{bias}
use Rattle.numbers.specs.Rules.{rule_number}
use Rattle.numbers.specs.declared.Rule.{Rule}
use Rattle.numbers.specs.Decimal.{int_within}
use Rattle.reading_rules.specs.Token.{Token, word, string}
use Rattle.reading_rules.specs.Record.{Record, record_at}
use Rattle.reading_rules.specs.Schema as schema
use Rattle.reading_rules.specs.Schema.{Schema, schema_of, numbers_where, is_untagged_of}
use Rattle.table_records.specs.Stored.{records_at}
use Rattle.table_records.specs.declared.Records.{Records}
use Rattle.message_lookup.specs.declared.Shape.{Shape}
use Rattle.message_lookup.specs.declared.Shape.TheVariants.{Void, Simple, Struct, Union, Reference}

-- the rule's number, 0 where none is broken
abbrev pub broken_number : Result Unit Rule → ℕ
broken_number (Ok x) = 0
broken_number (Err r) = rule_number r

-- the answers of a table of n records
abbrev pub schema_at : List ℕ → List ℕ → ℕ → Schema
schema_at t unpacked n = schema_of (records_at t unpacked n)

-- the p-th of n records, or the blank one
abbrev pub nth : List ℕ → List ℕ → ℕ → ℕ → Record
nth t unpacked n p = record_at (records_at t unpacked n) p

-- what the code's shapes mean
abbrev pub shape_of : Shape → schema.Kind
shape_of Void = schema.void
shape_of Simple = schema.simple
shape_of Struct = schema.struct
shape_of Union = schema.union
shape_of Reference = schema.reference

-- the untagged fields of p from the i-th record on
abbrev pub untagged_from : List ℕ → List ℕ → ℕ → ℕ → ℕ → List ℕ
untagged_from t unpacked n p i = numbers_where (is_untagged_of p) i (drop i (records_at t unpacked n))

-- the same for a table's records
abbrev pub schema_of_records : Records → Schema
schema_of_records r = schema_at r.table.now r.unpacked.now r.count

abbrev pub untagged_in : Records → ℕ → ℕ → List ℕ
untagged_in r p i = untagged_from r.table.now r.unpacked.now r.count p i

-- a text with quotes or without
abbrev pub text_token : Bool → List ℕ → Token
text_token true w = string w
text_token false w = word w

-- "Ints and lengths lie in the type's range."
abbrev pub length_lies : Record → List ℕ → Bool
length_lies r w = between r.least r.most (bias + length w)

abbrev pub int_lies : Record → List ℕ → Bool
int_lies r w = int_within r.least r.most w
