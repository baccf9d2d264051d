-- What is wanted where a value was refused.
use Rattle.std.specs.Prelude.{Bool, ◌&&◌, ◌||◌, cond, List, ◌++◌, ℕ, eqb, ltb}
use Rattle.definition_rules.specs.Table.{up_number}
use Rattle.table_records.specs.Stored.{record_in}
use Rattle.cli_wording.specs.Sayings.{bytes, kind_name}
use Rattle.cli_report.specs.Shown.{int_text, bounds_text}

-- the record that has a parameter's kind, range and body
unfoldable pub resolved_in : List ℕ → List ℕ → ℕ → ℕ
resolved_in t cs p = cond (eqb (record_in t cs p).kind 10) (record_in t cs p).target p

-- "int<1..99999>", "date"
unfoldable pub type_text : ℕ → ℕ → ℕ → List ℕ
type_text kind least most =
    cond (ltb kind 3 || ltb 5 kind) (kind_name kind) (kind_name kind ++ bytes "<" ++ bounds_text least most ++ bytes ">")

abbrev pub type_of : List ℕ → List ℕ → ℕ → List ℕ
type_of t cs p = type_text (record_in t cs p).kind (record_in t cs p).least (record_in t cs p).most

-- the int that a union takes without a tag
abbrev pub is_choice : List ℕ → List ℕ → ℕ → Bool
is_choice t cs p = (record_in t cs p).untagged && eqb (record_in t cs (up_number (record_in t cs p).parent)).kind 9

-- "1 to 99999"
unfoldable pub span_text : ℕ → ℕ → List ℕ
span_text least most = int_text least ++ bytes " to " ++ int_text most

-- what a type allows: ", from 1 to 99999", ", 1 to 8 bytes", the days of the calendar, the times of a day
unfoldable pub allowed_text : ℕ → ℕ → ℕ → List ℕ
allowed_text kind least most =
    cond (eqb kind 3) (bytes ", from " ++ span_text least most)
    (cond (eqb kind 6) (bytes ", a day from 00010101 to 99991231")
    (cond (eqb kind 7) (bytes ", from 000000 to 235959") (bytes ", " ++ span_text least most ++ bytes " bytes")))

abbrev pub allowed_of : List ℕ → List ℕ → ℕ → List ℕ
allowed_of t cs p = allowed_text (record_in t cs p).kind (record_in t cs p).least (record_in t cs p).most

-- in place of a union's int a tag of the union can stand
unfoldable pub choice_text : Bool → List ℕ
choice_text choice = cond choice (bytes ", or a tag of the union\n") (bytes "\n")

-- 24: "wanted: int<1..99999> id"
unfoldable pub wanted_text : List ℕ → List ℕ → ℕ → List ℕ
wanted_text t cs p =
    bytes "wanted: " ++ type_of t cs (resolved_in t cs p) ++ bytes " " ++ (record_in t cs p).label ++ choice_text (is_choice t cs p)

-- 30: "wanted: int id, from 1 to 99999"
unfoldable pub wanted_range_text : List ℕ → List ℕ → ℕ → List ℕ
wanted_range_text t cs p =
    bytes "wanted: " ++ kind_name (record_in t cs (resolved_in t cs p)).kind ++ bytes " " ++ (record_in t cs p).label
    ++ allowed_of t cs (resolved_in t cs p) ++ choice_text (is_choice t cs p)
