-- The records of the declarations that are kept, and their bytes as they are written.
use Rattle.std.specs.Prelude.{◌≡◌, List, [], ◌∷◌, ◌++◌, ℕ, ◌+◌, ◌-◌, ◌%◌, length}
use Rattle.std.proofs.lemmas.List.Edits.{sets}
use Rattle.numbers.specs.LittleEndian.{put16, put32, signed}
use Rattle.reading_rules.specs.Record.{Record}
use Rattle.definition_rules.specs.Declarations.{Declaration, Noted, noted, declarations_of}
use Rattle.definition_rules.specs.Records.{record_for, records_for, records_of}
use Rattle.definition_rules.specs.Table.{up_number, flags_number, encode}
use Rattle.definition_cells.specs.Cells.{noted_at, noted_from}
use Rattle.definition_headings.specs.Heads.{names_from}

unfoldable pub declaration_in : Noted → Declaration
declaration_in (noted s d) = d

-- the record of declaration i, of n
unfoldable pub record_written : List ℕ → List ℕ → ℕ → ℕ → Record
record_written text cs n i = record_for (names_from text cs n 0) (declaration_in (noted_at text cs i))

-- all records
abbrev pub records_written : List ℕ → List ℕ → ℕ → List Record
records_written text cs n = records_of (declarations_of (noted_from text cs n 0))

-- those from declaration i on
unfoldable pub records_after : List ℕ → List ℕ → ℕ → ℕ → List Record
records_after text cs n i = records_for (names_from text cs n 0) (declarations_of (noted_from text cs (n - i) i))

abbrev pub low16 : ℕ → ℕ
low16 n = n % 65536

-- a record's bytes, with each u16 cut to 16 bits
unfoldable pub cut_bytes : Record → List ℕ
cut_bytes r =
    put16 (low16 (24 + length r.label))
    (put16 (low16 r.kind)
    (put16 (low16 (up_number r.parent))
    (put16 (low16 (flags_number r.untagged r.extension r.plugin))
    (put16 (low16 r.lo_count)
    (put16 (low16 r.hi_count)
    (put32 (signed r.least)
    (put32 (signed r.most)
    (put16 (low16 r.target)
    (put16 (low16 (length r.label)) r.label)))))))))

unfoldable pub encode_cut : List Record → List ℕ
encode_cut [] = []
encode_cut (r ∷ rs) = cut_bytes r ++ encode_cut rs

-- what the writer leaves: the length of all, and the table
pub record WroteRecords (rs : List Record) (len : ℕ) (table table_after : List ℕ) : Type 0 where
  pub size : len ≡ length (encode rs)
  pub bytes : table_after ≡ sets table 0 (encode_cut rs)
