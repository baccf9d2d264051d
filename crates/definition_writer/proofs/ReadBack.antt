-- What was written is read back: the bytes are the table's, and the records in them are those that were written.
use mathlib.Core.Path.{◌≡◌, refl, sym, ap, ◌∙◌}
use mathlib.Core.Bool.{Bool, true, false}
use mathlib.Core.List.{List, [], ◌∷◌, ◌++◌}
use Prim.Native.Nat.{ℕ, zero, suc, ◌+◌, ◌*◌, ◌%◌, ◌≤◌}
use native.Mathlib.Omega.{arith}
use lib.ListN.{length, take, drop}
use lib.Seq.{take_at}
use Rattle.classes.specs.Lists.{All}
use Rattle.numbers.specs.Limits.{none16}
use Rattle.numbers.specs.LittleEndian.{put16, put32}
use Rattle.reading_rules.specs.Record.{Record}
use Rattle.definition_rules.specs.Forms.{MaybeRun}
use Rattle.definition_rules.specs.Declarations.{declarations_of}
use Rattle.definition_rules.specs.Records.{top_names, records_for, records_of}
use Rattle.definition_cells.specs.Cells.{noted_at, noted_from}
use Rattle.definition_rules.specs.Table.{up_number, bit, flags_number, encode_record, encode, just, decode}
use Rattle.definition_rules.proofs.TableLaws.{decode_encode}
use Rattle.definition_writer.specs.Written.{records_written, cut_bytes, encode_cut, WroteRecords}
use Rattle.definition_writer.proofs.WriteLaws.{sets_front, encode_length}
use Rattle.definition_writer.proofs.Widths.{Fit, Narrow, all_narrow, all_storable}

-- ---- nothing was cut

cut_same : (n : ℕ) → n ≤ none16 → n % 65536 ≡ n
cut_same n h = omega arith

cut_record : (r : Record) (s : List ℕ) → Narrow r → cut_bytes r ++ s ≡ encode_record r s
unfolding cut_bytes encode_record put16 put32
cut_record r s h =
    rw (
      cut_same (24 + length r.label) (omega (arith, h.labels)),
      cut_same r.kind h.kinds,
      cut_same (up_number r.parent) h.parents,
      flags_small r.untagged r.extension r.plugin,
      cut_same r.lo_count h.los,
      cut_same r.hi_count h.his,
      cut_same r.target h.targets,
      cut_same (length r.label) (omega (arith, h.labels)),
    )
  where
    flags_small : (a b c : Bool) → flags_number a b c % 65536 ≡ flags_number a b c
    flags_small a b c = unfold flags_number in omega (arith, small a, small b, small c)
      where
        small : (b : Bool) → bit b ≤ 1
        small true = unfold bit in omega arith
        small false = unfold bit in omega arith

pub encode_cut_lem : (rs : List Record) → All Narrow rs → encode_cut rs ≡ encode rs
unfolding encode_cut encode All
encode_cut_lem [] h = refl
encode_cut_lem (r ∷ rs) h = rw (encode_cut_lem rs h.1) (cut_record r (encode rs) h.0)

pub encode_size : (rs : List Record) → All Narrow rs → length (encode rs) ≤ 87 * length rs
unfolding encode All
encode_size [] h = omega arith
encode_size (r ∷ rs) h = omega (arith, encode_length r (encode rs), h.0.labels, encode_size rs h.1)

-- ---- all records

records_length : (T : List MaybeRun) (t cs : List ℕ) (n i : ℕ) → length (records_for T (declarations_of (noted_from t cs n i))) ≡ n
unfolding noted_from noted_at declarations_of records_for
records_length T t cs zero i = refl
records_length T t cs (suc n) i = ap suc (records_length T t cs n (suc i))

pub records_count : (t cs : List ℕ) (n : ℕ) → length (records_written t cs n) ≡ n
unfolding records_of
records_count t cs n = records_length (top_names (declarations_of (noted_from t cs n 0))) t cs n 0

-- ---- the table after the writer, where it is large enough

pub record Held (rs : List Record) (n len : ℕ) (table table_after : List ℕ) : Type 0 where
  pub size : len ≡ length (encode rs)
  pub most : len ≤ 87 * n
  pub bytes : table_after ≡ encode rs ++ drop len table
  pub count : length rs ≡ n
  pub back : decode (take len table_after) ≡ just rs

pub held : (t cs : List ℕ) (n len : ℕ) (table table_after : List ℕ) → Fit t cs n → 87 * n ≤ length table
    → WroteRecords (records_written t cs n) len table table_after → Held (records_written t cs n) n len table table_after
held t cs n len table table_after f big w = record { size = w.size; most = few; bytes = whole ∙ rw (← w.size); count = count; back = all }
  where
    rs : List Record
    rs = records_written t cs n

    count : length rs ≡ n
    count = records_count t cs n

    few : len ≤ 87 * n
    few = omega (arith, w.size, encode_size rs (all_narrow t cs n f), count)

    whole : table_after ≡ encode rs ++ drop (length (encode rs)) table
    whole = w.bytes ∙ rw (encode_cut_lem rs (all_narrow t cs n f)) (sets_front (encode rs) table (omega (arith, w.size, few, big)))

    all : decode (take len table_after) ≡ just rs
    all = ap decode (ap (take len) whole ∙ take_at (encode rs) (drop (length (encode rs)) table) len (sym w.size)) ∙ decode_encode rs (all_storable t cs n)
