-- Records of a table: as they stand in its bytes, and unpacked, with their numbers kept in a row of cells.
use Rattle.std.specs.Prelude.{◌≡◌, Bool, ◌&&◌, List, [], ◌∷◌, ℕ, zero, suc, ◌+◌, ◌*◌, ◌≤◌, ◌<◌, ltb, leb, length, get_or, set, take, drop}
use Rattle.classes.specs.Lists.{pick}
use Rattle.numbers.specs.Limits.{parameter_limit}
use Rattle.numbers.specs.LittleEndian.{le16, le32}
use Rattle.reading_rules.specs.Record.{Record}
use Rattle.definition_rules.specs.Table.{record_of, number_up, flag1, flag2, flag4}

-- the record whose bytes begin at o
unfoldable pub stored_at : List ℕ → ℕ → Record
stored_at t o =
    record_of (le16 t (o + 2)) (le16 t (o + 4)) (le16 t (o + 6)) (le16 t (o + 8)) (le16 t (o + 10)) (le32 t (o + 12)) (le32 t (o + 16)) (le16 t (o + 20))
    (take (le16 t (o + 22)) (drop (o + 24) t))

-- ---- unpacked

-- a record's cells: where its bytes begin, and its numbers
abbrev pub record_cells : ℕ
record_cells = 10

-- where the k-th cell of the i-th record is
abbrev pub cell_place : ℕ → ℕ → ℕ
cell_place i k = record_cells * i + k

-- the cells of the i-th record are there, all of them; none is there past the limit
unfoldable pub is_there : List ℕ → ℕ → Bool
is_there cs i = ltb i parameter_limit && leb (cell_place i record_cells) (length cs)

-- what one of them holds; 0 where they are not there
unfoldable pub cell_in : List ℕ → ℕ → ℕ → ℕ
cell_in cs i k = pick (is_there cs i) (get_or cs (cell_place i k) 0) 0

-- the cells with another number in one of them
unfoldable pub kept_in : List ℕ → ℕ → ℕ → ℕ → List ℕ
kept_in cs i k x = pick (is_there cs i) (set cs (cell_place i k) x) cs

-- the i-th record, from its cells and its label in the table
unfoldable pub record_in : List ℕ → List ℕ → ℕ → Record
record_in t cs i =
    record {
      kind = cell_in cs i 1;
      parent = number_up (cell_in cs i 2);
      untagged = flag1 (cell_in cs i 3);
      extension = flag2 (cell_in cs i 3);
      plugin = flag4 (cell_in cs i 3);
      lo_count = cell_in cs i 4;
      hi_count = cell_in cs i 5;
      least = cell_in cs i 6;
      most = cell_in cs i 7;
      target = cell_in cs i 8;
      label = take (cell_in cs i 9) (drop (cell_in cs i 0 + 24) t);
    }

-- n records, from the i-th on
unfoldable pub records_from : List ℕ → List ℕ → ℕ → ℕ → List Record
records_from t cs zero i = []
records_from t cs (suc n) i = record_in t cs i ∷ records_from t cs n (suc i)

abbrev pub records_at : List ℕ → List ℕ → ℕ → List Record
records_at t cs n = records_from t cs n 0

-- what unpacking leaves: the i-th record is the one whose bytes begin at o, and the cells of those before it are as they were
pub record Unpacked (t : List ℕ) (o : ℕ) (before : List ℕ) (i : ℕ) (after : List ℕ) : Type 0 where
  pub here : record_in t after i ≡ stored_at t o
  pub place : cell_in after i 0 ≡ o
  pub sized : cell_in after i 9 ≡ le16 t (o + 22)
  pub others : (j k : ℕ) → j < i → k < record_cells → cell_in after j k ≡ cell_in before j k
  pub size : length after ≡ length before

-- how many bytes the i-th record has: its numbers and its label
abbrev pub length_in : List ℕ → ℕ → ℕ
length_in cs i = 24 + cell_in cs i 9

-- the records before the n-th lie in the table one after the other, each with its length at its head
pub record Laid (t cs : List ℕ) (n : ℕ) : Type 0 where
  pub headed : (k : ℕ) → k < n → le16 t (cell_in cs k 0) ≡ length_in cs k
  pub within : (k : ℕ) → k < n → cell_in cs k 0 + length_in cs k ≤ length t
  pub next : (k : ℕ) → k + 1 < n → cell_in cs (k + 1) 0 ≡ cell_in cs k 0 + length_in cs k
