-- The declarations of a definition as the compiler keeps them: a row of numbers, cell_width for each declaration.
use Rattle.std.specs.Prelude.{List, [], ◌∷◌, ℕ, zero, suc, ◌+◌, ◌*◌, eqb, get_or}
use Rattle.classes.specs.Lists.{pick, part}
use Rattle.definition_rules.specs.Forms.{MaybeRun, absent, given, Tag, own_name, tagless, explicit, heading}
use Rattle.definition_rules.specs.Declarations.{declaration, Noted, noted}
use Rattle.definition_rules.specs.Table.{number_up}

-- how many numbers a declaration has
abbrev pub cell_width : ℕ
cell_width = 16

-- Where its runs start and end in the text: each of these cells has a run's start, the one after it the run's end.
-- A run that is not there has the place of the type (range) or of the name (cardinality, tag).
abbrev pub type_cell : ℕ
type_cell = 0

abbrev pub range_cell : ℕ
range_cell = 2

abbrev pub name_cell : ℕ
name_cell = 4

abbrev pub card_cell : ℕ
card_cell = 6

abbrev pub tag_cell : ℕ
tag_cell = 8

-- 1 where a range and a cardinality are given
abbrev pub ranged_cell : ℕ
ranged_cell = 10

abbrev pub carded_cell : ℕ
carded_cell = 11

-- 0 for its own name as tag, 1 for untagged, 2 for an explicit tag
abbrev pub tagged_cell : ℕ
tagged_cell = 12

-- 1 for plugin, 1 directly in an extension
abbrev pub plugged_cell : ℕ
plugged_cell = 13

abbrev pub extended_cell : ℕ
extended_cell = 14

-- its parent's number or none
abbrev pub parent_cell : ℕ
parent_cell = 15

abbrev pub cell_at : List ℕ → ℕ → ℕ → ℕ
cell_at cs i k = get_or cs (cell_width * i + k) 0

-- the run whose start is the declaration's k-th number
unfoldable pub run_at : List ℕ → List ℕ → ℕ → ℕ → List ℕ
run_at text cs i k = part text (cell_at cs i k) (cell_at cs i (k + 1))

unfoldable pub tag_at : List ℕ → List ℕ → ℕ → Tag
tag_at text cs i = pick (eqb (cell_at cs i tagged_cell) 0) own_name (pick (eqb (cell_at cs i tagged_cell) 1) tagless (explicit (run_at text cs i tag_cell)))

unfoldable pub maybe_run_at : List ℕ → List ℕ → ℕ → ℕ → ℕ → MaybeRun
maybe_run_at text cs i flag k = pick (eqb (cell_at cs i flag) 1) (given (run_at text cs i k)) absent

-- a declaration with the places of its runs
unfoldable pub noted_at : List ℕ → List ℕ → ℕ → Noted
noted_at text cs i =
    noted
    (record { type_at = cell_at cs i type_cell; range_at = cell_at cs i range_cell; name_at = cell_at cs i name_cell; card_at = cell_at cs i card_cell; tag_at = cell_at cs i tag_cell })
    (declaration (number_up (cell_at cs i parent_cell)) (eqb (cell_at cs i extended_cell) 1)
    (heading (run_at text cs i type_cell) (maybe_run_at text cs i ranged_cell range_cell) (run_at text cs i name_cell) (maybe_run_at text cs i carded_cell card_cell) (tag_at text cs i) (eqb (cell_at cs i plugged_cell) 1)))

-- n declarations from the i-th on
unfoldable pub noted_from : List ℕ → List ℕ → ℕ → ℕ → List Noted
noted_from text cs zero i = []
noted_from text cs (suc n) i = noted_at text cs i ∷ noted_from text cs n (suc i)
