-- What the heading of declaration i says, of the n declarations that are kept.
use Rattle.std.specs.Prelude.{Bool, ◌&&◌, List, ℕ, eqb}
use Rattle.classes.specs.Lists.{same_bytes}
use Rattle.numbers.specs.Limits.{none16}
use Rattle.numbers.specs.Range.{MaybeRange}
use Rattle.definition_rules.specs.Words.{kind_of_run}
use Rattle.definition_rules.specs.Forms.{MaybeRun}
use Rattle.definition_rules.specs.Declarations.{declarations_of}
use Rattle.definition_rules.specs.Records.{limits_of, count_range_of, top_names, find_top, or_none, target_of, label_of}
use Rattle.definition_cells.specs.Cells.{cell_at, run_at, tag_at, maybe_run_at, noted_from, type_cell, range_cell, name_cell, card_cell, ranged_cell, carded_cell, parent_cell}

abbrev pub declared_kind : List ℕ → List ℕ → ℕ → ℕ
declared_kind text cs i = kind_of_run (run_at text cs i type_cell)

abbrev pub limits_at : List ℕ → List ℕ → ℕ → MaybeRange
limits_at text cs i = limits_of (declared_kind text cs i) (maybe_run_at text cs i ranged_cell range_cell)

abbrev pub counts_at : List ℕ → List ℕ → ℕ → MaybeRange
counts_at text cs i = count_range_of (maybe_run_at text cs i carded_cell card_cell)

abbrev pub label_at : List ℕ → List ℕ → ℕ → List ℕ
label_at text cs i = label_of (run_at text cs i name_cell) (tag_at text cs i)

-- a top with that name
abbrev pub is_named_at : List ℕ → List ℕ → ℕ → List ℕ → Bool
is_named_at text cs j w = eqb (cell_at cs j parent_cell) none16 && same_bytes (run_at text cs j name_cell) w

-- the names of tops, from the i-th declaration on
abbrev pub names_from : List ℕ → List ℕ → ℕ → ℕ → List MaybeRun
names_from text cs n i = top_names (declarations_of (noted_from text cs n i))

-- the number of the top with that name, 65,535 where there is none
abbrev pub top_at : List ℕ → List ℕ → ℕ → List ℕ → ℕ
top_at text cs n w = or_none (find_top (names_from text cs n 0) 0 w)

abbrev pub target_at : List ℕ → List ℕ → ℕ → ℕ → ℕ
target_at text cs n i = target_of (names_from text cs n 0) (declared_kind text cs i) (run_at text cs i type_cell)
