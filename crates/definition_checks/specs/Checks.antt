-- The faults of one declaration with the numbers 5, 6, 8 (names) and 9 (references), each as a place.
use Rattle.std.specs.Prelude.{Bool, not, ◌&&◌, ◌||◌, List, [], ◌∷◌, ℕ, zero, suc, eqb, ltb, Option}
use Rattle.classes.specs.Lists.{same_bytes}
use Rattle.numbers.specs.Limits.{none16}
use Rattle.numbers.specs.Range.{high_of}
use Rattle.definition_rules.specs.Table.{number_up}
use Rattle.definition_rules.specs.Faults.{name_broken, reference_broken, tag_broken, range_broken, count_fine, dangling, Key, key, is_new_key}
use Rattle.definition_cells.specs.Cells.{cell_at, run_at, noted_at, name_cell, card_cell, carded_cell, parent_cell}
use Rattle.definition_cells.specs.Places.{lesser, at_if, spot_of}
use Rattle.definition_headings.specs.Heads.{declared_kind, counts_at, names_from}

-- 5: name, reference, tag
unfoldable pub form_fault : List ℕ → List ℕ → ℕ → Option ℕ
form_fault text cs i =
    lesser (spot_of name_broken (λ s. s.name_at) (noted_at text cs i))
    (lesser (spot_of reference_broken (λ s. s.type_at) (noted_at text cs i)) (spot_of tag_broken (λ s. s.tag_at) (noted_at text cs i)))

-- 6: a cardinality at a union's field
abbrev pub on_alternative : List ℕ → List ℕ → ℕ → ℕ → Bool
on_alternative text cs n i =
    not (eqb (cell_at cs i parent_cell) none16) && (ltb (cell_at cs i parent_cell) n && eqb (declared_kind text cs (cell_at cs i parent_cell)) 9) && eqb (cell_at cs i carded_cell) 1

-- 6: the cardinality's own faults
abbrev pub card_broken : List ℕ → List ℕ → ℕ → ℕ → Bool
card_broken text cs n i =
    not (count_fine (counts_at text cs i)) || ((eqb (declared_kind text cs i) 1 && ltb 1 (high_of (counts_at text cs i))) || on_alternative text cs n i)

unfoldable pub range_fault : List ℕ → List ℕ → ℕ → ℕ → Option ℕ
range_fault text cs n i = lesser (spot_of range_broken (λ s. s.range_at) (noted_at text cs i)) (at_if (card_broken text cs n i) (cell_at cs i card_cell))

-- 8: names
abbrev pub key_at : List ℕ → List ℕ → ℕ → Key
key_at text cs i = key (number_up (cell_at cs i parent_cell)) (run_at text cs i name_cell)

-- those of the first i, the last first
unfoldable pub keys_below : List ℕ → List ℕ → ℕ → List Key
keys_below text cs zero = []
keys_below text cs (suc i) = key_at text cs i ∷ keys_below text cs i

abbrev pub same_key_at : List ℕ → List ℕ → ℕ → ℕ → Bool
same_key_at text cs i j = eqb (cell_at cs i parent_cell) (cell_at cs j parent_cell) && same_bytes (run_at text cs i name_cell) (run_at text cs j name_cell)

unfoldable pub repeat_fault : List ℕ → List ℕ → ℕ → Option ℕ
repeat_fault text cs i = at_if (not (is_new_key (key_at text cs i) (keys_below text cs i))) (cell_at cs i name_cell)

-- 9: references
unfoldable pub dangling_fault : List ℕ → List ℕ → ℕ → ℕ → Option ℕ
dangling_fault text cs n i = spot_of (dangling (names_from text cs n 0)) (λ s. s.type_at) (noted_at text cs i)
