-- The faults of all parameters as the definitions list them.
use mathlib.Core.Path.{◌≡◌, refl, ap, ◌∙◌}
use mathlib.Core.Bool.{Bool}
use mathlib.Core.List.{List}
use Prim.Native.Nat.{ℕ, zero, suc}
use Rattle.reading_rules.specs.Record.{Record}
use Rattle.definition_rules.specs.Declarations.{Spots}
use Rattle.definition_rules.specs.Faults.{record_spots}
use Rattle.definition_cells.specs.Cells.{cell_at, noted_at, noted_from}
use Rattle.definition_cells.specs.Places.{at_if, lesser, least_place, least_from}
use Rattle.definition_cells.proofs.PlaceLaws.{least_if}
use Rattle.table_records.specs.Stored.{record_in, records_from}

-- the spots of the records' faults, at the places that the declarations keep
module _ (f : ℕ → Record → Bool) (at : Spots → ℕ) (text cs t unpacked : List ℕ) where
  -- the place of the j-th declaration's spot
  abbrev place_of : ℕ → ℕ
  place_of j = at (record { type_at = cell_at cs j 0; range_at = cell_at cs j 2; name_at = cell_at cs j 4; card_at = cell_at cs j 6; tag_at = cell_at cs j 8 })

  pub spots_from : (n i : ℕ) → least_place (record_spots f at i (records_from t unpacked n i) (noted_from text cs n i)) ≡ least_from (λ j. at_if (f j (record_in t unpacked j)) (place_of j)) n i
  unfolding record_spots records_from noted_from noted_at least_from least_place
  spots_from zero i = refl
  spots_from (suc n) i = least_if (f i (record_in t unpacked i)) (place_of i) _ ∙ ap (lesser (at_if (f i (record_in t unpacked i)) (place_of i))) (spots_from n (suc i))
