-- A value of a list of ints that is plain digits.
use Rattle.std.specs.Prelude.{◌≡◌, Option, Some, None, List, [], ◌∷◌, ℕ, ◌+◌, ◌*◌, ◌≤◌, ◌<◌}
use Rattle.std.proofs.lemmas.List.Edits.{sets}
use Rattle.numbers.specs.Limits.{row_width}
use Rattle.numbers.specs.Packed.{packed_limit}
use Rattle.reading_rules.specs.Schema.{Schema}
use Rattle.reading_rules.specs.Schema as schema
use Rattle.reading_rules.specs.Parse.{simple_at}
use Rattle.message_rules.specs.Rows.{cells}
use Rattle.message_unknown.specs.Along.{tokens_at}
use Rattle.message_lookup.specs.declared.Ints.{Ints}
use Rattle.message_frame.specs.Ends.{EndedValue}
use Rattle.message_lists.specs.Lists.{Grows}
use Rattle.message_frame.specs.declared.Frame.{Frame}
use Rattle.message_lists.specs.declared.Taken.{Taken}
use Rattle.message_lists.specs.declared.Taken.TheVariants.{On, Last}

-- the packed digits lie in the range
pub record Takes (e : Ints) (d : ℕ) : Type 0 where
  pub least : e.least ≤ d
  pub most : d ≤ e.most
  pub few : d < packed_limit

-- the row of an int from f.at to end
abbrev pub int_row : Frame → ℕ → List ℕ → List ℕ
int_row f end before = sets before (row_width * f.row) (cells (record { parameter = f.parameter; parent = f.parent; start = f.base + f.at; end = f.base + end; index = f.index } ∷ []))

-- the value ends at at
pub record QuickValue (S : Schema) (s : List ℕ) (f : Frame) (before after : List ℕ) (at next : ℕ) : Type 0 where
  pub simple : S.kind (S.core f.parameter) ≡ schema.simple
  pub value : EndedValue (simple_at S (S.core f.parameter) (tokens_at f.base s f.at)) s f before after at next

-- the value ends at end, and the comma at at
pub record QuickOn (S : Schema) (s : List ℕ) (f : Frame) (before after : List ℕ) (at next : ℕ) : Type 0 where
  pub end : ℕ
  pub value : QuickValue S s f before after end next
  pub more : Grows S s f.base f.parameter end (f.index + 1) at

abbrev pub QuickAt : Schema → List ℕ → Frame → List ℕ → List ℕ → Option Taken → Type 0
QuickAt S s f before after (Some (On u next)) = QuickOn S s f before after u.at next
QuickAt S s f before after (Some (Last u next)) = QuickValue S s f before after u.at next
QuickAt S s f before after None = after ≡ before
