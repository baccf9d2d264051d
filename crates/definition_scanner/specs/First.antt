-- The place of refusal 2, and what the search for it promises of a token.
use Rattle.std.specs.Prelude.{◌≡◌, List, ◌++◌, ℕ, ◌≤◌, ◌<◌, length, Option}
use Rattle.definition_rules.specs.Scan.{bad_places, deep_places}
use Rattle.definition_scanner.specs.Live.{live_from}
use Rattle.definition_cells.specs.Places.{least_place}
use Rattle.std.specs.declared.ops.ControlFlow.{ControlFlow}
use Rattle.std.specs.declared.ops.ControlFlow.TheVariants.{Continue, Break}
use Rattle.definition_scanner.specs.declared.Cursor.{Cursor}
use Rattle.numbers.specs.Limits.{depth_limit}

-- the faults from a place on, with some braces open
unfoldable pub faults_from : List ℕ → ℕ → ℕ → List ℕ
faults_from text at deep = bad_places (live_from text at) ++ deep_places deep (live_from text at)

pub record GoesOn (text : List ℕ) (at deep e n : ℕ) : Type 0 where
  pub same : faults_from text at deep ≡ faults_from text e n
  pub after : at < e
  pub within : e ≤ length text
  pub few : n ≤ depth_limit

abbrev pub ScanStep : List ℕ → ℕ → ℕ → ControlFlow (Option ℕ) (Cursor × ℕ) → Type 0
ScanStep text at deep (Continue (c, n)) = GoesOn text at deep c.at n
ScanStep text at deep (Break p) = p ≡ least_place (faults_from text at deep)
