-- What the reading of the forms promises, by its answer.
use Rattle.std.specs.Prelude.{◌≡◌, List, ◌∷◌, ℕ, ◌≤◌, length, Result, Ok, Err}
use Rattle.numbers.specs.Limits.{parameter_limit}
use Rattle.definition_rules.specs.Scan.{items_of}
use Rattle.definition_rules.specs.Declarations.{Noted, stuck_at, complete}
use Rattle.definition_rules.specs.Faults.{faults4}
use Rattle.definition_rules.specs.Compile.{least_of, token_place, token_places, outcome_of}
use Rattle.definition_cells.specs.Cells.{noted_from}
use Rattle.definition_forms.specs.Placed.{placed}
use Rattle.numbers.specs.declared.Rule.TheVariants.{DefinitionForms, ParameterCount}
use Rattle.numbers.specs.declared.Refusal.{Refusal}

-- 3: the tokens don't fit, from the token at p on
pub record StuckIn (text : List ℕ) (p : ℕ) : Type 0 where
  pub spot : ℕ
  pub is : outcome_of text ≡ stuck_at spot
  pub place : token_place text (items_of text) spot ≡ p

-- 4: they fit, and p is the least place of a name too many
pub record OverIn (text : List ℕ) (p : ℕ) : Type 0 where
  pub list : List Noted
  pub is : outcome_of text ≡ complete list
  pub rest : List ℕ
  pub places : token_places text (items_of text) (faults4 parameter_limit list) ≡ p ∷ rest
  pub least : least_of p rest ≡ p

-- they fit, and the n declarations are in the row
pub record CompleteIn (text cells : List ℕ) (n : ℕ) : Type 0 where
  pub list : List Noted
  pub is : outcome_of text ≡ complete list
  pub few : n ≤ parameter_limit
  pub counted : length list ≡ n
  pub kept : noted_from text cells n 0 ≡ placed text list

-- what a refusal says of a text
pub data RefusedAs (text : List ℕ) (r : Refusal) : Type 0 where
  stuck_in : r.rule ≡ DefinitionForms → StuckIn text r.place → RefusedAs text r
  over_in : r.rule ≡ ParameterCount → OverIn text r.place → RefusedAs text r

abbrev pub FormedAs : List ℕ → List ℕ → Result ℕ Refusal → Type 0
FormedAs text cells (Ok n) = CompleteIn text cells n
FormedAs text cells (Err r) = RefusedAs text r

abbrev pub stuck_refusal : ℕ → Refusal
stuck_refusal p = record { rule = DefinitionForms; place = p }

abbrev pub over : ℕ → Refusal
over p = record { rule = ParameterCount; place = p }
