-- Number 3: "the tokens don't fit the forms above". What it means, without a word on how tokens are found or forms are read.
use Rattle.std.specs.Prelude.{◌≡◌, List, ◌↔◌, ℕ, ◌≤◌}
use Rattle.definition_rules.specs.Scan.{Item, text_tokens_of}
use Rattle.definition_rules.specs.Cut.{Cut}
use Rattle.definition_rules.specs.Forms.{StuckBy}
use Rattle.definition_rules.specs.Compile.{token_place, CompileAnswer, refusal}

-- the place of the first token that can't go on: the tokens before it begin some row that fits the forms, and those with it
-- don't; or the text's length, where all begin such a row and are none
pub record FirstStuck (text : List ℕ) (place : ℕ) : Type 0 where
  pub items : List Item
  pub cut : Cut 0 text items
  pub token : ℕ
  pub stuck : StuckBy (text_tokens_of items) token
  pub stands : place ≡ token_place text items token

-- A text free of numbers 1 and 2 is refused with number 3 exactly when its tokens don't fit the forms, and then at the first
-- token that can't go on.
abbrev pub StuckPromise : List ℕ → CompileAnswer → Type 0
StuckPromise text answer = ((n p : ℕ) → answer ≡ refusal n p → 3 ≤ n) → (place : ℕ) → (answer ≡ refusal 3 place) ↔ FirstStuck text place
