-- Number 10: "a struct or union with no finite value". What it means, over lawful values, without a word on steps or rounds.
use Rattle.std.specs.Prelude.{◌≡◌, Bool, true, ◌&&◌, List, [], ◌∷◌, ◌↔◌, ℕ, ◌≤◌, ◌<◌, length, get_or}
use Rattle.reading_rules.specs.Token.{Token, is_token}
use Rattle.reading_rules.specs.Record.{Record, record_at}
use Rattle.reading_rules.specs.Schema.{schema_of}
use Rattle.reading_rules.specs.Reading.{value, Tree, leaves, Law}
use Rattle.definition_rules.specs.Words.{kind_is_compound}
use Rattle.definition_rules.specs.Scan.{items_of}
use Rattle.definition_rules.specs.Faults.{name_spots}
use Rattle.definition_rules.specs.Compile.{noted_of, outcome_of, records_of_text, token_place, CompileAnswer, refusal}

unfoldable pub are_tokens : List Token → Bool
are_tokens [] = true
are_tokens (t ∷ r) = is_token t && are_tokens r

-- "A lawful value of a type is a row of tokens that are the leaves of such a tree for that type, without limit of length or depth."
abbrev pub LawfulValue : List Record → ℕ → Type 0
LawfulValue rs p = (t : Tree value) × Law (schema_of rs) p t × (are_tokens (leaves t) ≡ true)

-- the p-th parameter of a text is a struct or a union
abbrev pub Compound : List ℕ → ℕ → Type 0
Compound text p = (p < length (records_of_text text)) × (kind_is_compound (record_at (records_of_text text) p).kind ≡ true)

-- where its name stands
unfoldable pub name_place : List ℕ → ℕ → ℕ
name_place text p = token_place text (items_of text) (get_or (name_spots (noted_of (outcome_of text))) p 0)

-- a struct or union without a lawful value; none that has none is named before this place
pub record FirstEndless (text : List ℕ) (place : ℕ) : Type 0 where
  pub parameter : ℕ
  pub compound : Compound text parameter
  pub no_value : LawfulValue (records_of_text text) parameter → ⊥
  pub named : place ≡ name_place text parameter
  pub first : (q : ℕ) → Compound text q → (LawfulValue (records_of_text text) q → ⊥) → place ≤ name_place text q

-- A definition free of every fault checked before number 10 is refused as endless exactly when one of its structs or unions
-- has no lawful value, however long or deep. The place is then the name of the first such in the text.
abbrev pub EndlessPromise : List ℕ → CompileAnswer → Type 0
EndlessPromise text answer = ((n p : ℕ) → answer ≡ refusal n p → 10 ≤ n) → (place : ℕ) → (answer ≡ refusal 10 place) ↔ FirstEndless text place
