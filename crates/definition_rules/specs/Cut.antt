-- What it means that a text is cut into items, said without a scan.
use Rattle.std.specs.Prelude.{◌≡◌, true, false, not, ◌&&◌, List, [], ◌∷◌, ◌++◌, ℕ, suc, ◌+◌, eqb, length}
use Rattle.classes.specs.Lists.{every}
use Rattle.classes.specs.Bytes.{is_run_byte, is_blank, is_mark}
use Rattle.definition_rules.specs.Scan.{Item, item, bad, run, mark}

-- no byte of a run stands first
unfoldable pub StopsRun : List ℕ → Type 0
StopsRun [] = Unit {0}
StopsRun (c ∷ s) = is_run_byte c ≡ false

abbrev pub NoLf : List ℕ → Type 0
NoLf w = every (λ b. not (eqb b 10)) w ≡ true

-- no `*/` stands in it
unfoldable pub NoClose : List ℕ → Type 0
NoClose [] = Unit {0}
NoClose (b ∷ []) = Unit {0}
NoClose (b ∷ c ∷ w) = ((eqb b 42 && eqb c 47) ≡ false) × NoClose (c ∷ w)

-- what begins no comment after a `/`
unfoldable pub Stray : List ℕ → Type 0
Stray [] = Unit {0}
Stray (c ∷ s) = (eqb c 47 ≡ false) × (eqb c 42 ≡ false)

-- the bytes from the place at on are these tokens and bad places, with blanks and comments between
pub data Cut : ℕ → List ℕ → List Item → Type 0 where
  ends : {at : ℕ} → Cut at [] []
  -- "Blanks are space, tab, CR, LF."
  blank : {at b : ℕ} {s : List ℕ} {is : List Item} → is_blank b ≡ true → Cut (suc at) s is → Cut at (b ∷ s) is
  -- "`//` runs to LF or the end"
  line : {at : ℕ} {t : List ℕ} {is : List Item} (w s : List ℕ) → t ≡ 47 ∷ 47 ∷ (w ++ 10 ∷ s) → NoLf w → Cut (at + 3 + length w) s is → Cut at t is
  last_line : {at : ℕ} {t : List ℕ} (w : List ℕ) → t ≡ 47 ∷ 47 ∷ w → NoLf w → Cut at t []
  -- "`/*` runs to the first `*/` after those two bytes"
  block : {at : ℕ} {t : List ℕ} {is : List Item} (w s : List ℕ) → t ≡ 47 ∷ 42 ∷ (w ++ 42 ∷ 47 ∷ s) → NoClose w → Cut (at + 4 + length w) s is → Cut at t is
  -- "`/*` without end"
  endless : {at : ℕ} {t : List ℕ} (w : List ℕ) → t ≡ 47 ∷ 42 ∷ w → NoClose w → Cut at t (bad at ∷ [])
  -- "A run is the longest row of letters, digits, `-`, `_`, `.`, `*`."
  longest : {at : ℕ} {t : List ℕ} {is : List Item} (b : ℕ) (w s : List ℕ) → t ≡ (b ∷ w) ++ s → every is_run_byte (b ∷ w) ≡ true → StopsRun s → Cut (at + length (b ∷ w)) s is → Cut at t (item at (run (b ∷ w)) ∷ is)
  -- "Other tokens are the single bytes"
  single : {at b : ℕ} {s : List ℕ} {is : List Item} → is_mark b ≡ true → Cut (suc at) s is → Cut at (b ∷ s) (item at (mark b) ∷ is)
  -- "Any other byte is bad."
  other : {at b : ℕ} {s : List ℕ} {is : List Item} → is_run_byte b ≡ false → is_blank b ≡ false → is_mark b ≡ false → (b ≡ 47 → Stray s) → Cut (suc at) s is → Cut at (b ∷ s) (bad at ∷ is)
