-- The definition's text as items: tokens with their places, bad bytes, gaps.
use Rattle.std.specs.Prelude.{Bool, true, false, ◌&&◌, List, [], ◌∷◌, ℕ, suc, ◌-◌, leb, eqb}
use Rattle.numbers.specs.Limits.{depth_limit}
use Rattle.classes.specs.Lists.{pick}
use Rattle.definition_rules.specs.Words.{in_run, blank, single, slash, other, class_of}

-- "A run is the longest row of letters, digits, .. Other tokens are the single bytes `< > [ ] { } ; ?`."
pub data TextToken : Type 0 where
  run : List ℕ → TextToken
  mark : ℕ → TextToken

-- a gap is a blank, or a comment's first byte; it ends a run
pub data Item : Type 0 where
  gap : Item
  item : ℕ → TextToken → Item
  bad : ℕ → Item

-- outside comments, or where in a comment one stands, with the place of the comment
pub data ScanState : Type 0 where
  outside line_comment : ScanState
  opening comment star : ℕ → ScanState

-- a run's byte in front of what follows: it makes the run longer, or begins one
unfoldable pub join_run : ℕ → ℕ → List Item → List Item
join_run b p [] = item p (run (b ∷ [])) ∷ []
join_run b p (gap ∷ r) = item p (run (b ∷ [])) ∷ gap ∷ r
join_run b p (bad q ∷ r) = item p (run (b ∷ [])) ∷ bad q ∷ r
join_run b p (item q (run w) ∷ r) = item p (run (b ∷ w)) ∷ r
join_run b p (item q (mark n) ∷ r) = item p (run (b ∷ [])) ∷ item q (mark n) ∷ r

unfoldable pub starts_with : ℕ → List ℕ → Bool
starts_with b [] = false
starts_with b (c ∷ s) = eqb c b

-- the items of s, which begins at place p
-- "`//` runs to LF or the end; `/*` runs to the first `*/` after those two bytes." "Any other byte is bad."
unfoldable pub scan : ScanState → ℕ → List ℕ → List Item
scan outside p [] = []
scan outside p (b ∷ s) =
    elim (class_of b) [
      | in_run ↦ join_run b p (scan outside (suc p) s)
      | blank ↦ gap ∷ scan outside (suc p) s
      | single ↦ item p (mark b) ∷ scan outside (suc p) s
      | slash ↦ pick (starts_with 47 s) (gap ∷ scan line_comment (suc p) s) (pick (starts_with 42 s) (gap ∷ scan (opening p) (suc p) s) (bad p ∷ scan outside (suc p) s))
      | other ↦ bad p ∷ scan outside (suc p) s
    ]
scan line_comment p [] = []
scan line_comment p (b ∷ s) = pick (eqb b 10) (scan outside (suc p) s) (scan line_comment (suc p) s)
scan (opening q) p [] = bad q ∷ []
scan (opening q) p (b ∷ s) = scan (comment q) (suc p) s
scan (comment q) p [] = bad q ∷ []
scan (comment q) p (b ∷ s) = pick (eqb b 42) (scan (star q) (suc p) s) (scan (comment q) (suc p) s)
scan (star q) p [] = bad q ∷ []
scan (star q) p (b ∷ s) = pick (eqb b 47) (scan outside (suc p) s) (pick (eqb b 42) (scan (star q) (suc p) s) (scan (comment q) (suc p) s))

abbrev pub items_of : List ℕ → List Item
items_of text = scan outside 0 text

-- the tokens, and beside them their places
unfoldable pub text_tokens_of : List Item → List TextToken
text_tokens_of [] = []
text_tokens_of (gap ∷ r) = text_tokens_of r
text_tokens_of (bad p ∷ r) = text_tokens_of r
text_tokens_of (item p t ∷ r) = t ∷ text_tokens_of r

unfoldable pub places_of : List Item → List ℕ
places_of [] = []
places_of (gap ∷ r) = places_of r
places_of (bad p ∷ r) = places_of r
places_of (item p t ∷ r) = p ∷ places_of r

-- ---- number 2

-- "bad byte, `/*` without end"
unfoldable pub bad_places : List Item → List ℕ
bad_places [] = []
bad_places (gap ∷ r) = bad_places r
bad_places (bad p ∷ r) = p ∷ bad_places r
bad_places (item p t ∷ r) = bad_places r

-- braces open after a mark: "opened less closed, never under 0"
unfoldable pub braces_after : ℕ → ℕ → ℕ
braces_after d n = pick (eqb n 123) (suc d) (pick (eqb n 125) (d - 1) d)

-- "`{` with 8 already open"
unfoldable pub is_deep_brace : ℕ → ℕ → Bool
is_deep_brace d n = eqb n 123 && leb depth_limit d

unfoldable pub place_if : Bool → ℕ → List ℕ → List ℕ
place_if true p r = p ∷ r
place_if false p r = r

-- d braces are open before
unfoldable pub deep_places : ℕ → List Item → List ℕ
deep_places d [] = []
deep_places d (gap ∷ r) = deep_places d r
deep_places d (bad p ∷ r) = deep_places d r
deep_places d (item p (run w) ∷ r) = deep_places d r
deep_places d (item p (mark n) ∷ r) = place_if (is_deep_brace d n) p (deep_places (braces_after d n) r)
