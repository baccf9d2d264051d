-- The checks in their order, the answer, and the lent table after.
use Rattle.std.specs.Prelude.{◌≡◌, List, [], ◌∷◌, ◌++◌, ◌⊎◌, ℕ, ◌≤◌, min, ltb, length, drop, get_or}
use Rattle.numbers.specs.Limits.{text_limit, parameter_limit}
use Rattle.classes.specs.Lists.{pick}
use Rattle.definition_rules.specs.Scan.{Item, items_of, text_tokens_of, places_of, bad_places, deep_places, place_if}
use Rattle.definition_rules.specs.Declarations.{Noted, Outcome, stuck_at, complete, parse_tokens, declarations_of}
use Rattle.reading_rules.specs.Record.{Record}
use Rattle.definition_rules.specs.Records.{records_of}
use Rattle.definition_rules.specs.Faults.{faults4, faults5, faults6, faults7, faults8, faults9, faults10}
use Rattle.definition_rules.specs.Table.{encode}

-- a number and all its places
pub data Check : Type 0 where
  check : ℕ → List ℕ → Check

-- what the checks find: nothing, or a number and a place
pub data Finding : Type 0 where
  clean : Finding
  fault : ℕ → ℕ → Finding

unfoldable pub least_of : ℕ → List ℕ → ℕ
least_of p [] = p
least_of p (q ∷ r) = least_of (min p q) r

unfoldable pub finding_of : ℕ → List ℕ → Finding → Finding
finding_of n [] f = f
finding_of n (p ∷ r) f = fault n (least_of p r)

-- "The lowest number that applies is given, at its smallest place."
unfoldable pub first_fault : List Check → Finding
first_fault [] = clean
first_fault (check n ps ∷ cs) = finding_of n ps (first_fault cs)

-- p is one of the places
unfoldable pub IsPlace : ℕ → List ℕ → Type 0
IsPlace p [] = ⊥
IsPlace p (q ∷ r) = (p ≡ q) ⊎ IsPlace p r

-- "at its smallest place"
abbrev pub Least : ℕ → List ℕ → Type 0
Least p ps = IsPlace p ps × ((q : ℕ) → IsPlace q ps → p ≤ q)

unfoldable pub Empty : Check → Type 0
Empty (check n ps) = ps ≡ []

unfoldable pub AllEmpty : List Check → Type 0
AllEmpty [] = Unit {0}
AllEmpty (c ∷ cs) = Empty c × AllEmpty cs

-- the same said of the checks, without a search: the check of n has p as its least place, and those before it have none
pub record FirstFaultIs (n p : ℕ) (cs : List Check) : Type 0 where
  pub before : List Check
  pub places : List ℕ
  pub after : List Check
  pub split : cs ≡ before ++ (check n places ∷ after)
  pub earlier : AllEmpty before
  pub least : Least p places

-- ---- places

-- a token's place by its number; the text's length where there is no such token
unfoldable pub token_place : List ℕ → List Item → ℕ → ℕ
token_place text items i = get_or (places_of items) i (length text)

unfoldable pub token_places : List ℕ → List Item → List ℕ → List ℕ
token_places text items [] = []
token_places text items (i ∷ r) = token_place text items i ∷ token_places text items r

-- 1: "over 65,535 bytes", "65,535"
unfoldable pub faults1 : List ℕ → List ℕ
faults1 text = place_if (ltb text_limit (length text)) text_limit []

-- 2: "bad byte, `/*` without end, or `{` with 8 already open", "that byte"
unfoldable pub faults2 : List Item → List ℕ
faults2 items = bad_places items ++ deep_places 0 items

-- 3: "the tokens don't fit the forms above", "first token that can't go on, or the text's length"
unfoldable pub faults3 : Outcome (List Noted) → List ℕ
faults3 (stuck_at i) = i ∷ []
faults3 (complete ns) = []

-- none where the tokens don't fit
unfoldable pub noted_of : Outcome (List Noted) → List Noted
noted_of (stuck_at i) = []
noted_of (complete ns) = ns

-- ---- the checks

unfoldable pub checks_of : List ℕ → List Item → Outcome (List Noted) → List Noted → List Record → List Check
checks_of text items o ns rs =
    check 1 (faults1 text)
    ∷ check 2 (faults2 items)
    ∷ check 3 (token_places text items (faults3 o))
    ∷ check 4 (token_places text items (faults4 parameter_limit ns))
    ∷ check 5 (token_places text items (faults5 ns))
    ∷ check 6 (token_places text items (faults6 rs ns))
    ∷ check 7 (token_places text items (faults7 rs ns))
    ∷ check 8 (token_places text items (faults8 rs ns))
    ∷ check 9 (token_places text items (faults9 rs ns))
    ∷ check 10 (token_places text items (faults10 rs ns))
    ∷ []

abbrev pub outcome_of : List ℕ → Outcome (List Noted)
outcome_of text = parse_tokens (text_tokens_of (items_of text))

abbrev pub records_of_text : List ℕ → List Record
records_of_text text = records_of (declarations_of (noted_of (outcome_of text)))

unfoldable pub checks_after : List ℕ → List Item → Outcome (List Noted) → List Check
checks_after text items o = checks_of text items o (noted_of o) (records_of (declarations_of (noted_of o)))

unfoldable pub checks_from : List ℕ → List Item → List Check
checks_from text items = checks_after text items (parse_tokens (text_tokens_of items))

unfoldable pub checks : List ℕ → List Check
checks text = checks_from text (items_of text)

-- ---- the answer

-- what a text is: refused, or a table's bytes
pub data Verdict : Type 0 where
  refused : ℕ → ℕ → Verdict
  table : List ℕ → Verdict

unfoldable pub verdict_of : Finding → List Record → Verdict
verdict_of clean rs = table (encode rs)
verdict_of (fault n p) rs = refused n p

unfoldable pub verdict : List ℕ → Verdict
verdict text = verdict_of (first_fault (checks text)) (records_of_text text)

-- "Answer: number and place"; "Success gives the table's length"
pub data CompileAnswer : Type 0 where
  compiled : ℕ → CompileAnswer
  refusal : ℕ → ℕ → CompileAnswer

-- the paper's number of an answer, 0 for success; a refusal's place; the table's length
unfoldable pub number_of_compile : CompileAnswer → ℕ
number_of_compile (compiled n) = 0
number_of_compile (refusal n p) = n

unfoldable pub place_of_compile : CompileAnswer → ℕ
place_of_compile (compiled n) = 0
place_of_compile (refusal n p) = p

unfoldable pub length_of_compile : CompileAnswer → ℕ
length_of_compile (compiled n) = n
length_of_compile (refusal n p) = 0

-- 11: "table longer than the lent buffer", "bytes needed"
unfoldable pub answer_with_room : ℕ → Verdict → CompileAnswer
answer_with_room room (refused n p) = refusal n p
answer_with_room room (table bytes) = pick (ltb room (length bytes)) (refusal 11 (length bytes)) (compiled (length bytes))

unfoldable pub compile_answer : List ℕ → ℕ → CompileAnswer
compile_answer text room = answer_with_room room (verdict text)

-- "the table buffer is untouched"; "bytes beyond it stay"
unfoldable pub lent_after : Verdict → List ℕ → List ℕ
lent_after (refused n p) lent = lent
lent_after (table bytes) lent = pick (ltb (length lent) (length bytes)) lent (bytes ++ drop (length bytes) lent)

unfoldable pub table_after : List ℕ → List ℕ → List ℕ
table_after text lent = lent_after (verdict text) lent
