-- What a person reads for a number.
use Rattle.std.specs.Prelude.{Bool, ◌||◌, cond, List, [], ◌∷◌, ◌++◌, ℕ, eqb}
use Prim.Native.Char.{code}
use Prim.Native.String.{String, [] as []ˢ, ◌∷◌ as ◌∷ˢ◌}
use Rattle.classes.specs.Bytes.{between}
use Rattle.text.specs.Text.{decimal}

-- the bytes of a text, each character being one byte
unfoldable pub bytes : String → List ℕ
bytes []ˢ = []
bytes (c ∷ˢ s) = code c ∷ bytes s

-- what a list says of a number
unfoldable pub saying_of : ℕ → List (ℕ × String) → List ℕ
saying_of n [] = []
saying_of n ((k, s) ∷ l) = cond (eqb n k) (bytes s) (saying_of n l)

-- the numbers that a refusal can have
abbrev pub is_refusal : ℕ → Bool
is_refusal n = between 1 11 n || between 20 30 n

-- what a refusal means
unfoldable pub meaning : ℕ → List ℕ
meaning n =
    saying_of n
    ((1, "the definition is longer than 65,535 bytes") ∷
    (2, "a wrong character, an endless /* or a ninth {") ∷
    (3, "this can't stand here, or the text ends early") ∷
    (4, "more than 256 parameters") ∷
    (5, "not a proper name, reference or tag") ∷
    (6, "not a proper range, or none may stand here") ∷
    (7, "a rule on untagged, plugin or void is broken") ∷
    (8, "this name or tag was given before") ∷
    (9, "the root is no struct, or no top has this name") ∷
    (10, "a value of this struct or union can never end") ∷
    (11, "the table does not fit the room for it") ∷
    (20, "no definition compiles to this table") ∷
    (21, "the message is longer than 16,384 bytes") ∷
    (22, "a wrong character, a lone \" or a 17th {") ∷
    (23, "this can't stand here, or the message ends early") ∷
    (24, "no value of the type is written like this") ∷
    (25, "too few or too many values in this list") ∷
    (26, "this tag was given before") ∷
    (27, "a required field is missing") ∷
    (28, "no alternative has this tag") ∷
    (29, "the rows do not fit the room for them") ∷
    (30, "written rightly, but outside what is allowed") ∷
    [])

-- what a refusal's place is
unfoldable pub place_meaning : ℕ → List ℕ
place_meaning n =
    saying_of n
    ((1, "the first byte too many") ∷
    (2, "the character, the /* or the {") ∷
    (3, "what can't stand there, or the end") ∷
    (4, "the name of the 257th parameter") ∷
    (5, "the name, reference or tag") ∷
    (6, "the range") ∷
    (7, "the name of the field") ∷
    (8, "the later name or tag") ∷
    (9, "the root's name, or the reference") ∷
    (10, "the name of the struct or union") ∷
    (11, "the number of bytes needed") ∷
    (20, "the first byte of the table") ∷
    (21, "the first byte too many") ∷
    (22, "the character, the \" or the {") ∷
    (23, "what can't stand there, or the end") ∷
    (24, "the value") ∷
    (25, "what follows a short list, or the extra comma") ∷
    (26, "the later one") ∷
    (27, "the } of the struct, or the end of the message") ∷
    (28, "the word") ∷
    (29, "the number of rows needed") ∷
    (30, "the value") ∷
    [])

-- a kind as definitions write it
unfoldable pub kind_name : ℕ → List ℕ
kind_name n =
    saying_of n
    ((1, "void") ∷
    (2, "bool") ∷
    (3, "int") ∷
    (4, "ascii") ∷
    (5, "unquoted-ascii") ∷
    (6, "date") ∷
    (7, "time") ∷
    (8, "struct") ∷
    (9, "union") ∷
    (10, "reference") ∷
    [])

-- "refused 27: a required field is missing"
unfoldable pub meaning_line : ℕ → List ℕ
meaning_line n = bytes "refused " ++ decimal n ++ bytes ": " ++ meaning n ++ bytes "\n"

unfoldable pub explanation : ℕ → List ℕ
explanation n = meaning_line n ++ bytes "The place is " ++ place_meaning n ++ bytes ".\n"

-- "1 row", "2 rows"
unfoldable pub counted : ℕ → List ℕ → List ℕ
counted n what = decimal n ++ bytes " " ++ what ++ cond (eqb n 1) [] (bytes "s")

-- "tile.msg: accepted, 5 rows"
unfoldable pub accepted_line : List ℕ → ℕ → List ℕ
accepted_line file rows = file ++ bytes ": accepted, " ++ counted rows (bytes "row") ++ bytes "\n"

-- "tile.table: a table of 5 records, 139 bytes"; how is ": a table of "
unfoldable pub size_line : List ℕ → List ℕ → ℕ → ℕ → List ℕ
size_line file how records size =
    file ++ how ++ counted records (bytes "record") ++ bytes ", " ++ counted size (bytes "byte") ++ bytes "\n"
