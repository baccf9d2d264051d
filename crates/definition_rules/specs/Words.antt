-- Runs: the class of a byte, keywords, the forms of names and tags.
use Rattle.std.specs.Prelude.{Bool, true, false, not, ◌&&◌, ◌||◌, List, [], ◌∷◌, ℕ, suc, leb, ltb, eqb, length}
use Rattle.classes.specs.Lists.{every, some, not_empty, same_bytes}
use Rattle.classes.specs.Bytes.{is_blank, is_letter, is_run_byte, is_mark, is_name_byte, is_tag_byte}
use Rattle.numbers.specs.Limits.{label_limit}

-- what a byte begins: "A run .. Other tokens are the single bytes .. Any other byte is bad."
pub data ByteClass : Type 0 where
  in_run blank single slash other : ByteClass

unfoldable pub class_of : ℕ → ByteClass
unfolding is_run_byte is_blank is_mark
class_of b = elim (is_run_byte b) [ true ↦ in_run | false ↦ elim (is_blank b) [ true ↦ blank | false ↦ elim (is_mark b) [ true ↦ single | false ↦ elim (eqb b 47) [ true ↦ slash | false ↦ other ] ] ] ]

-- ---- keywords

abbrev pub kw_as : List ℕ
kw_as = 97 ∷ 115 ∷ []

abbrev pub kw_plugin : List ℕ
kw_plugin = 112 ∷ 108 ∷ 117 ∷ 103 ∷ 105 ∷ 110 ∷ []

abbrev pub kw_void : List ℕ
kw_void = 118 ∷ 111 ∷ 105 ∷ 100 ∷ []

abbrev pub kw_bool : List ℕ
kw_bool = 98 ∷ 111 ∷ 111 ∷ 108 ∷ []

abbrev pub kw_int : List ℕ
kw_int = 105 ∷ 110 ∷ 116 ∷ []

abbrev pub kw_ascii : List ℕ
kw_ascii = 97 ∷ 115 ∷ 99 ∷ 105 ∷ 105 ∷ []

abbrev pub kw_unquoted : List ℕ
kw_unquoted = 117 ∷ 110 ∷ 113 ∷ 117 ∷ 111 ∷ 116 ∷ 101 ∷ 100 ∷ 45 ∷ 97 ∷ 115 ∷ 99 ∷ 105 ∷ 105 ∷ []

abbrev pub kw_date : List ℕ
kw_date = 100 ∷ 97 ∷ 116 ∷ 101 ∷ []

abbrev pub kw_time : List ℕ
kw_time = 116 ∷ 105 ∷ 109 ∷ 101 ∷ []

abbrev pub kw_struct : List ℕ
kw_struct = 115 ∷ 116 ∷ 114 ∷ 117 ∷ 99 ∷ 116 ∷ []

abbrev pub kw_union : List ℕ
kw_union = 117 ∷ 110 ∷ 105 ∷ 111 ∷ 110 ∷ []

unfoldable pub number_if : Bool → ℕ → ℕ → ℕ
number_if true k n = k
number_if false k n = n

-- the number, from k on, of a run in a list; one past the last where it isn't there
unfoldable pub number_in : List (List ℕ) → ℕ → List ℕ → ℕ
number_in [] k w = k
number_in (v ∷ vs) k w = number_if (same_bytes v w) k (number_in vs (suc k) w)

-- "Kinds 1 to 10: void, bool, int, ascii, unquoted-ascii, date, time, struct, union, reference."
-- "Any type run that is no type keyword is a reference."
unfoldable pub kind_of_run : List ℕ → ℕ
kind_of_run w = number_in (kw_void ∷ kw_bool ∷ kw_int ∷ kw_ascii ∷ kw_unquoted ∷ kw_date ∷ kw_time ∷ kw_struct ∷ kw_union ∷ []) 1 w

-- "int, ascii and unquoted-ascii may have `<` range `>`"
unfoldable pub kind_takes_range : ℕ → Bool
kind_takes_range k = leb 3 k && leb k 5

unfoldable pub kind_is_compound : ℕ → Bool
kind_is_compound k = leb 8 k && leb k 9

unfoldable pub takes_range : List ℕ → Bool
takes_range w = leb 3 (kind_of_run w) && leb (kind_of_run w) 5

unfoldable pub is_compound : List ℕ → Bool
is_compound w = leb 8 (kind_of_run w) && leb (kind_of_run w) 9

unfoldable pub is_reference : List ℕ → Bool
is_reference w = eqb (kind_of_run w) 10

-- "none of void bool int ascii unquoted-ascii date time struct union as plugin"
unfoldable pub is_keyword : List ℕ → Bool
is_keyword w = ltb (kind_of_run w) 10 || same_bytes kw_as w || same_bytes kw_plugin w

-- ---- names and tags

unfoldable pub starts_with_letter : List ℕ → Bool
starts_with_letter [] = false
starts_with_letter (b ∷ w) = is_letter b

-- "A name: a letter, then letters, digits, `-`, `_`; 1 to 63 bytes; none of void .. plugin."
unfoldable pub name_form : List ℕ → Bool
name_form w = starts_with_letter w && every is_name_byte w && leb (length w) label_limit && not (is_keyword w)

-- "A tag: 1 to 63 letters, digits, `-`, `_`, `.`."
unfoldable pub tag_form : List ℕ → Bool
tag_form w = not_empty w && every is_tag_byte w && leb (length w) label_limit

-- "an explicit tag with a dot in it"
unfoldable pub has_dot : List ℕ → Bool
has_dot w = some (λ b. eqb b 46) w
