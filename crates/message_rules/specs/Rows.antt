-- The rows of a reading: a function of the tree and of the places of its leaves.
use Rattle.std.specs.Prelude.{◌≡◌, Bool, true, false, ◌&&◌, List, [], ◌∷◌, ◌++◌, ℕ, zero, suc, ◌+◌, ◌-◌, ◌≤◌, ◌<◌, eqb, length, get_or}
use Rattle.numbers.specs.Limits.{no_row}
use Rattle.reading_rules.specs.Token.{equals}
use Rattle.reading_rules.specs.Schema.{Schema, void, union}
use Rattle.reading_rules.specs.Reading.{width, TreeSort, body, Tree, unknown_word, unknown_string, unknown_braces, unknown_pair, unknown_last, unknown_more, leaf, braced, chosen_void, chosen, chosen_int, last, more, listed, stopped, itemized, no_item, void_item, list_item, unknown_item, unknown_list_item}
use Rattle.message_rules.specs.Scan.{Lexeme, lexeme}

-- "Rows ..: parameter, parent row, start, end (end not included)."
-- 02 (request 11): "Rows gain a fifth u32: the place of the value in its list, from 0"
pub record Row : Type 0 where
  pub parameter : ℕ
  pub parent : ℕ
  pub start : ℕ
  pub end : ℕ
  pub index : ℕ

-- how many rows a tree has
unfoldable pub row_count : {s : TreeSort} → Tree s → ℕ
row_count (unknown_word w) = 0
row_count (unknown_string w) = 0
row_count (unknown_braces ts) = 0
row_count (unknown_pair w v) = 0
row_count (unknown_last v) = 0
row_count (unknown_more v l) = 0
row_count (leaf t) = 1
row_count (braced b) = suc (row_count b)
row_count (chosen_void q w) = 2
row_count (chosen q w v) = suc (row_count v)
row_count (chosen_int q w) = 2
row_count (last v) = row_count v
row_count (more v l) = row_count v + row_count l
row_count (listed q l b) = row_count l + row_count b
row_count stopped = 0
row_count (itemized i) = row_count i
row_count no_item = 0
row_count (void_item q w i) = suc (row_count i)
row_count (list_item q w l i) = row_count l + row_count i
row_count (unknown_item w i) = row_count i
row_count (unknown_list_item w l i) = row_count i

-- where the i-th token starts and ends
unfoldable pub lexeme_at : List Lexeme → ℕ → Lexeme
lexeme_at ls i = get_or ls i (lexeme equals 0 0)

-- a row over n tokens from the i-th on, with the index j
unfoldable pub row_over : List Lexeme → ℕ → ℕ → ℕ → ℕ → ℕ → Row
unfolding lexeme_at
row_over ls i n p up j = record { parameter = p; parent = up; start = (lexeme_at ls i).start; end = (lexeme_at ls (i + n - 1)).end; index = j }

-- "in order of place, parents first": the rows of a tree whose first leaf is the i-th token and whose first row is the n-th;
-- p is the parameter that a value or list is of, up the row above, j the index of a value, or of a list's first value
-- "a row for .. each value in a known field's list, each void field's item and each chosen alternative, and no other"
-- "A struct's span has its braces, .. a union's is its whole choice with a row for the alternative after it."
-- 02 (request 11): "the root, voids and chosen alternatives have 0"
unfoldable pub rows_of : {s : TreeSort} → List Lexeme → Tree s → ℕ → ℕ → ℕ → ℕ → ℕ → List Row
rows_of ls (unknown_word w) i n p up j = []
rows_of ls (unknown_string w) i n p up j = []
rows_of ls (unknown_braces ts) i n p up j = []
rows_of ls (unknown_pair w v) i n p up j = []
rows_of ls (unknown_last v) i n p up j = []
rows_of ls (unknown_more v l) i n p up j = []
rows_of ls (leaf t) i n p up j = row_over ls i 1 p up j ∷ []
rows_of ls (braced b) i n p up j = row_over ls i (width b + 2) p up j ∷ rows_of ls b (suc i) (suc n) p n 0
rows_of ls (chosen_void q w) i n p up j = row_over ls i 1 p up j ∷ row_over ls i 1 q n 0 ∷ []
rows_of ls (chosen q w v) i n p up j = row_over ls i (2 + width v) p up j ∷ rows_of ls v (2 + i) (suc n) q n 0
rows_of ls (chosen_int q w) i n p up j = row_over ls i 1 p up j ∷ row_over ls i 1 q n 0 ∷ []
rows_of ls (last v) i n p up j = rows_of ls v i n p up j
rows_of ls (more v l) i n p up j = rows_of ls v i n p up j ++ rows_of ls l (i + suc (width v)) (n + row_count v) p up (suc j)
rows_of ls (listed q l b) i n p up j = rows_of ls l i n q up 0 ++ rows_of ls b (i + width l) (n + row_count l) p up j
rows_of ls stopped i n p up j = []
rows_of ls (itemized t) i n p up j = rows_of ls t i n p up j
rows_of ls no_item i n p up j = []
rows_of ls (void_item q w t) i n p up j = row_over ls i 1 q up 0 ∷ rows_of ls t (suc i) (suc n) p up j
rows_of ls (list_item q w l t) i n p up j = rows_of ls l (2 + i) n q up 0 ++ rows_of ls t (2 + i + width l) (n + row_count l) p up j
rows_of ls (unknown_item w t) i n p up j = rows_of ls t (suc i) n p up j
rows_of ls (unknown_list_item w l t) i n p up j = rows_of ls t (2 + i + width l) n p up j

-- "The root's row is 0, 4,294,967,295, 0, length.", and the index 0
unfoldable pub message_rows : List ℕ → List Lexeme → Tree body → List Row
message_rows message ls t = record { parameter = 0; parent = no_row; start = 0; end = length message; index = 0 } ∷ rows_of ls t 0 1 0 0 0

-- the numbers of the rows, one after the other
unfoldable pub cells : List Row → List ℕ
cells [] = []
cells (r ∷ rs) = r.parameter ∷ r.parent ∷ r.start ∷ r.end ∷ r.index ∷ cells rs

-- ---- how rows stand (T18)

-- "parents first": rows from the n-th on, each with a parent row before it
unfoldable pub ParentsFirst : ℕ → List Row → Type 0
ParentsFirst n [] = Unit {0}
ParentsFirst n (r ∷ rs) = (r.parent < n) × ParentsFirst (suc n) rs

-- "in order of place": no row starts before s or before the row above it
unfoldable pub StartsRise : ℕ → List Row → Type 0
StartsRise s [] = Unit {0}
StartsRise s (r ∷ rs) = (s ≤ r.start) × StartsRise r.start rs

abbrev pub no_span : Row
no_span = record { parameter = 0; parent = 0; start = 0; end = 0; index = 0 }

-- each of these rows lies in the span of its parent, one of all the rows
unfoldable pub Nested : List Row → List Row → Type 0
Nested all [] = Unit {0}
Nested all (r ∷ rs) = ((get_or all r.parent no_span).start ≤ r.start) × (r.end ≤ (get_or all r.parent no_span).end) × Nested all rs

-- every row's span lies between s and e, and does not end before it starts
unfoldable pub Inside : ℕ → ℕ → List Row → Type 0
Inside s e [] = Unit {0}
Inside s e (r ∷ rs) = (s ≤ r.start) × (r.start ≤ r.end) × (r.end ≤ e) × Inside s e rs

-- row 0 is the root's; parents come first; a row lies in its parent's span, all in the message; starts never fall
pub record RowsStand (message : List ℕ) (ls : List Lexeme) (t : Tree body) : Type 0 where
  pub root : (rest : List Row) × (message_rows message ls t ≡ record { parameter = 0; parent = no_row; start = 0; end = length message; index = 0 } ∷ rest) × ParentsFirst 1 rest × Nested (message_rows message ls t) rest
  pub inside : Inside 0 (length message) (message_rows message ls t)
  pub in_order : StartsRise 0 (message_rows message ls t)

-- ---- how the values of a list are numbered (02, request 11)

-- a row is of the parameter p under the row up
abbrev pub is_of : ℕ → ℕ → Row → Bool
is_of p up r = eqb p r.parameter && eqb up r.parent

-- how many of these rows are
unfoldable pub alike : ℕ → ℕ → List Row → ℕ
alike p up [] = 0
alike p up (r ∷ rs) = elim (is_of p up r) [ true ↦ suc (alike p up rs) | false ↦ alike p up rs ]

-- "the place of the value in its list, from 0": a row's index is how many of the rows before it are of its parameter under its parent
unfoldable pub Numbered : List Row → List Row → Type 0
Numbered before [] = Unit {0}
Numbered before (r ∷ rs) = (r.index ≡ alike r.parameter r.parent before) × Numbered (r ∷ before) rs

-- so those of one list have 0, 1, 2 .. in order (`in_order_lem`): the indices of the rows that are of p under up
unfoldable pub indices_under : ℕ → ℕ → List Row → List ℕ
indices_under p up [] = []
indices_under p up (r ∷ rs) = elim (is_of p up r) [ true ↦ r.index ∷ indices_under p up rs | false ↦ indices_under p up rs ]

-- n numbers: k, the next, and so on
unfoldable pub count_up : ℕ → ℕ → List ℕ
count_up k zero = []
count_up k (suc n) = k ∷ count_up (suc k) n

-- "voids and chosen alternatives have 0": rows of a void, and rows under a union's, where all are the rows
unfoldable pub Zeroed : Schema → List Row → List Row → Type 0
Zeroed S all [] = Unit {0}
Zeroed S all (r ∷ rs) =
    (S.kind (S.core r.parameter) ≡ void → r.index ≡ 0)
    × (S.kind (S.core (get_or all r.parent no_span).parameter) ≡ union → r.index ≡ 0)
    × Zeroed S all rs

-- "the place of the value in its list, from 0; the root, voids and chosen alternatives have 0"
pub record IndicesStand (S : Schema) (all : List Row) : Type 0 where
  pub root : Row
  pub rest : List Row
  pub rows : all ≡ root ∷ rest
  pub first : root.index ≡ 0
  pub numbered : Numbered [] rest
  pub zeros : Zeroed S all rest
