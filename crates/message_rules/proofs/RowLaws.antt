-- Laws of the rows: how many, and that parents stand before their children.
use mathlib.Core.Path.{◌≡◌, refl, ap, ◌∙◌}
use mathlib.Core.List.{List, [], ◌∷◌, ◌++◌}
use Prim.Native.Nat.{ℕ, suc, ◌+◌, ◌*◌, ◌<◌}
use native.Mathlib.Omega.{arith}
use lib.ListN.{length, length-append}
use Rattle.numbers.specs.Limits.{row_width}
use Rattle.reading_rules.specs.Reading.{TreeSort, body, Tree, unknown_word, unknown_string, unknown_braces, unknown_pair, unknown_last, unknown_more, leaf, braced, chosen_void, chosen, chosen_int, last, more, listed, stopped, itemized, no_item, void_item, list_item, unknown_item, unknown_list_item}
use Rattle.message_rules.specs.Scan.{Lexeme}
use Rattle.message_rules.specs.Rows.{Row, row_count, row_over, rows_of, message_rows, cells, ParentsFirst}
use Rattle.reading_rules.specs.Reading.{width}

-- a tree has as many rows as are counted
pub rows_counted : {s : TreeSort} (ls : List Lexeme) (t : Tree s) (i n p up j : ℕ) → length (rows_of ls t i n p up j) ≡ row_count t
unfolding rows_of row_count
rows_counted ls (unknown_word w) i n p up j = refl
rows_counted ls (unknown_string w) i n p up j = refl
rows_counted ls (unknown_braces ts) i n p up j = refl
rows_counted ls (unknown_pair w v) i n p up j = refl
rows_counted ls (unknown_last v) i n p up j = refl
rows_counted ls (unknown_more v l) i n p up j = refl
rows_counted ls (leaf t) i n p up j = refl
rows_counted ls (braced b) i n p up j = ap suc (rows_counted ls b (suc i) (suc n) p n 0)
rows_counted ls (chosen_void q w) i n p up j = refl
rows_counted ls (chosen q w v) i n p up j = ap suc (rows_counted ls v (2 + i) (suc n) q n 0)
rows_counted ls (chosen_int q w) i n p up j = refl
rows_counted ls (last v) i n p up j = rows_counted ls v i n p up j
rows_counted ls (more v l) i n p up j = length-append (rows_of ls v i n p up j) (rows_of ls l (i + suc (width v)) (n + row_count v) p up (suc j)) ∙ omega (arith, rows_counted ls v i n p up j, rows_counted ls l (i + suc (width v)) (n + row_count v) p up (suc j))
rows_counted ls (listed q l b) i n p up j = length-append (rows_of ls l i n q up 0) (rows_of ls b (i + width l) (n + row_count l) p up j) ∙ omega (arith, rows_counted ls l i n q up 0, rows_counted ls b (i + width l) (n + row_count l) p up j)
rows_counted ls stopped i n p up j = refl
rows_counted ls (itemized t) i n p up j = rows_counted ls t i n p up j
rows_counted ls no_item i n p up j = refl
rows_counted ls (void_item q w t) i n p up j = ap suc (rows_counted ls t (suc i) (suc n) p up j)
rows_counted ls (list_item q w l t) i n p up j = length-append (rows_of ls l (2 + i) n q up 0) (rows_of ls t (2 + i + width l) (n + row_count l) p up j) ∙ omega (arith, rows_counted ls l (2 + i) n q up 0, rows_counted ls t (2 + i + width l) (n + row_count l) p up j)
rows_counted ls (unknown_item w t) i n p up j = rows_counted ls t (suc i) n p up j
rows_counted ls (unknown_list_item w l t) i n p up j = rows_counted ls t (2 + i + width l) n p up j

-- the row count of a message's reading: one for the root, and the body's
pub message_counted : (message : List ℕ) (ls : List Lexeme) (t : Tree body) → length (message_rows message ls t) ≡ suc (row_count t)
unfolding message_rows
message_counted message ls t = ap suc (rows_counted ls t 0 1 0 0 0)

pub cells_counted : (rs : List Row) → length (cells rs) ≡ row_width * length rs
unfolding cells
cells_counted [] = omega arith
cells_counted (r ∷ rs) = omega (arith, cells_counted rs)

parents_append : (n : ℕ) (a b : List Row) → ParentsFirst n a → ParentsFirst (n + length a) b → ParentsFirst n (a ++ b)
unfolding ParentsFirst
parents_append n [] b h k = let e : n + 0 ≡ n = omega arith in rw e at k
parents_append n (r ∷ a) b h k = let e : n + suc (length a) ≡ suc n + length a = omega arith in (h.0, parents_append (suc n) a b h.1 (rw e at k))

pub parents_first : {s : TreeSort} (ls : List Lexeme) (t : Tree s) (i n p up j : ℕ) → up < n → ParentsFirst n (rows_of ls t i n p up j)
unfolding rows_of ParentsFirst row_over
parents_first ls (unknown_word w) i n p up j h = tt
parents_first ls (unknown_string w) i n p up j h = tt
parents_first ls (unknown_braces ts) i n p up j h = tt
parents_first ls (unknown_pair w v) i n p up j h = tt
parents_first ls (unknown_last v) i n p up j h = tt
parents_first ls (unknown_more v l) i n p up j h = tt
parents_first ls (leaf t) i n p up j h = (h, tt)
parents_first ls (braced b) i n p up j h = (h, parents_first ls b (suc i) (suc n) p n 0 (omega arith))
parents_first ls (chosen_void q w) i n p up j h = (h, (omega arith, tt))
parents_first ls (chosen q w v) i n p up j h = (h, parents_first ls v (2 + i) (suc n) q n 0 (omega arith))
parents_first ls (chosen_int q w) i n p up j h = (h, (omega arith, tt))
parents_first ls (last v) i n p up j h = parents_first ls v i n p up j h
parents_first ls (more v l) i n p up j h =
    let e = rows_counted ls v i n p up j in
    parents_append n (rows_of ls v i n p up j) (rows_of ls l (i + suc (width v)) (n + row_count v) p up (suc j)) (parents_first ls v i n p up j h)
    (rw e (parents_first ls l (i + suc (width v)) (n + row_count v) p up (suc j) (omega arith)))
parents_first ls (listed q l b) i n p up j h =
    let e = rows_counted ls l i n q up 0 in
    parents_append n (rows_of ls l i n q up 0) (rows_of ls b (i + width l) (n + row_count l) p up j) (parents_first ls l i n q up 0 h)
    (rw e (parents_first ls b (i + width l) (n + row_count l) p up j (omega arith)))
parents_first ls stopped i n p up j h = tt
parents_first ls (itemized t) i n p up j h = parents_first ls t i n p up j h
parents_first ls no_item i n p up j h = tt
parents_first ls (void_item q w t) i n p up j h = (h, parents_first ls t (suc i) (suc n) p up j (omega arith))
parents_first ls (list_item q w l t) i n p up j h =
    let e = rows_counted ls l (2 + i) n q up 0 in
    parents_append n (rows_of ls l (2 + i) n q up 0) (rows_of ls t (2 + i + width l) (n + row_count l) p up j) (parents_first ls l (2 + i) n q up 0 h)
    (rw e (parents_first ls t (2 + i + width l) (n + row_count l) p up j (omega arith)))
parents_first ls (unknown_item w t) i n p up j h = parents_first ls t (suc i) n p up j h
parents_first ls (unknown_list_item w l t) i n p up j h = parents_first ls t (2 + i + width l) n p up j h
