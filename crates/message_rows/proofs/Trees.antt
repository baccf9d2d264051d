-- The rows of a tree, counted from the tokens where it starts.
use mathlib.Core.Path.{◌≡◌, refl}
use mathlib.Core.List.{List}
use Prim.Native.Nat.{ℕ, suc, ◌+◌, ◌-◌, ◌≤◌}
use native.Mathlib.Omega.{arith}
use lib.ListN.{drop}
use lib.Seq.{get_or-drop}
use Rattle.reading_rules.specs.Token.{equals}
use Rattle.reading_rules.specs.Reading.{TreeSort, body, items, Tree, unknown_word, unknown_string, unknown_braces, unknown_pair, unknown_last, unknown_more, leaf, braced, chosen_void, chosen, chosen_int, last, more, listed, stopped, itemized, no_item, void_item, list_item, unknown_item, unknown_list_item}
use Rattle.message_rules.specs.Scan.{Lexeme, lexeme}
use Rattle.message_rules.specs.Rows.{row_count, lexeme_at, row_over, rows_of}
use Rattle.reading_rules.specs.Reading.{width}

pub place_at : (i : ℕ) (ls : List Lexeme) (j k : ℕ) → k ≡ i + j → lexeme_at (drop i ls) j ≡ lexeme_at ls k
unfolding lexeme_at
place_at i ls j k h = rw h (get_or-drop i ls j (lexeme equals 0 0))

over_at : (i : ℕ) (ls : List Lexeme) (j k n p up c : ℕ) → k ≡ i + j → 1 ≤ n → row_over (drop i ls) j n p up c ≡ row_over ls k n p up c
unfolding row_over
over_at i ls j k n p up c h o =
    let a : lexeme_at (drop i ls) j ≡ lexeme_at ls k = place_at i ls j k h in
    let b : lexeme_at (drop i ls) (j + n - 1) ≡ lexeme_at ls (k + n - 1) = place_at i ls (j + n - 1) (k + n - 1) (omega (arith, h, o)) in
    rw (a, b) refl

pub rows_at : {s : TreeSort} (i : ℕ) (ls : List Lexeme) (t : Tree s) (j k n p up c : ℕ) → k ≡ i + j → rows_of (drop i ls) t j n p up c ≡ rows_of ls t k n p up c
unfolding rows_of
rows_at i ls (unknown_word w) j k n p up c h = refl
rows_at i ls (unknown_string w) j k n p up c h = refl
rows_at i ls (unknown_braces ts) j k n p up c h = refl
rows_at i ls (unknown_pair w v) j k n p up c h = refl
rows_at i ls (unknown_last v) j k n p up c h = refl
rows_at i ls (unknown_more v l) j k n p up c h = refl
rows_at i ls (leaf t) j k n p up c h = rw (over_at i ls j k 1 p up c h (omega arith)) refl
rows_at i ls (braced b) j k n p up c h = rw (over_at i ls j k (width b + 2) p up c h (omega arith), rows_at i ls b (suc j) (suc k) (suc n) p n 0 (omega (arith, h))) refl
rows_at i ls (chosen_void q w) j k n p up c h = rw (over_at i ls j k 1 p up c h (omega arith), over_at i ls j k 1 q n 0 h (omega arith)) refl
rows_at i ls (chosen q w v) j k n p up c h = rw (over_at i ls j k (2 + width v) p up c h (omega arith), rows_at i ls v (2 + j) (2 + k) (suc n) q n 0 (omega (arith, h))) refl
rows_at i ls (chosen_int q w) j k n p up c h = rw (over_at i ls j k 1 p up c h (omega arith), over_at i ls j k 1 q n 0 h (omega arith)) refl
rows_at i ls (last v) j k n p up c h = rows_at i ls v j k n p up c h
rows_at i ls (more v l) j k n p up c h = rw (rows_at i ls v j k n p up c h, rows_at i ls l (j + suc (width v)) (k + suc (width v)) (n + row_count v) p up (suc c) (omega (arith, h))) refl
rows_at i ls (listed q l b) j k n p up c h = rw (rows_at i ls l j k n q up 0 h, rows_at i ls b (j + width l) (k + width l) (n + row_count l) p up c (omega (arith, h))) refl
rows_at i ls stopped j k n p up c h = refl
rows_at i ls (itemized t) j k n p up c h = rows_at i ls t j k n p up c h
rows_at i ls no_item j k n p up c h = refl
rows_at i ls (void_item q w t) j k n p up c h = rw (over_at i ls j k 1 q up 0 h (omega arith), rows_at i ls t (suc j) (suc k) (suc n) p up c (omega (arith, h))) refl
rows_at i ls (list_item q w l t) j k n p up c h = rw (rows_at i ls l (2 + j) (2 + k) n q up 0 (omega (arith, h)), rows_at i ls t (2 + j + width l) (2 + k + width l) (n + row_count l) p up c (omega (arith, h))) refl
rows_at i ls (unknown_item w t) j k n p up c h = rows_at i ls t (suc j) (suc k) n p up c (omega (arith, h))
rows_at i ls (unknown_list_item w l t) j k n p up c h = rows_at i ls t (2 + j + width l) (2 + k + width l) n p up c (omega (arith, h))

-- the parameter that a body is of stands in no row of its own
items_any : (ls : List Lexeme) (t : Tree items) (i n p q up c : ℕ) → rows_of ls t i n p up c ≡ rows_of ls t i n q up c
unfolding rows_of
items_any ls no_item i n p q up c = refl
items_any ls (void_item r w t) i n p q up c = rw (items_any ls t (suc i) (suc n) p q up c) refl
items_any ls (list_item r w l t) i n p q up c = rw (items_any ls t (2 + i + width l) (n + row_count l) p q up c) refl
items_any ls (unknown_item w t) i n p q up c = items_any ls t (suc i) n p q up c
items_any ls (unknown_list_item w l t) i n p q up c = items_any ls t (2 + i + width l) n p q up c

pub body_any : (ls : List Lexeme) (t : Tree body) (i n p q up c : ℕ) → rows_of ls t i n p up c ≡ rows_of ls t i n q up c
unfolding rows_of
body_any ls (listed r l b) i n p q up c = rw (body_any ls b (i + width l) (n + row_count l) p q up c) refl
body_any ls stopped i n p q up c = refl
body_any ls (itemized t) i n p q up c = items_any ls t i n p q up c
