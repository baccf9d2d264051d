-- T18: rows stand in order of place, so that starts never fall.
use mathlib.Core.Path.{◌≡◌, refl, ap}
use mathlib.Core.List.{List, [], ◌∷◌, ◌++◌}
use Prim.Native.Nat.{ℕ, zero, suc, ◌+◌, ◌≤◌, ◌<◌}
use native.Mathlib.Omega.{arith}
use lib.ListN.{length}
use Rattle.reading_rules.specs.Reading.{width, TreeSort, body, Tree, unknown_word, unknown_string, unknown_braces, unknown_pair, unknown_last, unknown_more, leaf, braced, chosen_void, chosen, chosen_int, last, more, listed, stopped, itemized, no_item, void_item, list_item, unknown_item, unknown_list_item, leaves_then}
use Rattle.reading_rules.proofs.Complete.{leaves_width}
use Rattle.message_rules.specs.Scan.{Lexeme, Spelled, tokens_of}
use Rattle.message_rules.specs.Rows.{Row, row_count, lexeme_at, row_over, rows_of, message_rows, StartsRise}
use Rattle.message_rules.proofs.Spans.{Ordered, spelled_ordered, tokens_length}

-- ---- rows that start from s on, one after the other, up to e

unfoldable Rises : ℕ → List Row → ℕ → Type 0
Rises s [] e = s ≤ e
Rises s (r ∷ rs) e = (s ≤ r.start) × Rises r.start rs e

rises_wide : (a s : ℕ) (rs : List Row) (e z : ℕ) → Rises s rs e → a ≤ s → e ≤ z → Rises a rs z
unfolding Rises
rises_wide a s [] e z h x y = omega (arith, h)
rises_wide a s (r ∷ rs) e z h x y = (omega (arith, h.0), rises_wide r.start r.start rs e z h.1 (omega arith) y)

rises_append : (s m e : ℕ) (a b : List Row) → Rises s a m → Rises m b e → Rises s (a ++ b) e
unfolding Rises
rises_append s m e [] b h k = rises_wide s m b e e k h (omega arith)
rises_append s m e (r ∷ a) b h k = (h.0, rises_append r.start m e a b h.1 k)

rises_starts : (s e : ℕ) (rs : List Row) → Rises s rs e → StartsRise s rs
unfolding Rises StartsRise
rises_starts s e [] h = tt
rises_starts s e (r ∷ rs) h = (h.0, rises_starts r.start e rs h.1)

-- ---- where the k-th token starts, or the end

unfoldable start_in : ℕ → List Lexeme → ℕ → ℕ
start_in e [] k = e
start_in e (l ∷ ls) zero = l.start
start_in e (l ∷ ls) (suc k) = start_in e ls k

start_there : (e : ℕ) (ls : List Lexeme) (k : ℕ) → k < length ls → start_in e ls k ≡ (lexeme_at ls k).start
unfolding start_in lexeme_at
start_there e [] k h = absurd (omega arith)
start_there e (l ∷ ls) zero h = refl
start_there e (l ∷ ls) (suc k) h = start_there e ls k (omega arith)

start_from : (at e : ℕ) (ls : List Lexeme) → Ordered at ls e → (k : ℕ) → at ≤ start_in e ls k
unfolding Ordered start_in
start_from at e [] h k = h
start_from at e (l ∷ ls) h zero = h.0
start_from at e (l ∷ ls) h (suc k) = omega (arith, h.0, h.1, start_from l.end e ls h.2 k)

start_next : (at e : ℕ) (ls : List Lexeme) → Ordered at ls e → (k : ℕ) → start_in e ls k ≤ start_in e ls (suc k)
unfolding Ordered start_in
start_next at e [] h k = omega arith
start_next at e (l ∷ ls) h zero = omega (arith, h.1, start_from l.end e ls h.2 zero)
start_next at e (l ∷ ls) h (suc k) = start_next l.end e ls h.2 k

module _ (at e : ℕ) (ls : List Lexeme) (o : Ordered at ls e) where
  start_up : (j n : ℕ) → start_in e ls j ≤ start_in e ls (j + n)
  start_up j zero = let z : j + 0 ≡ j = omega arith in rw z (omega arith)
  start_up j (suc n) = let z : j + suc n ≡ suc (j + n) = omega arith in rw z (omega (arith, start_up j n, start_next at e ls o (j + n)))

  -- rows of the tokens from a on, up to b, stand among those from i on, up to k
  among : (i a b k : ℕ) (rs : List Row) → Rises (start_in e ls a) rs (start_in e ls b) → (x y : ℕ) → i + x ≡ a → b + y ≡ k → Rises (start_in e ls i) rs (start_in e ls k)
  among i a b k rs h x y p q = rises_wide (start_in e ls i) (start_in e ls a) rs (start_in e ls b) (start_in e ls k) h (rw (← p) (start_up i x)) (rw (← q) (start_up b y))

  -- a row over the i-th token and more
  first_row : (i n p up j k : ℕ) (rs : List Row) → i < length ls → Rises (start_in e ls i) rs (start_in e ls k) → Rises (start_in e ls i) (row_over ls i n p up j ∷ rs) (start_in e ls k)
  unfolding Rises row_over
  first_row i n p up j k rs m h = let z = start_there e ls i m in (omega (arith, z), rw z at h)

  none : (i n : ℕ) → Rises (start_in e ls i) [] (start_in e ls (i + n))
  unfolding Rises
  none i n = start_up i n

  rows_rise : {z : TreeSort} (t : Tree z) (i n p up j : ℕ) → i + width t ≤ length ls → Rises (start_in e ls i) (rows_of ls t i n p up j) (start_in e ls (i + width t))
  unfolding rows_of width
  rows_rise (unknown_word w) i n p up j m = none i 1
  rows_rise (unknown_string w) i n p up j m = none i 1
  rows_rise (unknown_braces ts) i n p up j m = none i (width (unknown_braces ts))
  rows_rise (unknown_pair w v) i n p up j m = none i (width (unknown_pair w v))
  rows_rise (unknown_last v) i n p up j m = none i (width (unknown_last v))
  rows_rise (unknown_more v l) i n p up j m = none i (width (unknown_more v l))
  rows_rise (leaf t) i n p up j m = first_row i 1 p up j (i + 1) [] (omega arith) (none i 1)
  rows_rise (braced b) i n p up j m =
      first_row i (width b + 2) p up j (i + (width b + 2)) (rows_of ls b (suc i) (suc n) p n 0) (omega arith)
      (among i (suc i) (suc i + width b) (i + (width b + 2)) (rows_of ls b (suc i) (suc n) p n 0) (rows_rise b (suc i) (suc n) p n 0 (omega arith)) 1 1 (omega arith) (omega arith))
  rows_rise (chosen_void q w) i n p up j m = first_row i 1 p up j (i + 1) (row_over ls i 1 q n 0 ∷ []) (omega arith) (first_row i 1 q n 0 (i + 1) [] (omega arith) (none i 1))
  rows_rise (chosen q w v) i n p up j m =
      first_row i (2 + width v) p up j (i + (2 + width v)) (rows_of ls v (2 + i) (suc n) q n 0) (omega arith)
      (among i (2 + i) (2 + i + width v) (i + (2 + width v)) (rows_of ls v (2 + i) (suc n) q n 0) (rows_rise v (2 + i) (suc n) q n 0 (omega arith)) 2 0 (omega arith) (omega arith))
  rows_rise (chosen_int q w) i n p up j m = first_row i 1 p up j (i + 1) (row_over ls i 1 q n 0 ∷ []) (omega arith) (first_row i 1 q n 0 (i + 1) [] (omega arith) (none i 1))
  rows_rise (last v) i n p up j m = rows_rise v i n p up j m
  rows_rise (more v l) i n p up j m =
      rises_append (start_in e ls i) (start_in e ls (i + width v)) (start_in e ls (i + (width v + suc (width l)))) (rows_of ls v i n p up j) (rows_of ls l (i + suc (width v)) (n + row_count v) p up (suc j))
      (rows_rise v i n p up j (omega arith))
      (among (i + width v) (i + suc (width v)) (i + suc (width v) + width l) (i + (width v + suc (width l))) (rows_of ls l (i + suc (width v)) (n + row_count v) p up (suc j)) (rows_rise l (i + suc (width v)) (n + row_count v) p up (suc j) (omega arith)) 1 0 (omega arith) (omega arith))
  rows_rise (listed q l b) i n p up j m =
      rises_append (start_in e ls i) (start_in e ls (i + width l)) (start_in e ls (i + (width l + width b))) (rows_of ls l i n q up 0) (rows_of ls b (i + width l) (n + row_count l) p up j)
      (rows_rise l i n q up 0 (omega arith))
      (among (i + width l) (i + width l) (i + width l + width b) (i + (width l + width b)) (rows_of ls b (i + width l) (n + row_count l) p up j) (rows_rise b (i + width l) (n + row_count l) p up j (omega arith)) 0 0 (omega arith) (omega arith))
  rows_rise stopped i n p up j m = none i 0
  rows_rise (itemized t) i n p up j m = rows_rise t i n p up j m
  rows_rise no_item i n p up j m = none i 0
  rows_rise (void_item q w t) i n p up j m =
      first_row i 1 q up 0 (i + suc (width t)) (rows_of ls t (suc i) (suc n) p up j) (omega arith)
      (among i (suc i) (suc i + width t) (i + suc (width t)) (rows_of ls t (suc i) (suc n) p up j) (rows_rise t (suc i) (suc n) p up j (omega arith)) 1 0 (omega arith) (omega arith))
  rows_rise (list_item q w l t) i n p up j m =
      rises_append (start_in e ls i) (start_in e ls (2 + i + width l)) (start_in e ls (i + (2 + (width l + width t)))) (rows_of ls l (2 + i) n q up 0) (rows_of ls t (2 + i + width l) (n + row_count l) p up j)
      (among i (2 + i) (2 + i + width l) (2 + i + width l) (rows_of ls l (2 + i) n q up 0) (rows_rise l (2 + i) n q up 0 (omega arith)) 2 0 (omega arith) (omega arith))
      (among (2 + i + width l) (2 + i + width l) (2 + i + width l + width t) (i + (2 + (width l + width t))) (rows_of ls t (2 + i + width l) (n + row_count l) p up j) (rows_rise t (2 + i + width l) (n + row_count l) p up j (omega arith)) 0 0 (omega arith) (omega arith))
  rows_rise (unknown_item w t) i n p up j m = among i (suc i) (suc i + width t) (i + suc (width t)) (rows_of ls t (suc i) n p up j) (rows_rise t (suc i) n p up j (omega arith)) 1 0 (omega arith) (omega arith)
  rows_rise (unknown_list_item w l t) i n p up j m = among i (2 + i + width l) (2 + i + width l + width t) (i + (2 + (width l + width t))) (rows_of ls t (2 + i + width l) n p up j) (rows_rise t (2 + i + width l) n p up j (omega arith)) (2 + width l) 0 (omega arith) (omega arith)

pub message_rises : (message : List ℕ) (ls : List Lexeme) (t : Tree body) → Spelled 0 message ls → leaves_then t [] ≡ tokens_of ls → StartsRise 0 (message_rows message ls t)
unfolding message_rows StartsRise
message_rises message ls t h all =
    let o = spelled_ordered 0 message ls h in
    let end = 0 + length message in
    let n : width t ≡ length ls = omega (arith, leaves_width t [], ap length all, tokens_length ls) in
    let r = rows_rise 0 end ls o t 0 1 0 0 0 (omega arith) in
    (omega arith, rises_starts 0 (start_in end ls (0 + width t)) (rows_of ls t 0 1 0 0 0) (rises_wide 0 (start_in end ls 0) (rows_of ls t 0 1 0 0 0) (start_in end ls (0 + width t)) (start_in end ls (0 + width t)) r (omega arith) (omega arith)))
