-- The spans of the rows lie in the message, and those under a value lie in the value's span.
use mathlib.Core.Path.{◌≡◌, refl, ap}
use mathlib.Core.List.{List, [], ◌∷◌, ◌++◌}
use Prim.Native.Nat.{ℕ, zero, suc, ◌+◌, ◌-◌, ◌≤◌, ◌<◌}
use native.Mathlib.Omega.{arith}
use lib.ListN.{length, length-append}
use Rattle.reading_rules.specs.Token.{Token, word, string, equals, comma, opening, closing}
use Rattle.reading_rules.specs.Reading.{TreeSort, body, Tree, unknown_word, unknown_string, unknown_braces, unknown_pair, unknown_last, unknown_more, leaf, braced, chosen_void, chosen, chosen_int, last, more, listed, stopped, itemized, no_item, void_item, list_item, unknown_item, unknown_list_item, leaves_then}
use Rattle.message_rules.specs.Scan.{Lexeme, spelled_then, spelled_length, Spelled, tokens_of}
use Rattle.message_rules.specs.Rows.{Row, row_count, lexeme_at, row_over, rows_of, message_rows, Inside}
use Rattle.reading_rules.specs.Reading.{width}
use Rattle.reading_rules.proofs.Complete.{leaves_width}

-- tokens stand one after the other, from the place at up to end
unfoldable pub Ordered : ℕ → List Lexeme → ℕ → Type 0
Ordered at [] end = at ≤ end
Ordered at (l ∷ ls) end = (at ≤ l.start) × (l.start ≤ l.end) × Ordered l.end ls end

spelled_length_lem : (t : Token) (r : List ℕ) → length (spelled_then t r) ≡ spelled_length t + length r
unfolding spelled_then spelled_length
spelled_length_lem (word w) r = length-append w r
spelled_length_lem (string w) r = omega (arith, length-append w (34 ∷ r))
spelled_length_lem equals r = omega arith
spelled_length_lem comma r = omega arith
spelled_length_lem opening r = omega arith
spelled_length_lem closing r = omega arith

pub spelled_ordered : (at : ℕ) (bytes : List ℕ) (ls : List Lexeme) → Spelled at bytes ls → Ordered at ls (at + length bytes)
unfolding Spelled Ordered
spelled_ordered at bytes [] h = omega arith
spelled_ordered at bytes (l ∷ ls) h =
    let start : l.start ≡ at + length h.0 = h.6 in
    let end : l.end ≡ l.start + spelled_length l.token = h.7 in
    let e : l.end + length h.1 ≡ at + length bytes = omega (arith, spelled_length_lem l.token h.1, length-append h.0 (spelled_then l.token h.1), ap length h.2) in
    (omega arith, omega arith, rw e at (spelled_ordered l.end h.1 ls h.8))

pub ordered_at : (at end : ℕ) (ls : List Lexeme) → Ordered at ls end → (i : ℕ) → i < length ls → (at ≤ (lexeme_at ls i).start) × ((lexeme_at ls i).start ≤ (lexeme_at ls i).end) × ((lexeme_at ls i).end ≤ end)
unfolding Ordered lexeme_at
ordered_at at end [] h i m = absurd (omega arith)
ordered_at at end (l ∷ ls) h zero m = (h.0, h.1, ordered_le l.end end ls h.2)
  where
    ordered_le : (a e : ℕ) (ms : List Lexeme) → Ordered a ms e → a ≤ e
    ordered_le a e [] k = k
    ordered_le a e (n ∷ ms) k = let r = ordered_le n.end e ms k.2 in omega (arith, k.0, k.1)
ordered_at at end (l ∷ ls) h (suc i) m = let g = ordered_at l.end end ls h.2 i (omega arith) in (omega (arith, h.0, h.1), g.1, g.2)

-- a later token ends later
pub ordered_up : (at end : ℕ) (ls : List Lexeme) → Ordered at ls end → (i j : ℕ) → i ≤ j → j < length ls → ((lexeme_at ls i).start ≤ (lexeme_at ls j).start) × ((lexeme_at ls i).end ≤ (lexeme_at ls j).end)
unfolding Ordered lexeme_at
ordered_up at end [] h i j k m = absurd (omega arith)
ordered_up at end (l ∷ ls) h zero zero k m = (omega arith, omega arith)
ordered_up at end (l ∷ ls) h zero (suc j) k m = let g = ordered_at l.end end ls h.2 j (omega arith) in (omega (arith, h.1), omega arith)
ordered_up at end (l ∷ ls) h (suc i) zero k m = absurd (omega arith)
ordered_up at end (l ∷ ls) h (suc i) (suc j) k m = ordered_up l.end end ls h.2 i j (omega arith) (omega arith)

inside_append : (s e : ℕ) (a b : List Row) → Inside s e a → Inside s e b → Inside s e (a ++ b)
unfolding Inside
inside_append s e [] b h k = k
inside_append s e (r ∷ a) b h k = (h.0, h.1, h.2, inside_append s e a b h.3 k)

module _ (ls : List Lexeme) (at end : ℕ) (o : Ordered at ls end) (s e : ℕ) where
  -- the n tokens from the i-th on are there and lie between s and e
  pub record Covers (i n : ℕ) : Type 0 where
    pub there : i + n ≤ length ls
    pub above : (j : ℕ) → i ≤ j → j < i + n → s ≤ (lexeme_at ls j).start
    pub below : (j : ℕ) → i ≤ j → j < i + n → (lexeme_at ls j).end ≤ e

  pub part : (i n k m : ℕ) → Covers i n → i ≤ k → k + m ≤ i + n → Covers k m
  part i n k m c a b = record { there = omega (arith, c.there); above = λ j x y. c.above j (omega arith) (omega arith); below = λ j x y. c.below j (omega arith) (omega arith) }

  pub row_inside : (i n p up j : ℕ) → 1 ≤ n → Covers i n → (s ≤ (row_over ls i n p up j).start) × ((row_over ls i n p up j).start ≤ (row_over ls i n p up j).end) × ((row_over ls i n p up j).end ≤ e)
  unfolding row_over lexeme_at
  row_inside i n p up j m c =
      let there : i + n ≤ length ls = c.there in
      let a = ordered_at at end ls o i (omega arith) in
      let b = ordered_up at end ls o i (i + n - 1) (omega arith) (omega arith) in
      (c.above i (omega arith) (omega arith), omega (arith, a.1, b.1), c.below (i + n - 1) (omega arith) (omega arith))

  one_row : (i n p up j : ℕ) (rs : List Row) → 1 ≤ n → Covers i n → Inside s e rs → Inside s e (row_over ls i n p up j ∷ rs)
  unfolding Inside
  one_row i n p up j rs m c h = let g = row_inside i n p up j m c in (g.0, g.1, g.2, h)

  pub rows_inside : {z : TreeSort} (t : Tree z) (i n p up j : ℕ) → Covers i (width t) → Inside s e (rows_of ls t i n p up j)
  unfolding rows_of width Inside
  rows_inside (unknown_word w) i n p up j c = tt
  rows_inside (unknown_string w) i n p up j c = tt
  rows_inside (unknown_braces ts) i n p up j c = tt
  rows_inside (unknown_pair w v) i n p up j c = tt
  rows_inside (unknown_last v) i n p up j c = tt
  rows_inside (unknown_more v l) i n p up j c = tt
  rows_inside (leaf t) i n p up j c = one_row i 1 p up j [] (omega arith) c tt
  rows_inside (braced b) i n p up j c = one_row i (width b + 2) p up j (rows_of ls b (suc i) (suc n) p n 0) (omega arith) c (rows_inside b (suc i) (suc n) p n 0 (part i (width b + 2) (suc i) (width b) c (omega arith) (omega arith)))
  rows_inside (chosen_void q w) i n p up j c = one_row i 1 p up j (row_over ls i 1 q n 0 ∷ []) (omega arith) c (one_row i 1 q n 0 [] (omega arith) c tt)
  rows_inside (chosen q w v) i n p up j c = one_row i (2 + width v) p up j (rows_of ls v (2 + i) (suc n) q n 0) (omega arith) c (rows_inside v (2 + i) (suc n) q n 0 (part i (2 + width v) (2 + i) (width v) c (omega arith) (omega arith)))
  rows_inside (chosen_int q w) i n p up j c = one_row i 1 p up j (row_over ls i 1 q n 0 ∷ []) (omega arith) c (one_row i 1 q n 0 [] (omega arith) c tt)
  rows_inside (last v) i n p up j c = rows_inside v i n p up j c
  rows_inside (more v l) i n p up j c =
      inside_append s e (rows_of ls v i n p up j) (rows_of ls l (i + suc (width v)) (n + row_count v) p up (suc j))
      (rows_inside v i n p up j (part i (width v + suc (width l)) i (width v) c (omega arith) (omega arith)))
      (rows_inside l (i + suc (width v)) (n + row_count v) p up (suc j) (part i (width v + suc (width l)) (i + suc (width v)) (width l) c (omega arith) (omega arith)))
  rows_inside (listed q l b) i n p up j c =
      inside_append s e (rows_of ls l i n q up 0) (rows_of ls b (i + width l) (n + row_count l) p up j)
      (rows_inside l i n q up 0 (part i (width l + width b) i (width l) c (omega arith) (omega arith)))
      (rows_inside b (i + width l) (n + row_count l) p up j (part i (width l + width b) (i + width l) (width b) c (omega arith) (omega arith)))
  rows_inside stopped i n p up j c = tt
  rows_inside (itemized t) i n p up j c = rows_inside t i n p up j c
  rows_inside no_item i n p up j c = tt
  rows_inside (void_item q w t) i n p up j c = one_row i 1 q up 0 (rows_of ls t (suc i) (suc n) p up j) (omega arith) (part i (suc (width t)) i 1 c (omega arith) (omega arith)) (rows_inside t (suc i) (suc n) p up j (part i (suc (width t)) (suc i) (width t) c (omega arith) (omega arith)))
  rows_inside (list_item q w l t) i n p up j c =
      inside_append s e (rows_of ls l (2 + i) n q up 0) (rows_of ls t (2 + i + width l) (n + row_count l) p up j)
      (rows_inside l (2 + i) n q up 0 (part i (2 + (width l + width t)) (2 + i) (width l) c (omega arith) (omega arith)))
      (rows_inside t (2 + i + width l) (n + row_count l) p up j (part i (2 + (width l + width t)) (2 + i + width l) (width t) c (omega arith) (omega arith)))
  rows_inside (unknown_item w t) i n p up j c = rows_inside t (suc i) n p up j (part i (suc (width t)) (suc i) (width t) c (omega arith) (omega arith))
  rows_inside (unknown_list_item w l t) i n p up j c = rows_inside t (2 + i + width l) n p up j (part i (2 + (width l + width t)) (2 + i + width l) (width t) c (omega arith) (omega arith))

pub tokens_length : (ls : List Lexeme) → length (tokens_of ls) ≡ length ls
unfolding tokens_of
tokens_length [] = refl
tokens_length (l ∷ ls) = ap suc (tokens_length ls)

-- T18. The spans of all the rows of a reading lie in the message
pub message_inside : (message : List ℕ) (ls : List Lexeme) (t : Tree body) → Spelled 0 message ls → leaves_then t [] ≡ tokens_of ls → Inside 0 (length message) (message_rows message ls t)
unfolding message_rows Inside
message_inside message ls t h all =
    let o = spelled_ordered 0 message ls h in
    let end = 0 + length message in
    let n : width t ≡ length ls = omega (arith, leaves_width t [], ap length all, tokens_length ls) in (
      omega arith,
      omega arith,
      omega arith,
      rows_inside ls 0 end o 0 (length message) t 0 1 0 0 0
          (record { there = omega arith; above = λ j x y. omega arith; below = λ j x y. omega (arith, (ordered_at 0 end ls o j (omega arith)).2) }),
    )
