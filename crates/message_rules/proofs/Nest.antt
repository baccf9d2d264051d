-- T18: every row's span lies in its parent row's span.
use mathlib.Core.Path.{◌≡◌, refl, ap, subst}
use mathlib.Core.List.{List, [], ◌∷◌, ◌++◌}
use Prim.Native.Nat.{ℕ, suc, ◌+◌, ◌-◌, ◌≤◌}
use native.Mathlib.Omega.{arith}
use lib.ListN.{length, get_or}
use Rattle.reading_rules.specs.Reading.{TreeSort, body, Tree, unknown_word, unknown_string, unknown_braces, unknown_pair, unknown_last, unknown_more, leaf, braced, chosen_void, chosen, chosen_int, last, more, listed, stopped, itemized, no_item, void_item, list_item, unknown_item, unknown_list_item, leaves}
use Rattle.message_rules.specs.Scan.{Lexeme, Spelled, tokens_of}
use Rattle.message_rules.specs.Rows.{Row, row_count, lexeme_at, row_over, rows_of, message_rows, no_span, Nested}
use Rattle.reading_rules.specs.Reading.{width}
use Rattle.message_rules.proofs.RowLaws.{rows_counted}
use Rattle.message_rules.proofs.Spans.{Ordered, spelled_ordered, ordered_at, ordered_up, Covers, part, row_inside, tokens_length}
use Rattle.reading_rules.proofs.Complete.{leaves_width}

nested_append : (all a b : List Row) → Nested all a → Nested all b → Nested all (a ++ b)
unfolding Nested
nested_append all [] b h k = k
nested_append all (r ∷ a) b h k = (h.0, h.1, nested_append all a b h.2 k)

-- all the rows have these from the n-th on
unfoldable pub Holds : List Row → ℕ → List Row → Type 0
Holds all n [] = Unit {0}
Holds all n (r ∷ rs) = (get_or all n no_span ≡ r) × Holds all (suc n) rs

pub holds_first : (all : List Row) (n : ℕ) (a b : List Row) → Holds all n (a ++ b) → Holds all n a
unfolding Holds
holds_first all n [] b h = tt
holds_first all n (r ∷ a) b h = (h.0, holds_first all (suc n) a b h.1)

holds_rest : (all : List Row) (n : ℕ) (a b : List Row) → Holds all n (a ++ b) → Holds all (n + length a) b
unfolding Holds
holds_rest all n [] b h = let e : n + 0 ≡ n = omega arith in rw e h
holds_rest all n (r ∷ a) b h = let e : n + suc (length a) ≡ suc n + length a = omega arith in rw e (holds_rest all (suc n) a b h.1)

-- a list's tail of rows
pub holds_after : (all : List Row) (n m : ℕ) (a b : List Row) → length a ≡ m → Holds all n (a ++ b) → Holds all (n + m) b
holds_after all n m a b e h = rw (← e) (holds_rest all n a b h)

pub holds_self : (r : Row) (rs : List Row) → Holds (r ∷ rs) 1 rs
unfolding Holds
holds_self r rs = shift (r ∷ []) rs
  where
    at : (a : List Row) (r : Row) (b : List Row) → get_or (a ++ (r ∷ b)) (length a) no_span ≡ r
    at [] r b = refl
    at (x ∷ a) r b = at a r b

    join : (a : List Row) (r : Row) (b : List Row) → (a ++ (r ∷ [])) ++ b ≡ a ++ (r ∷ b)
    join [] r b = refl
    join (x ∷ a) r b = ap (λ l. x ∷ l) (join a r b)

    long : (a : List Row) (r : Row) → length (a ++ (r ∷ [])) ≡ suc (length a)
    long [] r = refl
    long (x ∷ a) r = ap suc (long a r)

    shift : (a b : List Row) → Holds (a ++ b) (length a) b
    shift a [] = tt
    shift a (r ∷ b) = (at a r b, subst (λ l. Holds l (suc (length a)) b) (join a r b) (subst (λ n. Holds ((a ++ (r ∷ [])) ++ b) n b) (long a r) (shift (a ++ (r ∷ [])) b)))

module _ (ls : List Lexeme) (at end : ℕ) (o : Ordered at ls end) (all : List Row) where
  -- tokens of a row lie in the row's span
  own : (i m p up j k w : ℕ) → i + m ≤ length ls → 1 ≤ m → i ≤ k → k + w ≤ i + m → Covers ls at end o (row_over ls i m p up j).start (row_over ls i m p up j).end k w
  unfolding row_over lexeme_at
  own i m p up j k w there one a b =
      record {
        there = omega arith;
        above = λ j x y. (ordered_up at end ls o i j (omega arith) (omega arith)).0;
        below = λ j x y. (ordered_up at end ls o j (i + m - 1) (omega arith) (omega arith)).1;
      }

  -- the tokens of a tree, under the row up
  abbrev Under : ℕ → ℕ → ℕ → Type 0
  Under up i n = Covers ls at end o (get_or all up no_span).start (get_or all up no_span).end i n

  sub : (up i n k m : ℕ) → Under up i n → i ≤ k → k + m ≤ i + n → Under up k m
  sub up i n k m c a b = part ls at end o (get_or all up no_span).start (get_or all up no_span).end i n k m c a b

  one : (i n p up j : ℕ) (rs : List Row) → 1 ≤ n → Under up i n → Nested all rs → Nested all (row_over ls i n p up j ∷ rs)
  unfolding Nested row_over
  one i n p up j rs m c h = let g = row_inside ls at end o (get_or all up no_span).start (get_or all up no_span).end i n p up j m c in (g.0, g.2, h)

  -- what stands under a row of its own, the n-th
  below : (i m p up j n k w : ℕ) → get_or all n no_span ≡ row_over ls i m p up j → i + m ≤ length ls → 1 ≤ m → i ≤ k → k + w ≤ i + m → Under n k w
  below i m p up j n k w e there one a b = rw e (own i m p up j k w there one a b)

  rows_nested : {z : TreeSort} (t : Tree z) (i n p up j : ℕ) → Under up i (width t) → Holds all n (rows_of ls t i n p up j) → Nested all (rows_of ls t i n p up j)
  unfolding rows_of width row_count Nested Holds
  rows_nested (unknown_word w) i n p up j c h = tt
  rows_nested (unknown_string w) i n p up j c h = tt
  rows_nested (unknown_braces ts) i n p up j c h = tt
  rows_nested (unknown_pair w v) i n p up j c h = tt
  rows_nested (unknown_last v) i n p up j c h = tt
  rows_nested (unknown_more v l) i n p up j c h = tt
  rows_nested (leaf t) i n p up j c h = one i 1 p up j [] (omega arith) c tt
  rows_nested (braced b) i n p up j c h =
      one i (width b + 2) p up j (rows_of ls b (suc i) (suc n) p n 0) (omega arith) c
      (rows_nested b (suc i) (suc n) p n 0 (below i (width b + 2) p up j n (suc i) (width b) h.0 c.there (omega arith) (omega arith) (omega arith)) h.1)
  rows_nested (chosen_void q w) i n p up j c h =
      one i 1 p up j (row_over ls i 1 q n 0 ∷ []) (omega arith) c (one i 1 q n 0 [] (omega arith) (below i 1 p up j n i 1 h.0 c.there (omega arith) (omega arith) (omega arith)) tt)
  rows_nested (chosen q w v) i n p up j c h =
      one i (2 + width v) p up j (rows_of ls v (2 + i) (suc n) q n 0) (omega arith) c
      (rows_nested v (2 + i) (suc n) q n 0 (below i (2 + width v) p up j n (2 + i) (width v) h.0 c.there (omega arith) (omega arith) (omega arith)) h.1)
  rows_nested (chosen_int q w) i n p up j c h =
      one i 1 p up j (row_over ls i 1 q n 0 ∷ []) (omega arith) c (one i 1 q n 0 [] (omega arith) (below i 1 p up j n i 1 h.0 c.there (omega arith) (omega arith) (omega arith)) tt)
  rows_nested (last v) i n p up j c h = rows_nested v i n p up j c h
  rows_nested (more v l) i n p up j c h =
      let a = rows_of ls v i n p up j in
      let b = rows_of ls l (i + suc (width v)) (n + row_count v) p up (suc j) in
      nested_append all a b
      (rows_nested v i n p up j (sub up i (width v + suc (width l)) i (width v) c (omega arith) (omega arith)) (holds_first all n a b h))
      (rows_nested l (i + suc (width v)) (n + row_count v) p up (suc j) (sub up i (width v + suc (width l)) (i + suc (width v)) (width l) c (omega arith) (omega arith)) (holds_after all n (row_count v) a b (rows_counted ls v i n p up j) h))
  rows_nested (listed q l b) i n p up j c h =
      let x = rows_of ls l i n q up 0 in
      let y = rows_of ls b (i + width l) (n + row_count l) p up j in
      nested_append all x y
      (rows_nested l i n q up 0 (sub up i (width l + width b) i (width l) c (omega arith) (omega arith)) (holds_first all n x y h))
      (rows_nested b (i + width l) (n + row_count l) p up j (sub up i (width l + width b) (i + width l) (width b) c (omega arith) (omega arith)) (holds_after all n (row_count l) x y (rows_counted ls l i n q up 0) h))
  rows_nested stopped i n p up j c h = tt
  rows_nested (itemized t) i n p up j c h = rows_nested t i n p up j c h
  rows_nested no_item i n p up j c h = tt
  rows_nested (void_item q w t) i n p up j c h =
      one i 1 q up 0 (rows_of ls t (suc i) (suc n) p up j) (omega arith) (sub up i (suc (width t)) i 1 c (omega arith) (omega arith))
      (rows_nested t (suc i) (suc n) p up j (sub up i (suc (width t)) (suc i) (width t) c (omega arith) (omega arith)) h.1)
  rows_nested (list_item q w l t) i n p up j c h =
      let x = rows_of ls l (2 + i) n q up 0 in
      let y = rows_of ls t (2 + i + width l) (n + row_count l) p up j in
      nested_append all x y
      (rows_nested l (2 + i) n q up 0 (sub up i (2 + (width l + width t)) (2 + i) (width l) c (omega arith) (omega arith)) (holds_first all n x y h))
      (rows_nested t (2 + i + width l) (n + row_count l) p up j (sub up i (2 + (width l + width t)) (2 + i + width l) (width t) c (omega arith) (omega arith)) (holds_after all n (row_count l) x y (rows_counted ls l (2 + i) n q up 0) h))
  rows_nested (unknown_item w t) i n p up j c h = rows_nested t (suc i) n p up j (sub up i (suc (width t)) (suc i) (width t) c (omega arith) (omega arith)) h
  rows_nested (unknown_list_item w l t) i n p up j c h = rows_nested t (2 + i + width l) n p up j (sub up i (2 + (width l + width t)) (2 + i + width l) (width t) c (omega arith) (omega arith)) h

-- "in order of place, parents first": the rows after the root's lie each in its parent's span
pub message_nested : (message : List ℕ) (ls : List Lexeme) (t : Tree body) → Spelled 0 message ls → leaves t ≡ tokens_of ls → Nested (message_rows message ls t) (rows_of ls t 0 1 0 0 0)
unfolding message_rows
message_nested message ls t h all =
    let o = spelled_ordered 0 message ls h in
    let n : width t ≡ length ls = omega (arith, leaves_width t [], ap length all, tokens_length ls) in
    rows_nested ls 0 (0 + length message) o (message_rows message ls t) t 0 1 0 0 0
    (record { there = omega arith; above = λ j x y. omega arith; below = λ j x y. omega (arith, (ordered_at 0 (0 + length message) ls o j (omega arith)).2) })
    (holds_self _ (rows_of ls t 0 1 0 0 0))
