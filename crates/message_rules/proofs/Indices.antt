-- T18, the fifth number of a row (02, request 11): an index is the value's place in its list; the root, voids and chosen alternatives have 0.
use mathlib.Core.Path.{◌≡◌, refl, ap, sym, ◌∙◌}
use mathlib.Core.Bool.{Bool, true, false, ◌&&◌}
use mathlib.Core.List.{List, [], ◌∷◌, ◌++◌}
use Prim.Native.Nat.{ℕ, suc, ◌+◌, ◌≤◌, ◌<◌}
use native.Mathlib.Omega.{arith}
use lib.Dec.{eqb}
use lib.ListN.{length, get_or}
use borrow.Author.Tests.{eqb-true, eqb-false, eq-eqb, ne_eqb}
use Rattle.classes.proofs.Bools.{clash_bool, both_true, and_off}
use Rattle.reading_rules.specs.Record.{Record, record_at}
use Rattle.reading_rules.specs.Count.{same, In, Once}
use Rattle.reading_rules.specs.Schema.{Kind, void, simple, struct, union, found, Schema, is_tagged_of, is_tagged_as, is_untagged_of, schema_of}
use Rattle.reading_rules.specs.Reading.{width, TreeSort, unknown_value, unknown_list, value, list, body, items, Tree, unknown_word, unknown_string, unknown_braces, unknown_pair, unknown_last, unknown_more, leaf, braced, chosen_void, chosen, chosen_int, last, more, listed, stopped, itemized, no_item, void_item, list_item, unknown_item, unknown_list_item, fields_of, For, Law, Lawful}
use Rattle.reading_rules.proofs.CountLaws.{same_self, once_tail, once_apart, in_nil, in_head, in_tail, in_cons, out_apart}
use Rattle.reading_rules.proofs.Rules.{where_is}
use Rattle.table_rules.proofs.Facts.{untagged_is, tagged_is}
use Rattle.table_rules.proofs.Steps.{where_once, untagged_in}
use Rattle.message_rules.specs.Scan.{Lexeme}
use Rattle.message_rules.specs.Rows.{Row, row_count, row_over, rows_of, message_rows, no_span, ParentsFirst, alike, Numbered, indices_under, count_up, Zeroed, IndicesStand}
use Rattle.message_rules.proofs.RowLaws.{rows_counted, parents_first}
use Rattle.message_rules.proofs.Nest.{Holds, holds_first, holds_after, holds_self}

-- ---- counting rows

-- rows in front of others, the last one first
unfoldable onto : List Row → List Row → List Row
onto [] b = b
onto (r ∷ a) b = onto a (r ∷ b)

alike_append : (q x : ℕ) (a b : List Row) → alike q x (a ++ b) ≡ alike q x a + alike q x b
unfolding alike
alike_append q x [] b = omega arith
alike_append q x (r ∷ a) b = go (eqb q r.parameter && eqb x r.parent) (alike_append q x a b)
  where
    go : (c : Bool) → alike q x (a ++ b) ≡ alike q x a + alike q x b → elim c [ true ↦ suc (alike q x (a ++ b)) | false ↦ alike q x (a ++ b) ] ≡ elim c [ true ↦ suc (alike q x a) | false ↦ alike q x a ] + alike q x b
    go true h = omega arith
    go false h = h

alike_onto : (q x : ℕ) (a b : List Row) → alike q x (onto a b) ≡ alike q x a + alike q x b
unfolding alike onto
alike_onto q x [] b = omega arith
alike_onto q x (r ∷ a) b = alike_onto q x a (r ∷ b) ∙ go (eqb q r.parameter && eqb x r.parent)
  where
    go : (c : Bool) → alike q x a + elim c [ true ↦ suc (alike q x b) | false ↦ alike q x b ] ≡ elim c [ true ↦ suc (alike q x a) | false ↦ alike q x a ] + alike q x b
    go true = omega arith
    go false = refl

-- a row under another parent
alike_apart : (q x : ℕ) (r : Row) (rs : List Row) → (x ≡ r.parent → ⊥) → alike q x (r ∷ rs) ≡ alike q x rs
unfolding alike
alike_apart q x r rs h = rw (ne_eqb x r.parent h, and_off (eqb q r.parameter), alike) refl

row_apart : (ls : List Lexeme) (i m p up j q x : ℕ) (rs : List Row) → (x ≡ up → ⊥) → alike q x rs ≡ 0 → alike q x (row_over ls i m p up j ∷ rs) ≡ 0
unfolding row_over
row_apart ls i m p up j q x rs h e = alike_apart q x (row_over ls i m p up j) rs h ∙ e

-- a row under the same
row_own : (ls : List Lexeme) (i m p up j q : ℕ) (rs : List Row) → alike q up (row_over ls i m p up j ∷ rs) ≡ same p q + alike q up rs
unfolding alike row_over same
row_own ls i m p up j q rs = go (eqb q p) refl
  where
    go : (b : Bool) → eqb q p ≡ b → elim (b && eqb up up) [ true ↦ suc (alike q up rs) | false ↦ alike q up rs ] ≡ same p q + alike q up rs
    go true e = let s : same p q ≡ 1 = rw (eqb-true q p e) (same_self p) in rw (eq-eqb up up refl) (omega (arith, s))
    go false e = let z = eqb-false q p e in let s : same p q ≡ 0 = rw (ne_eqb p q (λ y. z (sym y)), same) refl in omega (arith, s)

none_append : (q x : ℕ) (a b : List Row) → alike q x a ≡ 0 → alike q x b ≡ 0 → alike q x (a ++ b) ≡ 0
none_append q x a b h k = omega (arith, alike_append q x a b)

-- no row has a parent that stands after the rows
none_above : (n : ℕ) (rs : List Row) (q x : ℕ) → ParentsFirst n rs → n + length rs ≤ x → alike q x rs ≡ 0
unfolding alike ParentsFirst
none_above n [] q x h l = refl
none_above n (r ∷ rs) q x h l = alike_apart q x r rs (λ e. omega (arith, h.0)) ∙ none_above (suc n) rs q x h.1 (omega arith)

-- nor one that stands before the row above the tree
none_below : {s : TreeSort} (ls : List Lexeme) (t : Tree s) (i n p up j q x : ℕ) → x < up → up < n → alike q x (rows_of ls t i n p up j) ≡ 0
unfolding rows_of alike
none_below ls (unknown_word w) i n p up j q x a b = refl
none_below ls (unknown_string w) i n p up j q x a b = refl
none_below ls (unknown_braces ts) i n p up j q x a b = refl
none_below ls (unknown_pair w v) i n p up j q x a b = refl
none_below ls (unknown_last v) i n p up j q x a b = refl
none_below ls (unknown_more v l) i n p up j q x a b = refl
none_below ls (leaf t) i n p up j q x a b = row_apart ls i 1 p up j q x [] (λ e. omega arith) refl
none_below ls (braced t) i n p up j q x a b = row_apart ls i (width t + 2) p up j q x (rows_of ls t (suc i) (suc n) p n 0) (λ e. omega arith) (none_below ls t (suc i) (suc n) p n 0 q x (omega arith) (omega arith))
none_below ls (chosen_void k w) i n p up j q x a b = row_apart ls i 1 p up j q x (row_over ls i 1 k n 0 ∷ []) (λ e. omega arith) (row_apart ls i 1 k n 0 q x [] (λ e. omega arith) refl)
none_below ls (chosen k w v) i n p up j q x a b = row_apart ls i (2 + width v) p up j q x (rows_of ls v (2 + i) (suc n) k n 0) (λ e. omega arith) (none_below ls v (2 + i) (suc n) k n 0 q x (omega arith) (omega arith))
none_below ls (chosen_int k w) i n p up j q x a b = row_apart ls i 1 p up j q x (row_over ls i 1 k n 0 ∷ []) (λ e. omega arith) (row_apart ls i 1 k n 0 q x [] (λ e. omega arith) refl)
none_below ls (last v) i n p up j q x a b = none_below ls v i n p up j q x a b
none_below ls (more v l) i n p up j q x a b =
    none_append q x (rows_of ls v i n p up j) (rows_of ls l (i + suc (width v)) (n + row_count v) p up (suc j))
    (none_below ls v i n p up j q x a b)
    (none_below ls l (i + suc (width v)) (n + row_count v) p up (suc j) q x a (omega arith))
none_below ls (listed k l t) i n p up j q x a b =
    none_append q x (rows_of ls l i n k up 0) (rows_of ls t (i + width l) (n + row_count l) p up j)
    (none_below ls l i n k up 0 q x a b)
    (none_below ls t (i + width l) (n + row_count l) p up j q x a (omega arith))
none_below ls stopped i n p up j q x a b = refl
none_below ls (itemized t) i n p up j q x a b = none_below ls t i n p up j q x a b
none_below ls no_item i n p up j q x a b = refl
none_below ls (void_item k w t) i n p up j q x a b = row_apart ls i 1 k up 0 q x (rows_of ls t (suc i) (suc n) p up j) (λ e. omega arith) (none_below ls t (suc i) (suc n) p up j q x a (omega arith))
none_below ls (list_item k w l t) i n p up j q x a b =
    none_append q x (rows_of ls l (2 + i) n k up 0) (rows_of ls t (2 + i + width l) (n + row_count l) p up j)
    (none_below ls l (2 + i) n k up 0 q x a b)
    (none_below ls t (2 + i + width l) (n + row_count l) p up j q x a (omega arith))
none_below ls (unknown_item w t) i n p up j q x a b = none_below ls t (suc i) n p up j q x a b
none_below ls (unknown_list_item w l t) i n p up j q x a b = none_below ls t (2 + i + width l) n p up j q x a b

-- of a value's rows its own alone stands right under the row above
value_alike : (ls : List Lexeme) (v : Tree value) (i n p up j q : ℕ) → up < n → alike q up (rows_of ls v i n p up j) ≡ same p q
unfolding rows_of alike
value_alike ls (leaf t) i n p up j q h = omega (arith, row_own ls i 1 p up j q [])
value_alike ls (braced t) i n p up j q h = omega (arith, row_own ls i (width t + 2) p up j q (rows_of ls t (suc i) (suc n) p n 0), none_below ls t (suc i) (suc n) p n 0 q up h (omega arith))
value_alike ls (chosen_void k w) i n p up j q h = omega (arith, row_own ls i 1 p up j q (row_over ls i 1 k n 0 ∷ []), row_apart ls i 1 k n 0 q up [] (λ e. omega arith) refl)
value_alike ls (chosen k w v) i n p up j q h = omega (arith, row_own ls i (2 + width v) p up j q (rows_of ls v (2 + i) (suc n) k n 0), none_below ls v (2 + i) (suc n) k n 0 q up h (omega arith))
value_alike ls (chosen_int k w) i n p up j q h = omega (arith, row_own ls i 1 p up j q (row_over ls i 1 k n 0 ∷ []), row_apart ls i 1 k n 0 q up [] (λ e. omega arith) refl)

-- a list has no row of another parameter right under the row above
list_alike : (ls : List Lexeme) (l : Tree list) (i n p up j q : ℕ) → up < n → same p q ≡ 0 → alike q up (rows_of ls l i n p up j) ≡ 0
unfolding rows_of
list_alike ls (last v) i n p up j q h e = value_alike ls v i n p up j q h ∙ e
list_alike ls (more v l) i n p up j q h e =
    none_append q up (rows_of ls v i n p up j) (rows_of ls l (i + suc (width v)) (n + row_count v) p up (suc j))
    (value_alike ls v i n p up j q h ∙ e)
    (list_alike ls l (i + suc (width v)) (n + row_count v) p up (suc j) q (omega arith) e)

-- ---- indices

-- no row's parent is the n-th or a later one
abbrev Fresh : ℕ → List Row → Type 0
Fresh n before = (q x : ℕ) → n ≤ x → alike q x before ≡ 0

fresh_row : (ls : List Lexeme) (i m p up j n : ℕ) (before : List Row) → up < n → Fresh n before → Fresh n (row_over ls i m p up j ∷ before)
fresh_row ls i m p up j n before h f q x l = row_apart ls i m p up j q x before (λ e. omega arith) (f q x l)

fresh_rows : {s : TreeSort} (ls : List Lexeme) (t : Tree s) (i n p up j : ℕ) (before : List Row) → up < n → Fresh n before → Fresh (n + row_count t) (onto (rows_of ls t i n p up j) before)
fresh_rows ls t i n p up j before h f q x l =
    let c = rows_counted ls t i n p up j in
    omega (arith, alike_onto q x (rows_of ls t i n p up j) before, none_above n (rows_of ls t i n p up j) q x (parents_first ls t i n p up j h) (omega (arith, c)), f q x (omega arith))

numbered_append : (before a b : List Row) → Numbered before a → Numbered (onto a before) b → Numbered before (a ++ b)
unfolding Numbered onto
numbered_append before [] b h k = k
numbered_append before (r ∷ a) b h k = (h.0, numbered_append (r ∷ before) a b h.1 k)

-- a body that may come next: none of its fields still to come has a row under the row up
record BodyReady (S : Schema) (t : Tree body) (before : List Row) (up : ℕ) : Type 0 where
  of : ℕ
  left : List ℕ
  law : Law S (of, left) t
  once : Once left
  none : (q : ℕ) → In q left → alike q up before ≡ 0
  no_items : (q : ℕ) (w : List ℕ) → S.find of w ≡ found q → alike q up before ≡ 0
  apart : (q : ℕ) (w : List ℕ) → S.find of w ≡ found q → In q left → ⊥

record ItemsReady (S : Schema) (t : Tree items) (before : List Row) (up : ℕ) : Type 0 where
  of : ℕ
  law : Law S of t
  once : Once (fields_of t)
  none : (q : ℕ) → In q (fields_of t) → alike q up before ≡ 0

-- a tree that may come next: a value or list of p, whose first value has the index j
unfoldable Ready : (s : TreeSort) → Schema → Tree s → List Row → ℕ → ℕ → ℕ → Type 0
Ready unknown_value S t before p up j = Unit {0}
Ready unknown_list S t before p up j = Unit {0}
Ready value S t before p up j = Law S p t × (j ≡ alike p up before)
Ready list S t before p up j = Law S p t × (j ≡ alike p up before)
Ready body S t before p up j = BodyReady S t before up
Ready items S t before p up j = ItemsReady S t before up

-- an item's field is one of the body's
fields_found : (S : Schema) (t : Tree items) (p q : ℕ) → Law S p t → In q (fields_of t) → (w : List ℕ) × (S.find p w ≡ found q)
unfolding Law fields_of
fields_found S no_item p q l h = in_nil q h
fields_found S (void_item k w t) p q l h = in_cons q k (fields_of t) h (λ e. (w, l.0 ∙ ap found e)) (λ g. fields_found S t p q l.2 g)
fields_found S (list_item k w v t) p q l h = in_cons q k (fields_of t) h (λ e. (w, l.0 ∙ ap found e)) (λ g. fields_found S t p q l.4 g)
fields_found S (unknown_item w t) p q l h = fields_found S t p q l.1 h
fields_found S (unknown_list_item w v t) p q l h = fields_found S t p q l.2 h

-- after a field's list no other field has more rows
after_list : (ls : List Lexeme) (l : Tree list) (before : List Row) (i n k up q : ℕ) → up < n → same k q ≡ 0 → alike q up before ≡ 0 → alike q up (onto (rows_of ls l i n k up 0) before) ≡ 0
after_list ls l before i n k up q h e z = omega (arith, alike_onto q up (rows_of ls l i n k up 0) before, list_alike ls l i n k up 0 q h e)

-- a body's first list may come next, and then the rest
after_body : (S : Schema) (ls : List Lexeme) (k : ℕ) (l : Tree list) (b : Tree body) (before : List Row) (i n up : ℕ) → up < n → BodyReady S (listed k l b) before up → Ready list S l before k up 0 × BodyReady S b (onto (rows_of ls l i n k up 0) before) up
unfolding Law Ready
after_body S ls k l b before i n up h R =
    let e = R.law.1 in
    let o : Once (k ∷ R.law.0) = rw e at R.once in
    let none : (q : ℕ) → In q (k ∷ R.law.0) → alike q up before ≡ 0 = rw e at R.none in
    let apart : (q : ℕ) (w : List ℕ) → S.find R.of w ≡ found q → In q (k ∷ R.law.0) → ⊥ = rw e at R.apart in (
      (R.law.2, sym (none k (in_head k R.law.0))),
      record {
        of = R.of;
        left = R.law.0;
        law = R.law.4;
        once = once_tail k R.law.0 o;
        none = λ q g. after_list ls l before i n k up q h (once_apart k R.law.0 o q g) (none q (in_tail q k R.law.0 g));
        no_items = λ q w g. after_list ls l before i n k up q h (out_apart k R.law.0 q (apart q w g)) (R.no_items q w g);
        apart = λ q w g z. apart q w g (in_tail q k R.law.0 z);
      },
    )

module _ (S : Schema) (ls : List Lexeme) (untagged-once : (p : ℕ) → Once (S.untagged p)) (tagged-apart : (p q : ℕ) (w : List ℕ) → S.find p w ≡ found q → In q (S.untagged p) → ⊥) where
  -- the body under a row of its own, the n-th
  body_ready : (b : Tree body) (before : List Row) (p n : ℕ) → Law S (p, S.untagged p) b → Fresh n before → BodyReady S b before n
  body_ready b before p n l f =
      record {
        of = p;
        left = S.untagged p;
        law = l;
        once = untagged-once p;
        none = λ q h. f q n (omega arith);
        no_items = λ q w h. f q n (omega arith);
        apart = λ q w h. tagged-apart p q w h;
      }

  rows_numbered : {s : TreeSort} (t : Tree s) (before : List Row) (i n p up j : ℕ) → up < n → Fresh n before → Ready s S t before p up j → Numbered before (rows_of ls t i n p up j)
  unfolding rows_of Numbered Ready Law row_over fields_of
  rows_numbered (unknown_word w) before i n p up j h f R = tt
  rows_numbered (unknown_string w) before i n p up j h f R = tt
  rows_numbered (unknown_braces ts) before i n p up j h f R = tt
  rows_numbered (unknown_pair w v) before i n p up j h f R = tt
  rows_numbered (unknown_last v) before i n p up j h f R = tt
  rows_numbered (unknown_more v l) before i n p up j h f R = tt
  rows_numbered (leaf t) before i n p up j h f R = (R.1, tt)
  rows_numbered (braced b) before i n p up j h f R =
      let g = fresh_row ls i (width b + 2) p up j n before h f in
      (R.1, rows_numbered b (row_over ls i (width b + 2) p up j ∷ before) (suc i) (suc n) p n 0 (omega arith) (λ q x l. g q x (omega arith)) (body_ready b (row_over ls i (width b + 2) p up j ∷ before) (S.core p) n R.0.1 g))
  rows_numbered (chosen_void k w) before i n p up j h f R = (R.1, (sym (fresh_row ls i 1 p up j n before h f k n (omega arith)), tt))
  rows_numbered (chosen k w v) before i n p up j h f R =
      let g = fresh_row ls i (2 + width v) p up j n before h f in
      (R.1, rows_numbered v (row_over ls i (2 + width v) p up j ∷ before) (2 + i) (suc n) k n 0 (omega arith) (λ q x l. g q x (omega arith)) (R.0.3, sym (g k n (omega arith))))
  rows_numbered (chosen_int k w) before i n p up j h f R = (R.1, (sym (fresh_row ls i 1 p up j n before h f k n (omega arith)), tt))
  rows_numbered (last v) before i n p up j h f R = rows_numbered v before i n p up j h f R
  rows_numbered (more v l) before i n p up j h f R =
      let a = rows_of ls v i n p up j in
      let b = rows_of ls l (i + suc (width v)) (n + row_count v) p up (suc j) in
      numbered_append before a b
      (rows_numbered v before i n p up j h f (R.0.0, R.1))
      (rows_numbered l (onto a before) (i + suc (width v)) (n + row_count v) p up (suc j) (omega arith) (fresh_rows ls v i n p up j before h f)
      (R.0.1, omega (arith, alike_onto p up a before, value_alike ls v i n p up j p h, same_self p, R.1)))
  rows_numbered (listed k l b) before i n p up j h f R =
      let a = rows_of ls l i n k up 0 in
      let c = rows_of ls b (i + width l) (n + row_count l) p up j in
      let z = after_body S ls k l b before i n up h R in
      numbered_append before a c
      (rows_numbered l before i n k up 0 h f z.0)
      (rows_numbered b (onto a before) (i + width l) (n + row_count l) p up j (omega arith) (fresh_rows ls l i n k up 0 before h f) z.1)
  rows_numbered stopped before i n p up j h f R = tt
  rows_numbered (itemized t) before i n p up j h f R =
      rows_numbered t before i n p up j h f
      (record {
        of = R.of;
        law = R.law.1;
        once = R.law.2;
        none = λ q g. let w = fields_found S t R.of q R.law.1 g in R.no_items q w.0 w.1;
      })
  rows_numbered no_item before i n p up j h f R = tt
  rows_numbered (void_item k w t) before i n p up j h f R =
      let r = row_over ls i 1 k up 0 in
      let g = fresh_row ls i 1 k up 0 n before h f in (
        sym (R.none k (in_head k (fields_of t))),
        rows_numbered t (r ∷ before) (suc i) (suc n) p up j (omega arith) (λ q x l. g q x (omega arith))
            (record {
              of = R.of;
              law = R.law.2;
              once = once_tail k (fields_of t) R.once;
              none = λ q z. omega (arith, row_own ls i 1 k up 0 q before, once_apart k (fields_of t) R.once q z, R.none q (in_tail q k (fields_of t) z));
            }),
      )
  rows_numbered (list_item k w l t) before i n p up j h f R =
      let a = rows_of ls l (2 + i) n k up 0 in
      let c = rows_of ls t (2 + i + width l) (n + row_count l) p up j in
      numbered_append before a c
      (rows_numbered l before (2 + i) n k up 0 h f (R.law.2, sym (R.none k (in_head k (fields_of t)))))
      (rows_numbered t (onto a before) (2 + i + width l) (n + row_count l) p up j (omega arith) (fresh_rows ls l (2 + i) n k up 0 before h f)
      (record {
        of = R.of;
        law = R.law.4;
        once = once_tail k (fields_of t) R.once;
        none = λ q z. after_list ls l before (2 + i) n k up q h (once_apart k (fields_of t) R.once q z) (R.none q (in_tail q k (fields_of t) z));
      }))
  rows_numbered (unknown_item w t) before i n p up j h f R = rows_numbered t before (suc i) n p up j h f (record { of = R.of; law = R.law.1; once = R.once; none = R.none })
  rows_numbered (unknown_list_item w l t) before i n p up j h f R = rows_numbered t before (2 + i + width l) n p up j h f (record { of = R.of; law = R.law.2; once = R.once; none = R.none })

-- ---- where the index is 0

zeroed_append : (S : Schema) (all a b : List Row) → Zeroed S all a → Zeroed S all b → Zeroed S all (a ++ b)
unfolding Zeroed
zeroed_append S all [] b h k = k
zeroed_append S all (r ∷ a) b h k = (h.0, h.1, zeroed_append S all a b h.2 k)

-- two different kinds
simple_void : {X : Type 0} (k : Kind) → k ≡ simple → k ≡ void → X
simple_void k a b = let z : ◌≡◌ {A = ℕ} 0 1 = cc in absurd (omega arith)

struct_void : {X : Type 0} (k : Kind) → k ≡ struct → k ≡ void → X
struct_void k a b = let z : ◌≡◌ {A = ℕ} 0 1 = cc in absurd (omega arith)

union_void : {X : Type 0} (k : Kind) → k ≡ union → k ≡ void → X
union_void k a b = let z : ◌≡◌ {A = ℕ} 0 1 = cc in absurd (omega arith)

struct_union : {X : Type 0} (k : Kind) → k ≡ struct → k ≡ union → X
struct_union k a b = let z : ◌≡◌ {A = ℕ} 0 1 = cc in absurd (omega arith)

module _ (S : Schema) (ls : List Lexeme) (all : List Row) where
  -- the kind that the row up is of
  abbrev kind_above : ℕ → Kind
  kind_above up = S.kind (S.core (get_or all up no_span).parameter)

  -- a lawful tree; under a union's row stands one value, with the index 0
  unfoldable UnderKind : (s : TreeSort) → Tree s → ℕ → ℕ → ℕ → Type 0
  UnderKind unknown_value t p up j = Unit {0}
  UnderKind unknown_list t p up j = Unit {0}
  UnderKind value t p up j = Law S p t × (kind_above up ≡ union → j ≡ 0)
  UnderKind list t p up j = Law S p t × (kind_above up ≡ struct)
  UnderKind body t p up j = (c : For body) × Law S c t × (kind_above up ≡ struct)
  UnderKind items t p up j = (c : For items) × Law S c t × (kind_above up ≡ struct)

  row_zeroed : (i m p up j : ℕ) (rs : List Row) → (S.kind (S.core p) ≡ void → j ≡ 0) → (kind_above up ≡ union → j ≡ 0) → Zeroed S all rs → Zeroed S all (row_over ls i m p up j ∷ rs)
  unfolding Zeroed row_over
  row_zeroed i m p up j rs a b h = (a, b, h)

  -- what the n-th row is of
  above_is : (i m p up j n : ℕ) → get_or all n no_span ≡ row_over ls i m p up j → kind_above n ≡ S.kind (S.core p)
  unfolding row_over
  above_is i m p up j n e = ap (λ r. S.kind (S.core r.parameter)) e

  rows_zeroed : {s : TreeSort} (t : Tree s) (i n p up j : ℕ) → UnderKind s t p up j → Holds all n (rows_of ls t i n p up j) → Zeroed S all (rows_of ls t i n p up j)
  unfolding rows_of row_count Zeroed Holds UnderKind Law
  rows_zeroed (unknown_word w) i n p up j R h = tt
  rows_zeroed (unknown_string w) i n p up j R h = tt
  rows_zeroed (unknown_braces ts) i n p up j R h = tt
  rows_zeroed (unknown_pair w v) i n p up j R h = tt
  rows_zeroed (unknown_last v) i n p up j R h = tt
  rows_zeroed (unknown_more v l) i n p up j R h = tt
  rows_zeroed (leaf t) i n p up j R h = row_zeroed i 1 p up j [] (simple_void (S.kind (S.core p)) R.0.0) R.1 tt
  rows_zeroed (braced b) i n p up j R h =
      row_zeroed i (width b + 2) p up j (rows_of ls b (suc i) (suc n) p n 0) (struct_void (S.kind (S.core p)) R.0.0) R.1
      (rows_zeroed b (suc i) (suc n) p n 0 ((S.core p, S.untagged (S.core p)), R.0.1, above_is i (width b + 2) p up j n h.0 ∙ R.0.0) h.1)
  rows_zeroed (chosen_void k w) i n p up j R h =
      row_zeroed i 1 p up j (row_over ls i 1 k n 0 ∷ []) (union_void (S.kind (S.core p)) R.0.0) R.1 (row_zeroed i 1 k n 0 [] (λ e. refl) (λ e. refl) tt)
  rows_zeroed (chosen k w v) i n p up j R h =
      row_zeroed i (2 + width v) p up j (rows_of ls v (2 + i) (suc n) k n 0) (union_void (S.kind (S.core p)) R.0.0) R.1
      (rows_zeroed v (2 + i) (suc n) k n 0 (R.0.3, λ e. refl) h.1)
  rows_zeroed (chosen_int k w) i n p up j R h =
      row_zeroed i 1 p up j (row_over ls i 1 k n 0 ∷ []) (union_void (S.kind (S.core p)) R.0.0) R.1 (row_zeroed i 1 k n 0 [] (λ e. refl) (λ e. refl) tt)
  rows_zeroed (last v) i n p up j R h = rows_zeroed v i n p up j (R.0, struct_union (kind_above up) R.1) h
  rows_zeroed (more v l) i n p up j R h =
      let a = rows_of ls v i n p up j in
      let b = rows_of ls l (i + suc (width v)) (n + row_count v) p up (suc j) in
      zeroed_append S all a b
      (rows_zeroed v i n p up j (R.0.0, struct_union (kind_above up) R.1) (holds_first all n a b h))
      (rows_zeroed l (i + suc (width v)) (n + row_count v) p up (suc j) (R.0.1, R.1) (holds_after all n (row_count v) a b (rows_counted ls v i n p up j) h))
  rows_zeroed (listed k l b) i n p up j R h =
      let x = rows_of ls l i n k up 0 in
      let y = rows_of ls b (i + width l) (n + row_count l) p up j in
      zeroed_append S all x y
      (rows_zeroed l i n k up 0 (R.1.2, R.2) (holds_first all n x y h))
      (rows_zeroed b (i + width l) (n + row_count l) p up j ((R.0.0, R.1.0), R.1.4, R.2) (holds_after all n (row_count l) x y (rows_counted ls l i n k up 0) h))
  rows_zeroed stopped i n p up j R h = tt
  rows_zeroed (itemized t) i n p up j R h = rows_zeroed t i n p up j (R.0.0, R.1.1, R.2) h
  rows_zeroed no_item i n p up j R h = tt
  rows_zeroed (void_item k w t) i n p up j R h =
      row_zeroed i 1 k up 0 (rows_of ls t (suc i) (suc n) p up j) (λ e. refl) (λ e. refl)
      (rows_zeroed t (suc i) (suc n) p up j (R.0, R.1.2, R.2) h.1)
  rows_zeroed (list_item k w l t) i n p up j R h =
      let x = rows_of ls l (2 + i) n k up 0 in
      let y = rows_of ls t (2 + i + width l) (n + row_count l) p up j in
      zeroed_append S all x y
      (rows_zeroed l (2 + i) n k up 0 (R.1.2, R.2) (holds_first all n x y h))
      (rows_zeroed t (2 + i + width l) (n + row_count l) p up j (R.0, R.1.4, R.2) (holds_after all n (row_count l) x y (rows_counted ls l (2 + i) n k up 0) h))
  rows_zeroed (unknown_item w t) i n p up j R h = rows_zeroed t (suc i) n p up j (R.0, R.1.1, R.2) h
  rows_zeroed (unknown_list_item w l t) i n p up j R h = rows_zeroed t (2 + i + width l) n p up j (R.0, R.1.2, R.2) h

-- ---- one list

-- the rows of one parameter under one row have 0, 1, 2 .. in order
indices_from : (before rs : List Row) → Numbered before rs → (p up : ℕ) → indices_under p up rs ≡ count_up (alike p up before) (alike p up rs)
unfolding Numbered indices_under count_up alike
indices_from before [] h p up = refl
indices_from before (r ∷ rs) h p up = go (eqb p r.parameter) (eqb up r.parent) refl refl (indices_from (r ∷ before) rs h.1 p up)
  where
    go : (a b : Bool) → eqb p r.parameter ≡ a → eqb up r.parent ≡ b
        → indices_under p up rs ≡ count_up (elim (a && b) [ true ↦ suc (alike p up before) | false ↦ alike p up before ]) (alike p up rs)
        → elim (a && b) [ true ↦ r.index ∷ indices_under p up rs | false ↦ indices_under p up rs ] ≡ count_up (alike p up before) (elim (a && b) [ true ↦ suc (alike p up rs) | false ↦ alike p up rs ])
    go true true x y e =
        let q : r.index ≡ alike p up before = rw (eqb-true p r.parameter x, eqb-true up r.parent y) h.0 in
        rw (q, e) refl
    go true false x y e = e
    go false b x y e = e

pub in_order_lem : (rs : List Row) → Numbered [] rs → (p up : ℕ) → indices_under p up rs ≡ count_up 0 (alike p up rs)
in_order_lem rs h p up = unfold alike in (indices_from [] rs h p up)

-- ---- of a table

-- a tagged field isn't an untagged one
tags_apart : (records : List Record) (p q : ℕ) (w : List ℕ) → (schema_of records).find p w ≡ found q → In q ((schema_of records).untagged p) → ⊥
unfolding schema_of
tags_apart records p q w e i =
    let u = untagged_is p (record_at records q) (untagged_in records p q i).1 in
    let g = where_is (is_tagged_as p w) 0 records q e in
    let z : q ≡ g.0 = omega (arith, g.1) in
    let t = tagged_is p (record_at records g.0) (both_true (is_tagged_of p (record_at records g.0)) _ g.3).0 in
    clash_bool (sym t.1 ∙ (ap (λ k. (record_at records k).untagged) (sym z) ∙ u.1))

-- "the place of the value in its list, from 0; the root, voids and chosen alternatives have 0"
pub indices_stand : (records : List Record) (message : List ℕ) (ls : List Lexeme) (t : Tree body) → (schema_of records).kind ((schema_of records).core 0) ≡ struct → Lawful (schema_of records) t → IndicesStand (schema_of records) (message_rows message ls t)
unfolding message_rows
indices_stand records message ls t k l =
    let S = schema_of records in
    let once : (p : ℕ) → Once (S.untagged p) = unfold schema_of in (λ p. where_once (is_untagged_of p) 0 records) in
    let fresh : Fresh 0 [] = unfold alike in (λ q x h. refl) in
    record {
      root = _;
      rest = rows_of ls t 0 1 0 0 0;
      rows = refl;
      first = refl;
      numbered = rows_numbered S ls once (tags_apart records) t [] 0 1 0 0 0 (omega arith) (λ q x h. fresh q x (omega arith)) (unfold Ready in (body_ready S ls once (tags_apart records) t [] 0 0 l fresh));
      zeros = rows_zeroed S ls (message_rows message ls t) t 0 1 0 0 0 (unfold UnderKind in ((0, S.untagged 0), l, k)) (holds_self _ (rows_of ls t 0 1 0 0 0));
    }
