-- Every lawful tree is read, where depth and fuel are enough.
use mathlib.Core.Path.{◌≡◌, refl, ◌∙◌}
use mathlib.Core.Bool.{Bool, true, false}
use mathlib.Core.List.{List, [], ◌∷◌, ◌++◌}
use Prim.Native.Nat.{ℕ, zero, suc, ◌+◌, ◌≤◌, ◌<◌, max}
use native.Mathlib.Omega.{arith}
use lib.Dec.{eqb, leb, ltb}
use lib.ListN.{length}
use borrow.Author.Tests.{leb-true, eqb-true, le-leb, lt-ltb}
use Rattle.classes.proofs.Bools.{or_case, or_left, or_right}
use Rattle.numbers.specs.Limits.{no_limit}
use Rattle.numbers.specs.Decimal.{is_int_like}
use Rattle.reading_rules.specs.Token.{Token, word, string, equals, comma, opening, closing, is_text}
use Rattle.reading_rules.specs.Schema.{union, Found, nowhere, found, Schema, at_most, WellFormed}
use Rattle.reading_rules.specs.Count.{times, In, all_in}
use Rattle.reading_rules.proofs.CountLaws.{clash_bool, in_all, out_hasnt, was_new}
use Rattle.reading_rules.specs.Reading.{TreeSort, unknown_value, unknown_list, value, list, body, items, Tree, unknown_word, unknown_string, unknown_braces, unknown_pair, unknown_last, unknown_more, leaf, braced, chosen_void, chosen, chosen_int, last, more, listed, stopped, itemized, no_item, void_item, list_item, unknown_item, unknown_list_item, leaves_then, balanced_from, count, fields_of, InRange, Law}
use Rattle.reading_rules.specs.Parse.{Result, got, then, need, whether, on_equals, after_token, pair_with, braces_at, unknown_at, after_unknown, unknowns_at, judged, simple_at, shut, struct_at, alternative, bare_for, choose, union_at, by_kind, value_at, may_grow, list_ends, after_value, list_at, whole_list, required_of, end_number, body_ends, unknown_after, item_at, items_at, list_then, lists_at, whole_value, body_at}
use Rattle.reading_rules.proofs.Inverse.{required_is, BodyMayEnd}
use Rattle.reading_rules.specs.Reading.{width}

-- how many braces of structs stand open at once
unfoldable pub deep : {s : TreeSort} → Tree s → ℕ
deep (unknown_word w) = 0
deep (unknown_string w) = 0
deep (unknown_braces ts) = 0
deep (unknown_pair w v) = 0
deep (unknown_last v) = 0
deep (unknown_more v l) = 0
deep (leaf t) = 0
deep (braced b) = suc (deep b)
deep (chosen_void q w) = 0
deep (chosen q w v) = deep v
deep (chosen_int q w) = 0
deep (last v) = deep v
deep (more v l) = max (deep v) (deep l)
deep (listed q l b) = max (deep l) (deep b)
deep stopped = 0
deep (itemized i) = deep i
deep no_item = 0
deep (void_item q w i) = deep i
deep (list_item q w l i) = max (deep l) (deep i)
deep (unknown_item w i) = deep i
deep (unknown_list_item w l i) = deep i

length_braces : (ts : List Token) (r : List Token) → length (ts ++ closing ∷ r) ≡ length ts + suc (length r)
length_braces [] r = omega arith
length_braces (t ∷ ts) r = omega (arith, length_braces ts r)

-- the leaves are as many as the tree is wide
pub leaves_width : {s : TreeSort} (t : Tree s) (r : List Token) → length (leaves_then t r) ≡ width t + length r
unfolding leaves_then width
leaves_width (unknown_word w) r = omega arith
leaves_width (unknown_string w) r = omega arith
leaves_width (unknown_braces ts) r = omega (arith, length_braces ts r)
leaves_width (unknown_pair w v) r = omega (arith, leaves_width v r)
leaves_width (unknown_last v) r = leaves_width v r
leaves_width (unknown_more v l) r = omega (arith, leaves_width v (comma ∷ leaves_then l r), leaves_width l r)
leaves_width (leaf t) r = omega arith
leaves_width (braced b) r = omega (arith, leaves_width b (closing ∷ r))
leaves_width (chosen_void q w) r = omega arith
leaves_width (chosen q w v) r = omega (arith, leaves_width v r)
leaves_width (chosen_int q w) r = omega arith
leaves_width (last v) r = leaves_width v r
leaves_width (more v l) r = omega (arith, leaves_width v (comma ∷ leaves_then l r), leaves_width l r)
leaves_width (listed q l b) r = omega (arith, leaves_width l (leaves_then b r), leaves_width b r)
leaves_width stopped r = omega arith
leaves_width (itemized i) r = leaves_width i r
leaves_width no_item r = omega arith
leaves_width (void_item q w i) r = omega (arith, leaves_width i r)
leaves_width (list_item q w l i) r = omega (arith, leaves_width l (leaves_then i r), leaves_width i r)
leaves_width (unknown_item w i) r = omega (arith, leaves_width i r)
leaves_width (unknown_list_item w l i) r = omega (arith, leaves_width l (leaves_then i r), leaves_width i r)

pub value_wide : (v : Tree value) → 1 ≤ width v
unfolding width
value_wide (leaf t) = omega arith
value_wide (braced b) = omega arith
value_wide (chosen_void q w) = omega arith
value_wide (chosen q w v) = omega arith
value_wide (chosen_int q w) = omega arith

pub list_wide : (l : Tree list) → 1 ≤ width l
unfolding width
list_wide (last v) = value_wide v
list_wide (more v l) = omega (arith, value_wide v)

pub unknown_wide : (v : Tree unknown_value) → 1 ≤ width v
unfolding width
unknown_wide (unknown_word w) = omega arith
unknown_wide (unknown_string w) = omega arith
unknown_wide (unknown_braces ts) = omega arith
unknown_wide (unknown_pair w v) = omega arith

pub unknowns_wide : (l : Tree unknown_list) → 1 ≤ width l
unfolding width
unknowns_wide (unknown_last v) = unknown_wide v
unknowns_wide (unknown_more v l) = omega arith

pub count_pos : (l : Tree list) → 1 ≤ count l
unfolding count
count_pos (last v) = omega arith
count_pos (more v l) = omega arith

-- what stands first among the tokens
pub data Column : Type 0 where
  nothing text brace sign separator end : Column

unfoldable pub column_for : List Token → Column
column_for [] = nothing
column_for (word w ∷ r) = text
column_for (string w ∷ r) = text
column_for (opening ∷ r) = brace
column_for (equals ∷ r) = sign
column_for (comma ∷ r) = separator
column_for (closing ∷ r) = end

-- no `=`; no `,`; a value
unfoldable pub no_sign : Column → Bool
no_sign nothing = true
no_sign text = true
no_sign brace = true
no_sign sign = false
no_sign separator = true
no_sign end = true

unfoldable pub no_separator : Column → Bool
no_separator nothing = true
no_separator text = true
no_separator brace = true
no_separator sign = true
no_separator separator = false
no_separator end = true

unfoldable pub is_value : Column → Bool
is_value nothing = false
is_value text = true
is_value brace = true
is_value sign = false
is_value separator = false
is_value end = false

abbrev pub Calm : List Token → Type 0
Calm r = (no_sign (column_for r) ≡ true) × (no_separator (column_for r) ≡ true)

value_calm : (x : List Token) → is_value (column_for x) ≡ true → Calm x
unfolding column_for is_value no_sign no_separator
value_calm [] e = (refl, refl)
value_calm (word w ∷ x) e = (refl, refl)
value_calm (string w ∷ x) e = (refl, refl)
value_calm (opening ∷ x) e = (refl, refl)
value_calm (equals ∷ x) e = clash_bool e
value_calm (comma ∷ x) e = clash_bool e
value_calm (closing ∷ x) e = (refl, refl)

ends_calm : (inside : Bool) (r : List Token) → BodyMayEnd inside r → Calm r
unfolding BodyMayEnd column_for no_sign no_separator
ends_calm false r e = rw e (refl, refl)
ends_calm true r e = rw e.1 (refl, refl)

items_calm : (inside : Bool) (t : Tree items) (r : List Token) → BodyMayEnd inside r → Calm (leaves_then t r)
unfolding leaves_then column_for no_sign no_separator
items_calm inside no_item r e = ends_calm inside r e
items_calm inside (void_item q w i) r e = (refl, refl)
items_calm inside (list_item q w l i) r e = (refl, refl)
items_calm inside (unknown_item w i) r e = (refl, refl)
items_calm inside (unknown_list_item w l i) r e = (refl, refl)

-- unknown parts
braces_complete : (ts : List Token) (k : ℕ) (r : List Token) → balanced_from ts k ≡ true → braces_at (ts ++ closing ∷ r) k ≡ got ts r
unfolding braces_at balanced_from after_token
braces_complete [] zero r e = refl
braces_complete [] (suc k) r e = absurd (omega (arith, eqb-true (suc k) 0 e))
braces_complete (word w ∷ ts) k r e = rw (braces_complete ts k r e)
braces_complete (string w ∷ ts) k r e = rw (braces_complete ts k r e)
braces_complete (equals ∷ ts) k r e = rw (braces_complete ts k r e)
braces_complete (comma ∷ ts) k r e = rw (braces_complete ts k r e)
braces_complete (opening ∷ ts) k r e = rw (braces_complete ts (suc k) r e)
braces_complete (closing ∷ ts) zero r e = clash_bool e
braces_complete (closing ∷ ts) (suc k) r e = rw (braces_complete ts k r e)

word_alone : (w : List ℕ) (r : List Token) → no_sign (column_for r) ≡ true → unknown_at (word w ∷ r) ≡ got (unknown_word w) r
unfolding unknown_at column_for no_sign
word_alone w [] e = refl
word_alone w (word v ∷ r) e = refl
word_alone w (string v ∷ r) e = refl
word_alone w (opening ∷ r) e = refl
word_alone w (equals ∷ r) e = clash_bool e
word_alone w (comma ∷ r) e = refl
word_alone w (closing ∷ r) e = refl

module _ (S : Schema) where
  unknown_complete : (t : Tree unknown_value) (r : List Token) → Law S tt t → no_sign (column_for r) ≡ true → unknown_at (leaves_then t r) ≡ got t r
  unfolding leaves_then Law unknown_at pair_with then
  unknown_complete (unknown_word w) r l c = word_alone w r c
  unknown_complete (unknown_string w) r l c = refl
  unknown_complete (unknown_braces ts) r l c = rw (braces_complete ts 0 r l)
  unknown_complete (unknown_pair w v) r l c = rw (unknown_complete v r l c)

  unknown_last_lem : (next : List Token → Result (Tree unknown_list)) (v : Tree unknown_value) (r : List Token) → no_separator (column_for r) ≡ true → after_unknown next v r ≡ got (unknown_last v) r
  unfolding after_unknown column_for no_separator
  unknown_last_lem next v [] e = refl
  unknown_last_lem next v (word w ∷ r) e = refl
  unknown_last_lem next v (string w ∷ r) e = refl
  unknown_last_lem next v (opening ∷ r) e = refl
  unknown_last_lem next v (equals ∷ r) e = refl
  unknown_last_lem next v (comma ∷ r) e = clash_bool e
  unknown_last_lem next v (closing ∷ r) e = refl

  unknowns_complete : (fuel : ℕ) (t : Tree unknown_list) (r : List Token) → Law S tt t → Calm r → width t ≤ fuel → unknowns_at fuel (leaves_then t r) ≡ got t r
  unfolding leaves_then Law unknowns_at then after_unknown width column_for no_sign
  unknowns_complete zero t r l c m = absurd (omega (arith, unknowns_wide t))
  unknowns_complete (suc fuel) (unknown_last v) r l c m = rw (unknown_complete v r l c.0) (unknown_last_lem (unknowns_at fuel) v r c.1)
  unknowns_complete (suc fuel) (unknown_more v t) r l c m = rw (unknown_complete v (comma ∷ leaves_then t r) l.0 refl, unknowns_complete fuel t r l.1 c (omega (arith, unknown_wide v)))

  -- values
  abbrev pub BodyComplete : ℕ → (ℕ → List Token → Result (Tree body)) → Type 0
  BodyComplete d body_of = (p : ℕ) (b : Tree body) (r : List Token) → Law S (p, S.untagged p) b → BodyMayEnd true r → deep b < d → body_of p (leaves_then b r) ≡ got b r

  abbrev pub ValueComplete : ℕ → (ℕ → List Token → Result (Tree value)) → Type 0
  ValueComplete d value_of = (q : ℕ) (t : Tree value) (r : List Token) → Law S q t → deep t ≤ d → value_of q (leaves_then t r) ≡ got t r

  module _ (W : WellFormed S) where
    no_bare : (u k : ℕ) (w : List ℕ) → S.kind u ≡ union → S.find u w ≡ found k → bare_for (S.bare u) (is_int_like w) ≡ nowhere
    unfolding bare_for
    no_bare u k w e f = go (S.bare u) refl
      where
        go : (b : Found) → S.bare u ≡ b → bare_for b (is_int_like w) ≡ nowhere
        go nowhere a = refl
        go (found q) a = rw (W.bare_tags u q k w e a f)

    simple_complete : (u : ℕ) (t : Token) (r : List Token) → S.judge u t ≡ 0 → simple_at S u (t ∷ r) ≡ got (leaf t) r
    unfolding simple_at judged need is_text
    simple_complete u (word w) r e = rw e
    simple_complete u (string w) r e = rw e
    simple_complete u equals r e = clash_bool (W.spoken u equals e)
    simple_complete u comma r e = clash_bool (W.spoken u comma e)
    simple_complete u opening r e = clash_bool (W.spoken u opening e)
    simple_complete u closing r e = clash_bool (W.spoken u closing e)

    pub value_starts : (q : ℕ) (t : Tree value) (r : List Token) → Law S q t → is_value (column_for (leaves_then t r)) ≡ true
    unfolding leaves_then Law column_for is_value is_text
    value_starts q (leaf (word w)) r l = refl
    value_starts q (leaf (string w)) r l = refl
    value_starts q (leaf equals) r l = clash_bool (W.spoken (S.core q) equals l.1)
    value_starts q (leaf comma) r l = clash_bool (W.spoken (S.core q) comma l.1)
    value_starts q (leaf opening) r l = refl
    value_starts q (leaf closing) r l = clash_bool (W.spoken (S.core q) closing l.1)
    value_starts q (braced b) r l = refl
    value_starts q (chosen_void k w) r l = refl
    value_starts q (chosen k w v) r l = refl
    value_starts q (chosen_int k w) r l = refl

    pub list_starts : (q : ℕ) (t : Tree list) (r : List Token) → Law S q t → is_value (column_for (leaves_then t r)) ≡ true
    unfolding leaves_then Law
    list_starts q (last v) r l = value_starts q v r l
    list_starts q (more v t) r l = value_starts q v (comma ∷ leaves_then t r) l.0

    module _ (d : ℕ) (body_of : ℕ → List Token → Result (Tree body)) (hb : BodyComplete d body_of) where
      value_complete : (fuel q : ℕ) (t : Tree value) (r : List Token) → Law S q t → deep t ≤ d → width t ≤ fuel → value_at S body_of fuel q (leaves_then t r) ≡ got t r
      unfolding leaves_then Law value_at by_kind struct_at shut union_at choose alternative whether on_equals then judged need bare_for deep width BodyMayEnd
      value_complete zero q t r l d m = absurd (omega (arith, value_wide t))
      value_complete (suc fuel) q (leaf t) r l d m = rw l.0 (simple_complete (S.core q) t r l.1)
      value_complete (suc fuel) q (braced b) r l d m = rw (l.0, hb (S.core q) b (closing ∷ r) l.1 (r, refl) (omega arith))
      value_complete (suc fuel) q (chosen_void k w) r l d m = rw (l.0, no_bare (S.core q) k w l.0 l.1, l.1, l.2)
      value_complete (suc fuel) q (chosen k w v) r l d m = rw (l.0, no_bare (S.core q) k w l.0 l.1, l.1, l.2, value_complete fuel k v r l.3 (omega arith) (omega arith))
      value_complete (suc fuel) q (chosen_int k w) r l d m = rw (l.0, l.1, W.bare_form (S.core q) k w l.0 l.1 l.2, l.2)

      pub whole_value_lem : ValueComplete d (whole_value S body_of)
      whole_value_lem q t r l d = value_complete (suc (length (leaves_then t r))) q t r l d (omega (arith, leaves_width t r))

    -- lists
    grows : (h c n : ℕ) → at_most h n ≡ true → c < n → may_grow h c ≡ true
    unfolding at_most may_grow
    grows h c n e m = or_case (eqb h no_limit) (leb n h) e (λ a. or_left (eqb h no_limit) (ltb c h) a) (λ a. or_right (eqb h no_limit) (ltb c h) (lt-ltb c h (omega (arith, leb-true n h a))))

    list_last : (q c : ℕ) (next : List Token → Result (Tree list)) (v : Tree value) (r : List Token) → no_separator (column_for r) ≡ true → S.lo q ≤ c → after_value S q c next v r ≡ got (last v) r
    unfolding after_value list_ends need column_for no_separator
    list_last q c next v [] e m = rw (le-leb (S.lo q) c m)
    list_last q c next v (word w ∷ r) e m = rw (le-leb (S.lo q) c m)
    list_last q c next v (string w ∷ r) e m = rw (le-leb (S.lo q) c m)
    list_last q c next v (opening ∷ r) e m = rw (le-leb (S.lo q) c m)
    list_last q c next v (equals ∷ r) e m = rw (le-leb (S.lo q) c m)
    list_last q c next v (comma ∷ r) e m = clash_bool e
    list_last q c next v (closing ∷ r) e m = rw (le-leb (S.lo q) c m)

    module _ (d : ℕ) (value_of : ℕ → List Token → Result (Tree value)) (hv : ValueComplete d value_of) where
      list_complete : (fuel q c : ℕ) (t : Tree list) (r : List Token) → Law S q t → no_separator (column_for r) ≡ true → S.lo q ≤ c + count t → at_most (S.hi q) (c + count t) ≡ true → deep t ≤ d → width t ≤ fuel → list_at S value_of fuel q c (leaves_then t r) ≡ got t r
      unfolding leaves_then Law list_at then after_value need deep width count
      list_complete zero q c t r l e a b d m = absurd (omega (arith, list_wide t))
      list_complete (suc fuel) q c (last v) r l e a b d m = rw (hv q v r l d) (list_last q (suc c) (list_at S value_of fuel q (suc c)) v r e (omega arith))
      list_complete (suc fuel) q c (more v t) r l e a b d m =
          let n : c + suc (count t) ≡ suc c + count t = omega arith in
          rw (
            hv q v (comma ∷ leaves_then t r) l.0 (omega arith),
            grows (S.hi q) (suc c) (c + suc (count t)) b (omega (arith, count_pos t)),
            list_complete fuel q (suc c) t r l.1 e (omega arith) (rw n at b) (omega arith) (omega (arith, value_wide v)),
          )

      whole_list_lem : (q : ℕ) (t : Tree list) (r : List Token) → Law S q t → no_separator (column_for r) ≡ true → InRange S q (count t) → deep t ≤ d → whole_list S value_of q (leaves_then t r) ≡ got t r
      whole_list_lem q t r l e i d =
          let n : 0 + count t ≡ count t = omega arith in
          list_complete (suc (length (leaves_then t r))) q 0 t r l e (omega (arith, i.0)) (rw n i.1) d (omega (arith, leaves_width t r))

      -- items
      items_end : (inside : Bool) (p fuel : ℕ) (z : List ℕ) (r : List Token) → BodyMayEnd inside r → all_in (required_of S (S.tagged p)) z ≡ true → items_at S value_of inside p (suc fuel) z r ≡ got no_item r
      unfolding BodyMayEnd items_at body_ends end_number need
      items_end false p fuel z r e a = rw e (rw a)
      items_end true p fuel z r e a = rw e.1 (rw a)

      unknown_alone : (next : List Token → Result (Tree items)) (w : List ℕ) (x : List Token) → no_sign (column_for x) ≡ true → unknown_after next w x ≡ then (next x) (λ i s. got (unknown_item w i) s)
      unfolding unknown_after column_for no_sign
      unknown_alone next w [] e = refl
      unknown_alone next w (word v ∷ x) e = refl
      unknown_alone next w (string v ∷ x) e = refl
      unknown_alone next w (opening ∷ x) e = refl
      unknown_alone next w (equals ∷ x) e = clash_bool e
      unknown_alone next w (comma ∷ x) e = refl
      unknown_alone next w (closing ∷ x) e = refl

      items_complete : (inside : Bool) (p fuel : ℕ) (z : List ℕ) (t : Tree items) (r : List Token) → Law S p t → BodyMayEnd inside r → ((k : ℕ) → times k z + times k (fields_of t) ≤ 1) → ((k : ℕ) → In k (required_of S (S.tagged p)) → 1 ≤ times k z + times k (fields_of t)) → deep t ≤ d → width t < fuel → items_at S value_of inside p fuel z (leaves_then t r) ≡ got t r
      unfolding leaves_then Law items_at item_at unknown_after need whether on_equals then deep width fields_of times
      items_complete inside p zero z t r l e a b d m = absurd (omega arith)
      items_complete inside p (suc fuel) z no_item r l e a b d m = items_end inside p fuel z r e (in_all (required_of S (S.tagged p)) z (λ k h. omega (arith, b k h)))
      items_complete inside p (suc fuel) z (void_item q w i) r l e a b d m =
          rw (
            l.0,
            out_hasnt z q (was_new q z (fields_of i) (a q)),
            l.1,
            items_complete inside p fuel (q ∷ z) i r l.2 e (λ k. omega (arith, a k)) (λ k h. omega (arith, b k h)) d (omega arith),
          )
      items_complete inside p (suc fuel) z (list_item q w t i) r l e a b d m =
          rw (
            l.0,
            out_hasnt z q (was_new q z (fields_of i) (a q)),
            l.1,
            whole_list_lem q t (leaves_then i r) l.2 (items_calm inside i r e).1 l.3 (omega arith),
            items_complete inside p fuel (q ∷ z) i r l.4 e (λ k. omega (arith, a k)) (λ k h. omega (arith, b k h)) (omega arith) (omega arith),
          )
      items_complete inside p (suc fuel) z (unknown_item w i) r l e a b d m =
          rw (l.0, unknown_alone (items_at S value_of inside p fuel z) w (leaves_then i r) (items_calm inside i r e).0, items_complete inside p fuel z i r l.1 e a b d (omega arith))
      items_complete inside p (suc fuel) z (unknown_list_item w t i) r l e a b d m =
          rw (
            l.0,
            unknowns_complete (suc (length (leaves_then t (leaves_then i r)))) t (leaves_then i r) l.1 (items_calm inside i r e) (omega (arith, leaves_width t (leaves_then i r))),
            items_complete inside p fuel z i r l.2 e a b d (omega arith),
          )

      -- bodies
      body_calm : (inside : Bool) (p : ℕ) (qs : List ℕ) (t : Tree body) (r : List Token) → Law S (p, qs) t → BodyMayEnd inside r → no_separator (column_for (leaves_then t r)) ≡ true
      unfolding leaves_then Law
      body_calm inside p qs (listed q l b) r h e = (value_calm (leaves_then l (leaves_then b r)) (list_starts q l (leaves_then b r) h.2)).1
      body_calm inside p qs stopped r h e = (ends_calm inside r e).1
      body_calm inside p qs (itemized i) r h e = (items_calm inside i r e).1

      lists_more : (inside : Bool) (p q : ℕ) (qs : List ℕ) (x : List Token) → is_value (column_for x) ≡ true → lists_at S value_of inside p (q ∷ qs) x ≡ list_then S value_of (lists_at S value_of inside p qs) q x
      unfolding lists_at column_for is_value
      lists_more inside p q qs [] e = clash_bool e
      lists_more inside p q qs (word w ∷ x) e = refl
      lists_more inside p q qs (string w ∷ x) e = refl
      lists_more inside p q qs (opening ∷ x) e = refl
      lists_more inside p q qs (equals ∷ x) e = refl
      lists_more inside p q qs (comma ∷ x) e = refl
      lists_more inside p q qs (closing ∷ x) e = clash_bool e

      lists_stop : (inside : Bool) (p q : ℕ) (qs : List ℕ) (r : List Token) → BodyMayEnd inside r → S.lo q ≡ 0 → lists_at S value_of inside p (q ∷ qs) r ≡ got stopped r
      unfolding BodyMayEnd lists_at body_ends end_number need
      lists_stop false p q qs r e a = rw e (rw a)
      lists_stop true p q qs r e a = rw e.1 (rw a)

      lists_complete : (inside : Bool) (p : ℕ) (qs : List ℕ) (t : Tree body) (r : List Token) → Law S (p, qs) t → BodyMayEnd inside r → deep t ≤ d → lists_at S value_of inside p qs (leaves_then t r) ≡ got t r
      unfolding leaves_then Law lists_at list_then then deep times
      lists_complete inside p qs (listed q l b) r h e m =
          rw h.1 (lists_more inside p q h.0 (leaves_then l (leaves_then b r)) (list_starts q l (leaves_then b r) h.2)
          ∙ rw (whole_list_lem q l (leaves_then b r) h.2 (body_calm inside p h.0 b r h.4 e) h.3 (omega arith), lists_complete inside p h.0 b r h.4 e (omega arith)))
      lists_complete inside p qs stopped r h e m = rw h.2 (lists_stop inside p h.0 h.1 r e h.3)
      lists_complete inside p qs (itemized i) r h e m =
          rw (h.0, items_complete inside p (suc (length (leaves_then i r))) [] i r h.1 e (λ k. omega (arith, h.2 k)) (λ k j. let g = required_is S k (S.tagged p) j in omega (arith, h.3 k g.0 g.1 g.2)) m (omega (arith, leaves_width i r)))

    -- a lawful body is read at every depth over its own
    pub body_complete : (depth : ℕ) (inside : Bool) (p : ℕ) (t : Tree body) (r : List Token) → Law S (p, S.untagged p) t → BodyMayEnd inside r → deep t < depth → body_at S depth inside p (leaves_then t r) ≡ got t r
    unfolding body_at
    body_complete zero inside p t r l e m = absurd (omega arith)
    body_complete (suc depth) inside p t r l e m =
        lists_complete depth (whole_value S (body_at S depth true))
        (λ q v s k n. whole_value_lem depth (body_at S depth true) (λ u b s k f n. body_complete depth true u b s k f n) q v s k n)
        inside p (S.untagged p) t r l e (omega arith)
