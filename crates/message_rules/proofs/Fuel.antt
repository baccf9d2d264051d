-- The fuel's number never shows: where no brace stands too deep, every refusal is one of 23 to 28, or 30.
use mathlib.Core.Path.{◌≡◌, refl, ap, sym}
use mathlib.Core.Bool.{Bool, true, false, not}
use mathlib.Core.List.{List, [], ◌∷◌}
use Prim.Native.Nat.{ℕ, zero, suc, ◌+◌, ◌≤◌, ◌<◌}
use native.Mathlib.Omega.{arith}
use lib.Dec.{eqb}
use lib.ListN.{length}
use borrow.Author.Tests.{not-true}
use Rattle.classes.specs.Bytes.{between}
use Rattle.numbers.specs.Decimal.{is_int_like}
use Rattle.reading_rules.specs.Token.{Token, word, string, equals, comma, opening, closing}
use Rattle.reading_rules.specs.Value.{Judgement, taken, formless, outside}
use Rattle.reading_rules.specs.Schema.{Kind, void, simple, struct, union, reference, is_void, Found, nowhere, found, Schema, WellFormed}
use Rattle.reading_rules.specs.Count.{Once, has}
use Rattle.reading_rules.proofs.CountLaws.{clash_bool, hasnt_in, once_more, once_nil}
use Rattle.reading_rules.specs.Reading.{unknown_value, unknown_list, value, list, body, items, Tree, unknown_item}
use Rattle.reading_rules.specs.Parse.{Result, refused, got, then, need, whether, on_equals, after_token, pair_with, braces_at, unknown_at, after_unknown, unknowns_at, judged, simple_at, shut, struct_at, alternative, bare_for, choose, union_at, none_at, by_kind, value_at, list_ends, after_value, list_at, whole_list, end_number, body_ends, unknown_after, item_at, items_at, list_then, lists_at, whole_value, body_at}
use Rattle.reading_rules.proofs.Sound.{unknown_sound, unknowns_sound, ValueSound, value_sound, whole_sound, body_sound}
use Rattle.reading_rules.proofs.Complete.{leaves_width, list_wide}
use Rattle.message_rules.specs.Verdict.{is_unlawful}
use Rattle.message_rules.proofs.Depth.{IsShallow, shallow_word, shallow_equals, shallow_comma, shallow_opening, tree_shallow}

-- an answer that is no fuel's: what was read; one of the numbers 23 to 28; or 30, at a token that is judged so for some parameter
pub data FineResult (S : Schema) {A : Type 0} : Result A → Type 0 where
  read : {a : A} {r : List Token} → FineResult S (got a r)
  numbered : {n : ℕ} {r : List Token} → between 23 28 n ≡ true → FineResult S (refused n r)
  beyond : {q : ℕ} {t : Token} {r : List Token} → S.judge q t ≡ 30 → FineResult S (refused 30 (t ∷ r))

module _ (S : Schema) where
  pub fine_number : {A : Type 0} {m : Result A} → FineResult S m → (n : ℕ) (r : List Token) → m ≡ refused n r → is_unlawful n ≡ true
  fine_number read n r e = let z : ◌≡◌ {A = ℕ} 0 1 = cc in absurd (omega arith)
  fine_number (numbered {n = k} h) n r e = let q : k ≡ n = cc in rw (← q, h)
  fine_number (beyond h) n r e = let q : 30 ≡ n = cc in rw (← q)

  pub fine_outside : {A : Type 0} {m : Result A} → FineResult S m → (r : List Token) → m ≡ refused 30 r → (q : ℕ) × (t : Token) × (x : List Token) × (r ≡ t ∷ x) × (S.judge q t ≡ 30)
  fine_outside read r e = let z : ◌≡◌ {A = ℕ} 0 1 = cc in absurd (omega arith)
  fine_outside (numbered {n = k} h) r e = let q : k ≡ 30 = cc in clash_bool (rw q at h)
  fine_outside (beyond {q = q} {t = t} {r = x} h) r e = let z : t ∷ x ≡ r = cc in (q, t, x, sym z, h)

  then_fine : {A B : Type 0} (m : Result A) (f : A → List Token → Result B) → FineResult S m → ((a : A) (r : List Token) → m ≡ got a r → FineResult S (f a r)) → FineResult S (then m f)
  unfolding then
  then_fine m f (read {a = a} {r = r}) k = k a r refl
  then_fine m f (numbered e) k = numbered e
  then_fine m f (beyond e) k = beyond e

  need_fine : {A : Type 0} (t : Bool) (n : ℕ) → between 23 28 n ≡ true → (x : List Token) (f : List Token → Result A) (q : List Token) → (t ≡ true → FineResult S (f q)) → FineResult S (need t n x f q)
  unfolding need
  need_fine true n e x f q h = h refl
  need_fine false n e x f q h = numbered e

  -- a number that is tested for 0 and then shown
  number_fine : {A : Type 0} (n : ℕ) (x : List Token) (f : List Token → Result A) (q : List Token) → FineResult S (f q) → ((k : ℕ) → n ≡ suc k → between 23 28 n ≡ true) → FineResult S (need (eqb n 0) n x f q)
  unfolding need
  number_fine zero x f q h e = h
  number_fine (suc n) x f q h e = need_fine (eqb (suc n) 0) (suc n) (e n refl) x f q (λ a. h)

  -- a judgement's number likewise, at the token that was judged
  judgement_fine : {A : Type 0} (n u : ℕ) (t : Token) (x : List Token) (f : List Token → Result A) (q : List Token) → FineResult S (f q) → Judgement n → S.judge u t ≡ n → FineResult S (need (eqb n 0) n (t ∷ x) f q)
  unfolding need
  judgement_fine n u t x f q h taken e = h
  judgement_fine n u t x f q h formless e = numbered refl
  judgement_fine n u t x f q h outside e = beyond e

  end_range : (inside complete : Bool) (x : List Token) (k : ℕ) → end_number inside complete x ≡ suc k → between 23 28 (end_number inside complete x) ≡ true
  unfolding end_number
  end_range true complete [] k e = refl
  end_range false true [] k e = absurd (omega arith)
  end_range false false [] k e = refl
  end_range true true (t ∷ x) k e = absurd (omega arith)
  end_range true false (t ∷ x) k e = refl
  end_range false complete (t ∷ x) k e = refl

  end_fine : {A : Type 0} (inside complete : Bool) (x : List Token) (f : List Token → Result A) (q : List Token) → FineResult S (f q) → FineResult S (need (eqb (end_number inside complete x) 0) (end_number inside complete x) x f q)
  end_fine inside complete x f q h = number_fine (end_number inside complete x) x f q h (end_range inside complete x)

  whether_fine : {A : Type 0} (t : Bool) (f g : List Token → Result A) (q : List Token) → FineResult S (f q) → FineResult S (g q) → FineResult S (whether t f g q)
  unfolding whether
  whether_fine true f g q h k = h
  whether_fine false f g q h k = k

  equals_fine : {A : Type 0} (x : List Token) (f : List Token → Result A) → ((q : List Token) → x ≡ equals ∷ q → FineResult S (f q)) → FineResult S (on_equals x f)
  unfolding on_equals
  equals_fine [] f h = numbered refl
  equals_fine (word w ∷ x) f h = numbered refl
  equals_fine (string w ∷ x) f h = numbered refl
  equals_fine (opening ∷ x) f h = numbered refl
  equals_fine (equals ∷ x) f h = h x refl
  equals_fine (comma ∷ x) f h = numbered refl
  equals_fine (closing ∷ x) f h = numbered refl

  after_fine : (t : Token) (m : Result (List Token)) → FineResult S m → FineResult S (after_token t m)
  unfolding after_token
  after_fine t m read = read
  after_fine t m (numbered e) = numbered e
  after_fine t m (beyond e) = beyond e

  pair_fine : (w : List ℕ) (m : Result (Tree unknown_value)) → FineResult S m → FineResult S (pair_with w m)
  unfolding pair_with
  pair_fine w m read = read
  pair_fine w m (numbered e) = numbered e
  pair_fine w m (beyond e) = beyond e

  braces_fine : (x : List Token) (k : ℕ) → FineResult S (braces_at x k)
  unfolding braces_at
  braces_fine [] k = numbered refl
  braces_fine (word w ∷ x) k = after_fine (word w) (braces_at x k) (braces_fine x k)
  braces_fine (string w ∷ x) k = after_fine (string w) (braces_at x k) (braces_fine x k)
  braces_fine (opening ∷ x) k = after_fine opening (braces_at x (suc k)) (braces_fine x (suc k))
  braces_fine (equals ∷ x) k = after_fine equals (braces_at x k) (braces_fine x k)
  braces_fine (comma ∷ x) k = after_fine comma (braces_at x k) (braces_fine x k)
  braces_fine (closing ∷ x) zero = read
  braces_fine (closing ∷ x) (suc k) = after_fine closing (braces_at x k) (braces_fine x k)

  unknown_fine : (x : List Token) → FineResult S (unknown_at x)
  unfolding unknown_at
  unknown_fine [] = numbered refl
  unknown_fine (word w ∷ []) = read
  unknown_fine (word w ∷ word v ∷ x) = read
  unknown_fine (word w ∷ string v ∷ x) = read
  unknown_fine (word w ∷ opening ∷ x) = read
  unknown_fine (word w ∷ equals ∷ x) = pair_fine w (unknown_at x) (unknown_fine x)
  unknown_fine (word w ∷ comma ∷ x) = read
  unknown_fine (word w ∷ closing ∷ x) = read
  unknown_fine (string w ∷ x) = read
  unknown_fine (opening ∷ x) = then_fine (braces_at x 0) _ (braces_fine x 0) (λ ts r e. read)
  unknown_fine (equals ∷ x) = numbered refl
  unknown_fine (comma ∷ x) = numbered refl
  unknown_fine (closing ∷ x) = numbered refl

  unknowns_after : (n : ℕ) (next : List Token → Result (Tree unknown_list)) → ((y : List Token) → length y < n → FineResult S (next y)) → (v : Tree unknown_value) (q : List Token) → length q < suc n → FineResult S (after_unknown next v q)
  unfolding after_unknown
  unknowns_after n next h v [] m = read
  unknowns_after n next h v (word w ∷ q) m = read
  unknowns_after n next h v (string w ∷ q) m = read
  unknowns_after n next h v (opening ∷ q) m = read
  unknowns_after n next h v (equals ∷ q) m = read
  unknowns_after n next h v (comma ∷ q) m = then_fine (next q) _ (h q (omega arith)) (λ l r e. read)
  unknowns_after n next h v (closing ∷ q) m = read

  unknowns_fine : (fuel : ℕ) (x : List Token) → length x < fuel → FineResult S (unknowns_at fuel x)
  unfolding unknowns_at
  unknowns_fine zero x m = absurd (omega arith)
  unknowns_fine (suc fuel) x m = then_fine (unknown_at x) _ (unknown_fine x) (λ v q e. unknowns_after fuel (unknowns_at fuel) (unknowns_fine fuel) v q
      (omega (arith, leaves_width v q, ap length (unknown_sound S x v q e).1)))

  module _ (W : WellFormed S) (limit n : ℕ) where
    abbrev BodyFine : (ℕ → List Token → Result (Tree body)) → Type 0
    BodyFine body_of = (p : ℕ) (x : List Token) → suc n ≤ limit → IsShallow limit (suc n) x → FineResult S (body_of p x)

    abbrev ValueFine : (ℕ → List Token → Result (Tree value)) → Type 0
    ValueFine value_of = (q : ℕ) (x : List Token) → IsShallow limit n x → FineResult S (value_of q x)

    judged_fine : {A : Type 0} (u : ℕ) (t : Token) (x : List Token) (f : List Token → Result A) (q : List Token) → FineResult S (f q) → FineResult S (need (eqb (S.judge u t) 0) (S.judge u t) (t ∷ x) f q)
    judged_fine u t x f q h = judgement_fine (S.judge u t) u t x f q h (W.numbered u t) refl

    simple_fine : (u : ℕ) (x : List Token) → FineResult S (simple_at S u x)
    unfolding simple_at judged
    simple_fine u [] = numbered refl
    simple_fine u (word w ∷ x) = judged_fine u (word w) _ _ x read
    simple_fine u (string w ∷ x) = judged_fine u (string w) _ _ x read
    simple_fine u (opening ∷ x) = numbered refl
    simple_fine u (equals ∷ x) = numbered refl
    simple_fine u (comma ∷ x) = numbered refl
    simple_fine u (closing ∷ x) = numbered refl

    shut_fine : (b : Tree body) (x : List Token) → FineResult S (shut b x)
    unfolding shut
    shut_fine b [] = numbered refl
    shut_fine b (word w ∷ x) = numbered refl
    shut_fine b (string w ∷ x) = numbered refl
    shut_fine b (opening ∷ x) = numbered refl
    shut_fine b (equals ∷ x) = numbered refl
    shut_fine b (comma ∷ x) = numbered refl
    shut_fine b (closing ∷ x) = read

    none_fine : (x : List Token) → FineResult S (none_at x)
    unfolding none_at
    none_fine [] = numbered refl
    none_fine (word w ∷ x) = numbered refl
    none_fine (string w ∷ x) = numbered refl
    none_fine (opening ∷ x) = numbered refl
    none_fine (equals ∷ x) = numbered refl
    none_fine (comma ∷ x) = numbered refl
    none_fine (closing ∷ x) = numbered refl

    struct_fine : (body_of : ℕ → List Token → Result (Tree body)) → BodyFine body_of → (u : ℕ) (x : List Token) → IsShallow limit n x → FineResult S (struct_at body_of u x)
    unfolding struct_at
    struct_fine body_of h u [] c = numbered refl
    struct_fine body_of h u (word w ∷ x) c = numbered refl
    struct_fine body_of h u (string w ∷ x) c = numbered refl
    struct_fine body_of h u (opening ∷ x) c = let a = shallow_opening limit n x c in then_fine (body_of u x) _ (h u x a.0 a.1) (λ b r e. shut_fine b r)
    struct_fine body_of h u (equals ∷ x) c = numbered refl
    struct_fine body_of h u (comma ∷ x) c = numbered refl
    struct_fine body_of h u (closing ∷ x) c = numbered refl

    module _ (fuel : ℕ) (value_of : ℕ → List Token → Result (Tree value)) (hv : (q : ℕ) (x : List Token) → length x < fuel → IsShallow limit n x → FineResult S (value_of q x)) where
      alternative_fine : (w : List ℕ) (f : Found) (x : List Token) → length x < fuel → IsShallow limit n x → FineResult S (alternative S value_of w f x)
      unfolding alternative
      alternative_fine w nowhere x m c = numbered refl
      alternative_fine w (found q) x m c =
          whether_fine (is_void (S.kind q)) _ _ x read
          (equals_fine x _ (λ y e. then_fine (value_of q y) _ (hv q y (omega (arith, ap length e)) (shallow_equals limit n y (rw e at c))) (λ v r a. read)))

      choose_fine : (u : ℕ) (w : List ℕ) (f : Found) (x : List Token) → length x < fuel → IsShallow limit n x → FineResult S (choose S value_of u w f x)
      unfolding choose judged
      choose_fine u w (found q) x m c = judged_fine q (word w) _ _ x read
      choose_fine u w nowhere x m c = alternative_fine w (S.find u w) x m c

      union_fine : (u : ℕ) (x : List Token) → length x < suc fuel → IsShallow limit n x → FineResult S (union_at S value_of u x)
      unfolding union_at
      union_fine u [] m c = numbered refl
      union_fine u (word w ∷ x) m c = choose_fine u w (bare_for (S.bare u) (is_int_like w)) x (omega arith) (shallow_word limit n w x c)
      union_fine u (string w ∷ x) m c = numbered refl
      union_fine u (opening ∷ x) m c = numbered refl
      union_fine u (equals ∷ x) m c = numbered refl
      union_fine u (comma ∷ x) m c = numbered refl
      union_fine u (closing ∷ x) m c = numbered refl

      kind_fine : (body_of : ℕ → List Token → Result (Tree body)) → BodyFine body_of → (u : ℕ) (k : Kind) (x : List Token) → length x < suc fuel → IsShallow limit n x → FineResult S (by_kind S body_of value_of u k x)
      unfolding by_kind
      kind_fine body_of h u void x m c = none_fine x
      kind_fine body_of h u simple x m c = simple_fine u x
      kind_fine body_of h u struct x m c = struct_fine body_of h u x c
      kind_fine body_of h u union x m c = union_fine u x m c
      kind_fine body_of h u reference x m c = none_fine x

    value_fine : (body_of : ℕ → List Token → Result (Tree body)) → BodyFine body_of → (fuel q : ℕ) (x : List Token) → length x < fuel → IsShallow limit n x → FineResult S (value_at S body_of fuel q x)
    unfolding value_at
    value_fine body_of h zero q x m c = absurd (omega arith)
    value_fine body_of h (suc fuel) q x m c = kind_fine fuel (value_at S body_of fuel) (value_fine body_of h fuel) body_of h (S.core q) (S.kind (S.core q)) x m c

    module _ (value_of : ℕ → List Token → Result (Tree value)) (sv : ValueSound S value_of) (hv : ValueFine value_of) where
      list_ends_lem : (q c : ℕ) (v : Tree value) (x : List Token) → FineResult S (list_ends S q c v x)
      unfolding list_ends
      list_ends_lem q c v x = need_fine _ 25 refl x _ x (λ e. read)

      list_after : (q c fuel : ℕ) (next : List Token → Result (Tree list)) → ((y : List Token) → length y < fuel → IsShallow limit n y → FineResult S (next y)) → (v : Tree value) (y : List Token) → length y < suc fuel → IsShallow limit n y → FineResult S (after_value S q c next v y)
      unfolding after_value
      list_after q c fuel next h v [] m s = list_ends_lem q c v []
      list_after q c fuel next h v (word w ∷ y) m s = list_ends_lem q c v (word w ∷ y)
      list_after q c fuel next h v (string w ∷ y) m s = list_ends_lem q c v (string w ∷ y)
      list_after q c fuel next h v (opening ∷ y) m s = list_ends_lem q c v (opening ∷ y)
      list_after q c fuel next h v (equals ∷ y) m s = list_ends_lem q c v (equals ∷ y)
      list_after q c fuel next h v (comma ∷ y) m s = need_fine _ 25 refl _ _ y (λ e. then_fine (next y) _ (h y (omega arith) (shallow_comma limit n y s)) (λ l r a. read))
      list_after q c fuel next h v (closing ∷ y) m s = list_ends_lem q c v (closing ∷ y)

      list_fine : (fuel q c : ℕ) (x : List Token) → length x < fuel → IsShallow limit n x → FineResult S (list_at S value_of fuel q c x)
      unfolding list_at
      list_fine zero q c x m s = absurd (omega arith)
      list_fine (suc fuel) q c x m s = then_fine (value_of q x) _ (hv q x s) (λ v y e.
          let g = sv q x v y e in
          list_after q (suc c) fuel (list_at S value_of fuel q (suc c)) (list_fine fuel q (suc c)) v y
          (omega (arith, leaves_width v y, ap length g.1))
          (tree_shallow S W limit n q v y g.0 (rw g.1 s)).1)

      whole_fine : (q : ℕ) (x : List Token) → IsShallow limit n x → FineResult S (whole_list S value_of q x)
      whole_fine q x s = list_fine (suc (length x)) q 0 x (omega arith) s

      -- what is left after a list
      list_left : (q : ℕ) (x : List Token) (l : Tree list) (y : List Token) → whole_list S value_of q x ≡ got l y → IsShallow limit n x → (length y < length x) × IsShallow limit n y
      list_left q x l y e s =
          let g = whole_sound S W value_of sv q x l y e in
          (omega (arith, leaves_width l y, list_wide l, ap length g.2), (tree_shallow S W limit n q l y g.0 (rw g.2 s)).1)

      module _ (inside : Bool) (p : ℕ) where
        abbrev ItemsFine : ℕ → (List ℕ → List Token → Result (Tree items)) → Type 0
        ItemsFine fuel next = (z : List ℕ) → Once z → (x : List Token) → length x < fuel → IsShallow limit n x → FineResult S (next z x)

        alone_fine : (fuel : ℕ) (next : List ℕ → List Token → Result (Tree items)) → ItemsFine fuel next → (z : List ℕ) → Once z → (w : List ℕ) (x : List Token) → length x < fuel → IsShallow limit n x → FineResult S (then (next z x) (λ i s. got (unknown_item w i) s))
        alone_fine fuel next h z o w x m s = then_fine (next z x) _ (h z o x m s) (λ i r e. read)

        unknown_after_lem : (fuel : ℕ) (next : List ℕ → List Token → Result (Tree items)) → ItemsFine fuel next → (z : List ℕ) → Once z → (w : List ℕ) (x : List Token) → length x < fuel → IsShallow limit n x → FineResult S (unknown_after (next z) w x)
        unfolding unknown_after
        unknown_after_lem fuel next h z o w [] m s = alone_fine fuel next h z o w [] m s
        unknown_after_lem fuel next h z o w (word v ∷ x) m s = alone_fine fuel next h z o w (word v ∷ x) m s
        unknown_after_lem fuel next h z o w (string v ∷ x) m s = alone_fine fuel next h z o w (string v ∷ x) m s
        unknown_after_lem fuel next h z o w (opening ∷ x) m s = alone_fine fuel next h z o w (opening ∷ x) m s
        unknown_after_lem fuel next h z o w (equals ∷ x) m s = then_fine (unknowns_at (suc (length x)) x) _ (unknowns_fine (suc (length x)) x (omega arith)) (λ l y e.
            let g = unknowns_sound S (suc (length x)) x l y e in
            then_fine (next z y) _ (h z o y (omega (arith, leaves_width l y, ap length g.1)) (tree_shallow S W limit n tt l y g.0 (rw g.1 (shallow_equals limit n x s))).1) (λ i r a. read))
        unknown_after_lem fuel next h z o w (comma ∷ x) m s = alone_fine fuel next h z o w (comma ∷ x) m s
        unknown_after_lem fuel next h z o w (closing ∷ x) m s = alone_fine fuel next h z o w (closing ∷ x) m s

        item_fine : (fuel : ℕ) (next : List ℕ → List Token → Result (Tree items)) → ItemsFine fuel next → (z : List ℕ) → Once z → (w : List ℕ) (f : Found) (x : List Token) → length x < fuel → IsShallow limit n x → FineResult S (item_at S value_of next z w f x)
        unfolding item_at
        item_fine fuel next h z o w nowhere x m s = unknown_after_lem fuel next h z o w x m s
        item_fine fuel next h z o w (found q) x m s = need_fine (not (has z q)) 26 refl _ _ x (λ a.
            let new = once_more q z o (hasnt_in z q (not-true _ a)) in
            whether_fine (is_void (S.kind q)) _ _ x
            (then_fine (next (q ∷ z) x) _ (h (q ∷ z) new x m s) (λ i r e. read))
            (equals_fine x _ (λ y e.
            let sy = shallow_equals limit n y (rw e at s) in
            then_fine (whole_list S value_of q y) _ (whole_fine q y sy) (λ l u b.
            let g = list_left q y l u b sy in
            then_fine (next (q ∷ z) u) _ (h (q ∷ z) new u (omega (arith, ap length e)) g.1) (λ i r c. read)))))

        items_fine : (fuel : ℕ) → ItemsFine fuel (items_at S value_of inside p fuel)
        unfolding items_at body_ends
        items_fine zero z o x m s = absurd (omega arith)
        items_fine (suc fuel) z o [] m s = end_fine inside _ [] _ [] read
        items_fine (suc fuel) z o (word w ∷ x) m s = item_fine fuel (items_at S value_of inside p fuel) (items_fine fuel) z o w (S.find p w) x (omega arith) (shallow_word limit n w x s)
        items_fine (suc fuel) z o (string w ∷ x) m s = numbered refl
        items_fine (suc fuel) z o (opening ∷ x) m s = numbered refl
        items_fine (suc fuel) z o (equals ∷ x) m s = numbered refl
        items_fine (suc fuel) z o (comma ∷ x) m s = numbered refl
        items_fine (suc fuel) z o (closing ∷ x) m s = end_fine inside _ (closing ∷ x) _ (closing ∷ x) read

        list_then_lem : (q : ℕ) (next : List Token → Result (Tree body)) → ((y : List Token) → IsShallow limit n y → FineResult S (next y)) → (x : List Token) → IsShallow limit n x → FineResult S (list_then S value_of next q x)
        unfolding list_then
        list_then_lem q next h x s = then_fine (whole_list S value_of q x) _ (whole_fine q x s) (λ l y e. then_fine (next y) _ (h y (list_left q x l y e s).1) (λ b r a. read))

        lists_fine : (qs : List ℕ) (x : List Token) → IsShallow limit n x → FineResult S (lists_at S value_of inside p qs x)
        unfolding lists_at body_ends
        lists_fine [] x s = then_fine (items_at S value_of inside p (suc (length x)) [] x) _ (items_fine (suc (length x)) [] once_nil x (omega arith) s) (λ i r e. read)
        lists_fine (q ∷ qs) [] s = end_fine inside _ [] _ [] read
        lists_fine (q ∷ qs) (word w ∷ x) s = list_then_lem q (lists_at S value_of inside p qs) (lists_fine qs) (word w ∷ x) s
        lists_fine (q ∷ qs) (string w ∷ x) s = list_then_lem q (lists_at S value_of inside p qs) (lists_fine qs) (string w ∷ x) s
        lists_fine (q ∷ qs) (opening ∷ x) s = list_then_lem q (lists_at S value_of inside p qs) (lists_fine qs) (opening ∷ x) s
        lists_fine (q ∷ qs) (equals ∷ x) s = list_then_lem q (lists_at S value_of inside p qs) (lists_fine qs) (equals ∷ x) s
        lists_fine (q ∷ qs) (comma ∷ x) s = list_then_lem q (lists_at S value_of inside p qs) (lists_fine qs) (comma ∷ x) s
        lists_fine (q ∷ qs) (closing ∷ x) s = end_fine inside _ (closing ∷ x) _ (closing ∷ x) read

  -- with n open, and depth enough for the rest up to the limit
  pub body_fine : WellFormed S → (limit depth n : ℕ) (inside : Bool) (p : ℕ) (x : List Token) → n ≤ limit → limit < depth + n → IsShallow limit n x → FineResult S (body_at S depth inside p x)
  unfolding body_at
  body_fine W limit zero n inside p x m k s = absurd (omega arith)
  body_fine W limit (suc depth) n inside p x m k s =
      lists_fine W limit n (whole_value S (body_at S depth true))
      (λ q y v r e. value_sound S (body_at S depth true) (λ u z b t a. let g = body_sound S W depth true u z b t a in (g.0, g.1)) (suc (length y)) q y v r e)
      (λ q y t. value_fine W limit n (body_at S depth true) (λ u z a b. body_fine W limit depth (suc n) true u z a (omega arith) b) (suc (length y)) q y (omega arith) t)
      inside p (S.untagged p) x s
