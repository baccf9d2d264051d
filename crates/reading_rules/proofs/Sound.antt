-- What the parser reads is lawful, and its leaves are the tokens read.
use mathlib.Core.Path.{◌≡◌, refl, sym, ◌∙◌}
use mathlib.Core.Bool.{Bool, true, false, not, ◌||◌}
use mathlib.Core.List.{List, [], ◌∷◌, ◌++◌}
use Prim.Native.Nat.{ℕ, zero, suc, ◌+◌, ◌≤◌}
use native.Mathlib.Omega.{arith}
use lib.Dec.{eqb, leb, ltb}
use lib.ListN.{length}
use borrow.Author.Tests.{leb-true, ltb-true, eqb-true, not-true, le-leb, ne_eqb}
use Rattle.classes.proofs.Bools.{or_case, or_left, or_right}
use Rattle.numbers.specs.Limits.{no_limit}
use Rattle.numbers.specs.Decimal.{is_int_like}
use Rattle.reading_rules.specs.Token.{Token, word, string, equals, comma, opening, closing}
use Rattle.reading_rules.specs.Schema.{Kind, void, simple, struct, union, reference, is_void, Found, nowhere, found, Schema, at_most, WellFormed}
use Rattle.reading_rules.specs.Count.{times, In, Once, has, all_in}
use Rattle.reading_rules.proofs.CountLaws.{clash_bool, all_in_lem, hasnt_in, once_more, once_nil, in_head, in_tail, in_cons, in_nil}
use Rattle.reading_rules.specs.Reading.{TreeSort, unknown_value, unknown_list, value, list, body, items, Tree, stopped, no_item, unknown_item, leaves_then, balanced_from, count, fields_of, InRange, For, Law}
use Rattle.reading_rules.specs.Parse.{Result, got, then, braces_at, unknown_at, after_unknown, unknowns_at, simple_at, shut, struct_at, alternative, bare_for, choose, union_at, none_at, by_kind, value_at, may_grow, list_ends, after_value, list_at, whole_list, required_of, end_number, body_ends, unknown_after, item_at, items_at, list_then, lists_at, whole_value, body_at}
use Rattle.reading_rules.proofs.Inverse.{clash, got_to, then_got, need_got, whether_got, equals_got, after_got, pair_got, judged_got, BodyMayEnd, end_nil, end_closing, ends_got}

-- the required ones, as the parser lists them, are those that must appear
pub required_in : (S : Schema) (k : ℕ) (l : List ℕ) → In k l → S.optional k ≡ false → 1 ≤ S.lo k → In k (required_of S l)
unfolding required_of
required_in S k [] h x y = in_nil k h
required_in S k (q ∷ l) h x y = go (S.optional q || eqb (S.lo q) 0) refl (λ i. required_in S k l i x y)
  where
    go : (b : Bool) → S.optional q || eqb (S.lo q) 0 ≡ b → (In k l → In k (required_of S l)) → In k (elim b [ true ↦ required_of S l | false ↦ q ∷ required_of S l ])
    go true e f = in_cons k q l h
        (λ d. let a : S.optional k || eqb (S.lo k) 0 ≡ false = rw (x, ne_eqb (S.lo k) 0 (λ n. omega arith)) in
        let c : S.optional q || eqb (S.lo q) 0 ≡ false = rw d a in
        clash_bool (sym c ∙ e))
        f
    go false e f = in_cons k q l h (λ d. rw d (in_head k (required_of S l))) (λ i. in_tail k q (required_of S l) (f i))

-- the answer is right: a lawful tree whose leaves, and what is left, are the tokens
abbrev pub Right : {s : TreeSort} → Schema → For s → List Token → Tree s → List Token → Type 0
Right S c x t r = Law S c t × (leaves_then t r ≡ x)

-- "braces round any balanced tokens"
pub braces_sound : (x : List Token) (k : ℕ) (ts r : List Token) → braces_at x k ≡ got ts r → (balanced_from ts k ≡ true) × (ts ++ closing ∷ r ≡ x)
unfolding braces_at balanced_from
braces_sound [] k ts r e = clash e
braces_sound (word w ∷ x) k ts r e = after_got (word w) (braces_at x k) e (λ us a p. let g = braces_sound x k us r a in rw (← p) (g.0, rw g.1))
braces_sound (string w ∷ x) k ts r e = after_got (string w) (braces_at x k) e (λ us a p. let g = braces_sound x k us r a in rw (← p) (g.0, rw g.1))
braces_sound (opening ∷ x) k ts r e = after_got opening (braces_at x (suc k)) e (λ us a p. let g = braces_sound x (suc k) us r a in rw (← p) (g.0, rw g.1))
braces_sound (equals ∷ x) k ts r e = after_got equals (braces_at x k) e (λ us a p. let g = braces_sound x k us r a in rw (← p) (g.0, rw g.1))
braces_sound (comma ∷ x) k ts r e = after_got comma (braces_at x k) e (λ us a p. let g = braces_sound x k us r a in rw (← p) (g.0, rw g.1))
braces_sound (closing ∷ x) zero ts r e = got_to (λ ts r. (balanced_from ts 0 ≡ true) × (ts ++ closing ∷ r ≡ closing ∷ x)) e (refl, refl)
braces_sound (closing ∷ x) (suc k) ts r e = after_got closing (braces_at x k) e (λ us a p. let g = braces_sound x k us r a in rw (← p) (g.0, rw g.1))

module _ (S : Schema) where
  pub unknown_sound : (x : List Token) (t : Tree unknown_value) (r : List Token) → unknown_at x ≡ got t r → Right S tt x t r
  unfolding unknown_at Law leaves_then
  unknown_sound [] t r e = clash e
  unknown_sound (word w ∷ []) t r e = got_to (Right S tt (word w ∷ [])) e (tt, refl)
  unknown_sound (word w ∷ word v ∷ x) t r e = got_to (Right S tt (word w ∷ word v ∷ x)) e (tt, refl)
  unknown_sound (word w ∷ string v ∷ x) t r e = got_to (Right S tt (word w ∷ string v ∷ x)) e (tt, refl)
  unknown_sound (word w ∷ opening ∷ x) t r e = got_to (Right S tt (word w ∷ opening ∷ x)) e (tt, refl)
  unknown_sound (word w ∷ equals ∷ x) t r e = pair_got w (unknown_at x) e (λ v a p. let g = unknown_sound x v r a in rw (← p) (g.0, rw g.1))
  unknown_sound (word w ∷ comma ∷ x) t r e = got_to (Right S tt (word w ∷ comma ∷ x)) e (tt, refl)
  unknown_sound (word w ∷ closing ∷ x) t r e = got_to (Right S tt (word w ∷ closing ∷ x)) e (tt, refl)
  unknown_sound (string w ∷ x) t r e = got_to (Right S tt (string w ∷ x)) e (tt, refl)
  unknown_sound (opening ∷ x) t r e = then_got (braces_at x 0) _ e (λ ts s a b. let g = braces_sound x 0 ts s a in got_to (Right S tt (opening ∷ x)) b (g.0, rw g.1))
  unknown_sound (equals ∷ x) t r e = clash e
  unknown_sound (comma ∷ x) t r e = clash e
  unknown_sound (closing ∷ x) t r e = clash e

  unknowns_after : (next : List Token → Result (Tree unknown_list)) → ((y : List Token) (l : Tree unknown_list) (s : List Token) → next y ≡ got l s → Right S tt y l s) → (v : Tree unknown_value) (q x : List Token) → Right S tt x v q → (t : Tree unknown_list) (r : List Token) → after_unknown next v q ≡ got t r → Right S tt x t r
  unfolding after_unknown Law leaves_then
  unknowns_after next h v [] x g t r e = got_to (Right S tt x) e g
  unknowns_after next h v (word w ∷ q) x g t r e = got_to (Right S tt x) e g
  unknowns_after next h v (string w ∷ q) x g t r e = got_to (Right S tt x) e g
  unknowns_after next h v (opening ∷ q) x g t r e = got_to (Right S tt x) e g
  unknowns_after next h v (equals ∷ q) x g t r e = got_to (Right S tt x) e g
  unknowns_after next h v (comma ∷ q) x g t r e = then_got (next q) _ e (λ l s a b. let k = h q l s a in got_to (Right S tt x) b ((g.0, k.0), rw k.1 g.1))
  unknowns_after next h v (closing ∷ q) x g t r e = got_to (Right S tt x) e g

  pub unknowns_sound : (fuel : ℕ) (x : List Token) (t : Tree unknown_list) (r : List Token) → unknowns_at fuel x ≡ got t r → Right S tt x t r
  unfolding unknowns_at
  unknowns_sound zero x t r e = clash e
  unknowns_sound (suc fuel) x t r e = then_got (unknown_at x) _ e (λ v q a b. unknowns_after (unknowns_at fuel) (unknowns_sound fuel) v q x (unknown_sound x v q a) t r b)

  abbrev pub BodySound : (ℕ → List Token → Result (Tree body)) → Type 0
  BodySound body_of = (p : ℕ) (x : List Token) (b : Tree body) (r : List Token) → body_of p x ≡ got b r → Right S (p, S.untagged p) x b r

  abbrev pub ValueSound : (ℕ → List Token → Result (Tree value)) → Type 0
  ValueSound value_of = (q : ℕ) (x : List Token) (t : Tree value) (r : List Token) → value_of q x ≡ got t r → Right S q x t r

  module _ (body_of : ℕ → List Token → Result (Tree body)) (hb : BodySound body_of) where
    simple_sound : (q : ℕ) → S.kind (S.core q) ≡ simple → (x : List Token) (t : Tree value) (r : List Token) → simple_at S (S.core q) x ≡ got t r → Right S q x t r
    unfolding simple_at Law leaves_then
    simple_sound q k [] t r e = clash e
    simple_sound q k (word w ∷ x) t r e = judged_got _ _ (word w) x e (λ n a. got_to (Right S q (word w ∷ x)) a ((k, n), refl))
    simple_sound q k (string w ∷ x) t r e = judged_got _ _ (string w) x e (λ n a. got_to (Right S q (string w ∷ x)) a ((k, n), refl))
    simple_sound q k (opening ∷ x) t r e = clash e
    simple_sound q k (equals ∷ x) t r e = clash e
    simple_sound q k (comma ∷ x) t r e = clash e
    simple_sound q k (closing ∷ x) t r e = clash e

    shut_sound : (q : ℕ) → S.kind (S.core q) ≡ struct → (x : List Token) (b : Tree body) (s : List Token) → Right S (S.core q, S.untagged (S.core q)) x b s → (t : Tree value) (r : List Token) → shut b s ≡ got t r → Right S q (opening ∷ x) t r
    unfolding shut Law leaves_then
    shut_sound q k x b [] g t r e = clash e
    shut_sound q k x b (word w ∷ s) g t r e = clash e
    shut_sound q k x b (string w ∷ s) g t r e = clash e
    shut_sound q k x b (opening ∷ s) g t r e = clash e
    shut_sound q k x b (equals ∷ s) g t r e = clash e
    shut_sound q k x b (comma ∷ s) g t r e = clash e
    shut_sound q k x b (closing ∷ s) g t r e = got_to (Right S q (opening ∷ x)) e ((k, g.0), rw g.1)

    struct_sound : (q : ℕ) → S.kind (S.core q) ≡ struct → (x : List Token) (t : Tree value) (r : List Token) → struct_at body_of (S.core q) x ≡ got t r → Right S q x t r
    unfolding struct_at
    struct_sound q k [] t r e = clash e
    struct_sound q k (word w ∷ x) t r e = clash e
    struct_sound q k (string w ∷ x) t r e = clash e
    struct_sound q k (opening ∷ x) t r e = then_got (body_of (S.core q) x) _ e (λ b s a c. shut_sound q k x b s (hb (S.core q) x b s a) t r c)
    struct_sound q k (equals ∷ x) t r e = clash e
    struct_sound q k (comma ∷ x) t r e = clash e
    struct_sound q k (closing ∷ x) t r e = clash e

    none_sound : {X : Type 0} (x : List Token) (t : Tree value) (r : List Token) → none_at x ≡ got t r → X
    unfolding none_at
    none_sound [] t r e = clash e
    none_sound (word w ∷ x) t r e = clash e
    none_sound (string w ∷ x) t r e = clash e
    none_sound (opening ∷ x) t r e = clash e
    none_sound (equals ∷ x) t r e = clash e
    none_sound (comma ∷ x) t r e = clash e
    none_sound (closing ∷ x) t r e = clash e

    module _ (value_of : ℕ → List Token → Result (Tree value)) (hv : ValueSound value_of) where
      alternative_sound : (p : ℕ) → S.kind (S.core p) ≡ union → (w : List ℕ) (f : Found) → S.find (S.core p) w ≡ f → (x : List Token) (t : Tree value) (r : List Token) → alternative S value_of w f x ≡ got t r → Right S p (word w ∷ x) t r
      unfolding alternative Law leaves_then
      alternative_sound p k w nowhere ef x t r e = clash e
      alternative_sound p k w (found q) ef x t r e =
          whether_got (is_void (S.kind q)) _ _ x e
          (λ a b. got_to (Right S p (word w ∷ x)) b ((k, ef, a), refl))
          (λ a b. equals_got x _ b (λ y c d. then_got (value_of q y) _ d (λ v s m n.
          let g = hv q y v s m in
          got_to (Right S p (word w ∷ x)) n ((k, ef, a, g.0), rw (g.1, ← c)))))

      choose_sound : (p : ℕ) → S.kind (S.core p) ≡ union → (w : List ℕ) (f : Found) → ((q : ℕ) → f ≡ found q → S.bare (S.core p) ≡ found q) → (x : List Token) (t : Tree value) (r : List Token) → choose S value_of (S.core p) w f x ≡ got t r → Right S p (word w ∷ x) t r
      unfolding choose Law leaves_then
      choose_sound p k w (found q) ef x t r e = judged_got _ _ (word w) x e (λ n a. got_to (Right S p (word w ∷ x)) a ((k, ef q refl, n), refl))
      choose_sound p k w nowhere ef x t r e = alternative_sound p k w (S.find (S.core p) w) refl x t r e

      bare_is : (f : Found) (b : Bool) (q : ℕ) → bare_for f b ≡ found q → f ≡ found q
      unfolding bare_for
      bare_is nowhere b q e = e
      bare_is (found k) true q e = e
      bare_is (found k) false q e = let z : ◌≡◌ {A = ℕ} 0 1 = cc in absurd (omega arith)

      union_sound : (p : ℕ) → S.kind (S.core p) ≡ union → (x : List Token) (t : Tree value) (r : List Token) → union_at S value_of (S.core p) x ≡ got t r → Right S p x t r
      unfolding union_at
      union_sound p k [] t r e = clash e
      union_sound p k (word w ∷ x) t r e = choose_sound p k w (bare_for (S.bare (S.core p)) (is_int_like w)) (λ q. bare_is (S.bare (S.core p)) (is_int_like w) q) x t r e
      union_sound p k (string w ∷ x) t r e = clash e
      union_sound p k (opening ∷ x) t r e = clash e
      union_sound p k (equals ∷ x) t r e = clash e
      union_sound p k (comma ∷ x) t r e = clash e
      union_sound p k (closing ∷ x) t r e = clash e

      kind_sound : (p : ℕ) (k : Kind) → S.kind (S.core p) ≡ k → (x : List Token) (t : Tree value) (r : List Token) → by_kind S body_of value_of (S.core p) k x ≡ got t r → Right S p x t r
      unfolding by_kind
      kind_sound p void k x t r e = none_sound x t r e
      kind_sound p simple k x t r e = simple_sound p k x t r e
      kind_sound p struct k x t r e = struct_sound p k x t r e
      kind_sound p union k x t r e = union_sound p k x t r e
      kind_sound p reference k x t r e = none_sound x t r e

    pub value_sound : (fuel : ℕ) → ValueSound (value_at S body_of fuel)
    unfolding value_at
    value_sound zero q x t r e = clash e
    value_sound (suc fuel) q x t r e = kind_sound (value_at S body_of fuel) (value_sound fuel) q (S.kind (S.core q)) refl x t r e

  -- a list of which c values were read before
  abbrev pub ListRight : ℕ → ℕ → List Token → Tree list → List Token → Type 0
  ListRight q c x t r = Law S q t × (S.lo q ≤ c + count t) × (at_most (S.hi q) (c + count t) ≡ true) × (leaves_then t r ≡ x)

  at_most_one : (h : ℕ) → 1 ≤ h → at_most h 1 ≡ true
  unfolding at_most
  at_most_one h e = or_right (eqb h no_limit) (leb 1 h) (le-leb 1 h e)

  grown : (h c : ℕ) → may_grow h c ≡ true → at_most h (suc c) ≡ true
  unfolding may_grow at_most
  grown h c e = or_case (eqb h no_limit) (ltb c h) e (λ a. or_left (eqb h no_limit) (leb (suc c) h) a) (λ a. or_right (eqb h no_limit) (leb (suc c) h) (le-leb (suc c) h (ltb-true c h a)))

  module _ (W : WellFormed S) (value_of : ℕ → List Token → Result (Tree value)) (hv : ValueSound value_of) where
    list_ends_lem : (q c : ℕ) → at_most (S.hi q) (suc c) ≡ true → (v : Tree value) (y x : List Token) → Right S q x v y → (t : Tree list) (r : List Token) → list_ends S q (suc c) v y ≡ got t r → ListRight q c x t r
    unfolding list_ends Law leaves_then count
    list_ends_lem q c m v y x g t r e = need_got (leb (S.lo q) (suc c)) _ _ _ y e (λ a b.
        let n : c + 1 ≡ suc c = omega arith in
        got_to (ListRight q c x) b (g.0, omega (arith, leb-true (S.lo q) (suc c) a), rw n m, g.1))

    list_after : (q c : ℕ) → at_most (S.hi q) (suc c) ≡ true → (next : List Token → Result (Tree list)) → ((y : List Token) (l : Tree list) (s : List Token) → at_most (S.hi q) (suc (suc c)) ≡ true → next y ≡ got l s → ListRight q (suc c) y l s) → (v : Tree value) (y x : List Token) → Right S q x v y → (t : Tree list) (r : List Token) → after_value S q (suc c) next v y ≡ got t r → ListRight q c x t r
    unfolding after_value Law leaves_then count
    list_after q c m next h v [] x g t r e = list_ends_lem q c m v [] x g t r e
    list_after q c m next h v (word w ∷ y) x g t r e = list_ends_lem q c m v (word w ∷ y) x g t r e
    list_after q c m next h v (string w ∷ y) x g t r e = list_ends_lem q c m v (string w ∷ y) x g t r e
    list_after q c m next h v (opening ∷ y) x g t r e = list_ends_lem q c m v (opening ∷ y) x g t r e
    list_after q c m next h v (equals ∷ y) x g t r e = list_ends_lem q c m v (equals ∷ y) x g t r e
    list_after q c m next h v (comma ∷ y) x g t r e = need_got (may_grow (S.hi q) (suc c)) _ _ _ y e (λ a b. then_got (next y) _ b (λ l s i j.
        let k = h y l s (grown (S.hi q) (suc c) a) i in
        let n : c + suc (count l) ≡ suc c + count l = omega arith in
        got_to (ListRight q c x) j ((g.0, k.0), omega (arith, k.1), rw n k.2, rw k.3 g.1)))
    list_after q c m next h v (closing ∷ y) x g t r e = list_ends_lem q c m v (closing ∷ y) x g t r e

    pub list_sound : (fuel q c : ℕ) → at_most (S.hi q) (suc c) ≡ true → (x : List Token) (t : Tree list) (r : List Token) → list_at S value_of fuel q c x ≡ got t r → ListRight q c x t r
    unfolding list_at
    list_sound zero q c m x t r e = clash e
    list_sound (suc fuel) q c m x t r e = then_got (value_of q x) _ e (λ v y a b. list_after q c m (list_at S value_of fuel q (suc c)) (λ z l s n i. list_sound fuel q (suc c) n z l s i) v y x (hv q x v y a) t r b)

    pub whole_sound : (q : ℕ) (x : List Token) (t : Tree list) (r : List Token) → whole_list S value_of q x ≡ got t r → Law S q t × InRange S q (count t) × (leaves_then t r ≡ x)
    whole_sound q x t r e =
        let g = list_sound (suc (length x)) q 0 (at_most_one (S.hi q) (W.some q)) x t r e in
        let n : 0 + count t ≡ count t = omega arith in
        (g.0, (omega (arith, g.1), rw (← n) g.2), g.3)

    -- items of p, of which those seen were read before
    abbrev pub ItemsRight : Bool → ℕ → List ℕ → List Token → Tree items → List Token → Type 0
    ItemsRight inside p z x t r = Law S p t × ((k : ℕ) → times k z + times k (fields_of t) ≤ 1) × ((k : ℕ) → In k (required_of S (S.tagged p)) → 1 ≤ times k z + times k (fields_of t)) × (leaves_then t r ≡ x) × BodyMayEnd inside r

    abbrev ItemsSound : Bool → ℕ → (List ℕ → List Token → Result (Tree items)) → Type 0
    ItemsSound inside p next = (z : List ℕ) → Once z → (x : List Token) (t : Tree items) (r : List Token) → next z x ≡ got t r → ItemsRight inside p z x t r

    module _ (inside : Bool) (p : ℕ) (next : List ℕ → List Token → Result (Tree items)) (hn : ItemsSound inside p next) (z : List ℕ) (o : Once z) (w : List ℕ) where
      alone_sound : S.find p w ≡ nowhere → (x : List Token) (t : Tree items) (r : List Token) → then (next z x) (λ i s. got (unknown_item w i) s) ≡ got t r → ItemsRight inside p z (word w ∷ x) t r
      unfolding Law leaves_then fields_of
      alone_sound ef x t r e = then_got (next z x) _ e (λ i s a b. let g = hn z o x i s a in got_to (ItemsRight inside p z (word w ∷ x)) b ((ef, g.0), g.1, g.2, rw g.3, g.4))

      unknown_after_lem : S.find p w ≡ nowhere → (x : List Token) (t : Tree items) (r : List Token) → unknown_after (next z) w x ≡ got t r → ItemsRight inside p z (word w ∷ x) t r
      unfolding unknown_after Law leaves_then fields_of
      unknown_after_lem ef [] t r e = alone_sound ef [] t r e
      unknown_after_lem ef (word v ∷ x) t r e = alone_sound ef (word v ∷ x) t r e
      unknown_after_lem ef (string v ∷ x) t r e = alone_sound ef (string v ∷ x) t r e
      unknown_after_lem ef (opening ∷ x) t r e = alone_sound ef (opening ∷ x) t r e
      unknown_after_lem ef (equals ∷ x) t r e = then_got (unknowns_at (suc (length x)) x) _ e (λ l s a b. then_got (next z s) _ b (λ i y c d.
          let m = unknowns_sound (suc (length x)) x l s a in
          let g = hn z o s i y c in
          got_to (ItemsRight inside p z (word w ∷ equals ∷ x)) d ((ef, m.0, g.0), g.1, g.2, rw (g.3, m.1), g.4)))
      unknown_after_lem ef (comma ∷ x) t r e = alone_sound ef (comma ∷ x) t r e
      unknown_after_lem ef (closing ∷ x) t r e = alone_sound ef (closing ∷ x) t r e

      item_sound : (f : Found) → S.find p w ≡ f → (x : List Token) (t : Tree items) (r : List Token) → item_at S value_of next z w f x ≡ got t r → ItemsRight inside p z (word w ∷ x) t r
      unfolding item_at Law leaves_then fields_of times
      item_sound nowhere ef x t r e = unknown_after_lem ef x t r e
      item_sound (found q) ef x t r e =
          need_got (not (has z q)) _ _ _ x e (λ a b.
          let new = once_more q z o (hasnt_in z q (not-true _ a)) in
          whether_got (is_void (S.kind q)) _ _ x b
          (λ c d. then_got (next (q ∷ z) x) _ d (λ i s m n.
          let g = hn (q ∷ z) new x i s m in
          got_to (ItemsRight inside p z (word w ∷ x)) n ((ef, c, g.0), (λ j. omega (arith, g.1 j)), (λ j h. omega (arith, g.2 j h)), rw g.3, g.4)))
          (λ c d. equals_got x _ d (λ y ey m. then_got (whole_list S value_of q y) _ m (λ l s i j. then_got (next (q ∷ z) s) _ j (λ u v c1 d1.
          let k = whole_sound q y l s i in
          let g = hn (q ∷ z) new s u v c1 in
          got_to (ItemsRight inside p z (word w ∷ x)) d1 ((ef, c, k.0, k.1, g.0), (λ j. omega (arith, g.1 j)), (λ j h. omega (arith, g.2 j h)), rw (g.3, k.2, ← ey), g.4))))))

    items_end : (inside : Bool) (p : ℕ) (z : List ℕ) → Once z → (x : List Token) (t : Tree items) (r : List Token) → (end_number inside (all_in (required_of S (S.tagged p)) z) x ≡ 0 → (all_in (required_of S (S.tagged p)) z ≡ true) × BodyMayEnd inside x) → body_ends inside (all_in (required_of S (S.tagged p)) z) no_item x ≡ got t r → ItemsRight inside p z x t r
    unfolding Law leaves_then fields_of times
    items_end inside p z o x t r h e = ends_got inside _ no_item x e (λ a b.
        let g = h a in
        got_to (ItemsRight inside p z x) b (tt, (λ k. omega (arith, o k)), (λ k i. omega (arith, all_in_lem (required_of S (S.tagged p)) z g.0 k i)), refl, g.1))

    pub items_sound : (inside : Bool) (p fuel : ℕ) → ItemsSound inside p (items_at S value_of inside p fuel)
    unfolding items_at
    items_sound inside p zero z o x t r e = clash e
    items_sound inside p (suc fuel) z o [] t r e = items_end inside p z o [] t r (end_nil inside _) e
    items_sound inside p (suc fuel) z o (word w ∷ x) t r e = item_sound inside p (items_at S value_of inside p fuel) (items_sound inside p fuel) z o w (S.find p w) refl x t r e
    items_sound inside p (suc fuel) z o (string w ∷ x) t r e = clash e
    items_sound inside p (suc fuel) z o (opening ∷ x) t r e = clash e
    items_sound inside p (suc fuel) z o (equals ∷ x) t r e = clash e
    items_sound inside p (suc fuel) z o (comma ∷ x) t r e = clash e
    items_sound inside p (suc fuel) z o (closing ∷ x) t r e = items_end inside p z o (closing ∷ x) t r (end_closing inside _ x) e

    abbrev pub BodyRight : Bool → ℕ → List ℕ → List Token → Tree body → List Token → Type 0
    BodyRight inside p qs x t r = Law S (p, qs) t × (leaves_then t r ≡ x) × BodyMayEnd inside r

    list_then_lem : (inside : Bool) (p q : ℕ) (qs : List ℕ) (next : List Token → Result (Tree body)) → ((y : List Token) (b : Tree body) (s : List Token) → next y ≡ got b s → BodyRight inside p qs y b s) → (x : List Token) (t : Tree body) (r : List Token) → list_then S value_of next q x ≡ got t r → BodyRight inside p (q ∷ qs) x t r
    unfolding list_then Law leaves_then
    list_then_lem inside p q qs next h x t r e = then_got (whole_list S value_of q x) _ e (λ l y a b. then_got (next y) _ b (λ u s c d.
        let k = whole_sound q x l y a in
        let g = h y u s c in
        got_to (BodyRight inside p (q ∷ qs) x) d ((qs, refl, k.0, k.1, g.0), rw (g.1, k.2), g.2)))

    stop_sound : (inside : Bool) (p q : ℕ) (qs : List ℕ) (x : List Token) (t : Tree body) (r : List Token) → (end_number inside (eqb (S.lo q) 0) x ≡ 0 → (eqb (S.lo q) 0 ≡ true) × BodyMayEnd inside x) → body_ends inside (eqb (S.lo q) 0) stopped x ≡ got t r → BodyRight inside p (q ∷ qs) x t r
    unfolding Law leaves_then
    stop_sound inside p q qs x t r h e = ends_got inside _ stopped x e (λ a b.
        let g = h a in
        got_to (BodyRight inside p (q ∷ qs) x) b ((q, qs, refl, eqb-true (S.lo q) 0 g.0), refl, g.1))

    pub lists_sound : (inside : Bool) (p : ℕ) (qs : List ℕ) (x : List Token) (t : Tree body) (r : List Token) → lists_at S value_of inside p qs x ≡ got t r → BodyRight inside p qs x t r
    unfolding lists_at Law leaves_then times
    lists_sound inside p [] x t r e = then_got (items_at S value_of inside p (suc (length x)) [] x) _ e (λ i s a b.
        let g = items_sound inside p (suc (length x)) [] once_nil x i s a in
        got_to (BodyRight inside p [] x) b ((refl, g.0, (λ k. omega (arith, g.1 k)), (λ k i u v. omega (arith, g.2 k (required_in S k (S.tagged p) i u v)))), g.3, g.4))
    lists_sound inside p (q ∷ qs) [] t r e = stop_sound inside p q qs [] t r (end_nil inside _) e
    lists_sound inside p (q ∷ qs) (word w ∷ x) t r e = list_then_lem inside p q qs (lists_at S value_of inside p qs) (lists_sound inside p qs) (word w ∷ x) t r e
    lists_sound inside p (q ∷ qs) (string w ∷ x) t r e = list_then_lem inside p q qs (lists_at S value_of inside p qs) (lists_sound inside p qs) (string w ∷ x) t r e
    lists_sound inside p (q ∷ qs) (opening ∷ x) t r e = list_then_lem inside p q qs (lists_at S value_of inside p qs) (lists_sound inside p qs) (opening ∷ x) t r e
    lists_sound inside p (q ∷ qs) (equals ∷ x) t r e = list_then_lem inside p q qs (lists_at S value_of inside p qs) (lists_sound inside p qs) (equals ∷ x) t r e
    lists_sound inside p (q ∷ qs) (comma ∷ x) t r e = list_then_lem inside p q qs (lists_at S value_of inside p qs) (lists_sound inside p qs) (comma ∷ x) t r e
    lists_sound inside p (q ∷ qs) (closing ∷ x) t r e = stop_sound inside p q qs (closing ∷ x) t r (end_closing inside _ x) e

  -- every body that is read is lawful, at any depth
  pub body_sound : WellFormed S → (depth : ℕ) (inside : Bool) (p : ℕ) (x : List Token) (t : Tree body) (r : List Token) → body_at S depth inside p x ≡ got t r → Law S (p, S.untagged p) t × (leaves_then t r ≡ x) × BodyMayEnd inside r
  unfolding body_at
  body_sound W zero inside p x t r e = clash e
  body_sound W (suc depth) inside p x t r e =
      lists_sound W (whole_value S (body_at S depth true))
      (λ q y v s a. value_sound (body_at S depth true) (λ k z b u c. let g = body_sound W depth true k z b u c in (g.0, g.1)) (suc (length y)) q y v s a)
      inside p (S.untagged p) x t r e
