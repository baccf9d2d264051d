-- A refusal stands at a token of the message or at its end: what is left there is an end part of the tokens.
use mathlib.Core.Path.{◌≡◌, refl, ap, ◌∙◌}
use mathlib.Core.Bool.{Bool, true, false}
use mathlib.Core.List.{List, [], ◌∷◌, ◌++◌}
use Prim.Native.Nat.{ℕ, zero, suc, ◌-◌, ◌≤◌}
use native.Mathlib.Omega.{arith}
use lib.ListN.{length, drop}
use Rattle.numbers.specs.Decimal.{is_int_like}
use Rattle.reading_rules.specs.Token.{Token, word, string, equals, comma, opening, closing}
use Rattle.reading_rules.specs.Schema.{Kind, void, simple, struct, union, reference, is_void, Found, nowhere, found, Schema, WellFormed}
use Rattle.reading_rules.specs.Reading.{TreeSort, unknown_value, unknown_list, value, list, body, items, Tree, unknown_word, unknown_string, unknown_braces, unknown_pair, unknown_last, unknown_more, leaf, braced, chosen_void, chosen, chosen_int, last, more, listed, stopped, itemized, no_item, void_item, list_item, unknown_item, unknown_list_item, leaves_then}
use Rattle.reading_rules.specs.Parse.{Result, refused, got, then, need, whether, on_equals, after_token, pair_with, braces_at, unknown_at, after_unknown, unknowns_at, judged, simple_at, shut, struct_at, alternative, bare_for, choose, union_at, none_at, by_kind, value_at, list_ends, after_value, list_at, whole_list, body_ends, unknown_after, item_at, items_at, list_then, lists_at, whole_value, body_at, parse}
use Rattle.message_rules.proofs.Spans.{tokens_length}
use Rattle.message_rules.specs.Scan.{Lexeme, tokens_of}
use Rattle.message_rules.specs.Verdict.{start_or}
use Rattle.reading_rules.proofs.Sound.{unknown_sound, unknowns_sound, ValueSound, value_sound, whole_sound, body_sound}

-- an end part of the tokens
pub data EndPart : List Token → List Token → Type 0 where
  all : {r : List Token} → EndPart r r
  later : {t : Token} {r x : List Token} → EndPart r x → EndPart r (t ∷ x)

join : {a b c : List Token} → EndPart a b → EndPart b c → EndPart a c
join p all = p
join p (later q) = later (join p q)

tail_of : {t : Token} {q s x : List Token} → s ≡ t ∷ q → EndPart s x → EndPart q x
tail_of {t} {q} {s} {x} e p = join (later all) (rw e at p)

after_braces : (ts r : List Token) → EndPart r (ts ++ closing ∷ r)
after_braces [] r = later all
after_braces (t ∷ ts) r = later (after_braces ts r)

-- what follows a tree is an end part
pub after_tree : {s : TreeSort} (t : Tree s) (r : List Token) → EndPart r (leaves_then t r)
unfolding leaves_then
after_tree (unknown_word w) r = later all
after_tree (unknown_string w) r = later all
after_tree (unknown_braces ts) r = later (after_braces ts r)
after_tree (unknown_pair w v) r = later (later (after_tree v r))
after_tree (unknown_last v) r = after_tree v r
after_tree (unknown_more v l) r = join (later (after_tree l r)) (after_tree v (comma ∷ leaves_then l r))
after_tree (leaf t) r = later all
after_tree (braced b) r = later (join (later all) (after_tree b (closing ∷ r)))
after_tree (chosen_void q w) r = later all
after_tree (chosen q w v) r = later (later (after_tree v r))
after_tree (chosen_int q w) r = later all
after_tree (last v) r = after_tree v r
after_tree (more v l) r = join (later (after_tree l r)) (after_tree v (comma ∷ leaves_then l r))
after_tree (listed q l b) r = join (after_tree b r) (after_tree l (leaves_then b r))
after_tree stopped r = all
after_tree (itemized i) r = after_tree i r
after_tree no_item r = all
after_tree (void_item q w i) r = later (after_tree i r)
after_tree (list_item q w l i) r = later (later (join (after_tree i r) (after_tree l (leaves_then i r))))
after_tree (unknown_item w i) r = later (after_tree i r)
after_tree (unknown_list_item w l i) r = later (later (join (after_tree i r) (after_tree l (leaves_then i r))))

-- a refusal stands in x
pub data At {A : Type 0} (x : List Token) : Result A → Type 0 where
  read : {a : A} {r : List Token} → At x (got a r)
  here : {n : ℕ} {r : List Token} → EndPart r x → At x (refused n r)

wider : {A : Type 0} {x y : List Token} {m : Result A} → EndPart y x → At y m → At x m
wider p read = read
wider p (here q) = here (join q p)

then_at : {A B : Type 0} {x : List Token} (m : Result A) (f : A → List Token → Result B) → At x m → ((a : A) (r : List Token) → m ≡ got a r → At x (f a r)) → At x (then m f)
unfolding then
then_at m f (read {a = a} {r = r}) k = k a r refl
then_at m f (here q) k = here q

need_at : {A : Type 0} {x : List Token} (t : Bool) (n : ℕ) (s : List Token) (f : List Token → Result A) (q : List Token) → EndPart s x → (t ≡ true → At x (f q)) → At x (need t n s f q)
unfolding need
need_at true n s f q p h = h refl
need_at false n s f q p h = here p

whether_at : {A : Type 0} {x : List Token} (t : Bool) (f g : List Token → Result A) (q : List Token) → At x (f q) → At x (g q) → At x (whether t f g q)
unfolding whether
whether_at true f g q h k = h
whether_at false f g q h k = k

equals_at : {A : Type 0} {x : List Token} (s : List Token) (f : List Token → Result A) → EndPart s x → ((q : List Token) → s ≡ equals ∷ q → At x (f q)) → At x (on_equals s f)
unfolding on_equals
equals_at [] f p h = here p
equals_at (word w ∷ s) f p h = here p
equals_at (string w ∷ s) f p h = here p
equals_at (opening ∷ s) f p h = here p
equals_at (equals ∷ s) f p h = h s refl
equals_at (comma ∷ s) f p h = here p
equals_at (closing ∷ s) f p h = here p

after_at : {x : List Token} (t : Token) (m : Result (List Token)) → At x m → At x (after_token t m)
unfolding after_token
after_at t m read = read
after_at t m (here p) = here p

pair_at_lem : {x : List Token} (w : List ℕ) (m : Result (Tree unknown_value)) → At x m → At x (pair_with w m)
unfolding pair_with
pair_at_lem w m read = read
pair_at_lem w m (here p) = here p

braces_at_lem : (x : List Token) (k : ℕ) → At x (braces_at x k)
unfolding braces_at
braces_at_lem [] k = here all
braces_at_lem (word w ∷ x) k = after_at (word w) (braces_at x k) (wider (later all) (braces_at_lem x k))
braces_at_lem (string w ∷ x) k = after_at (string w) (braces_at x k) (wider (later all) (braces_at_lem x k))
braces_at_lem (opening ∷ x) k = after_at opening (braces_at x (suc k)) (wider (later all) (braces_at_lem x (suc k)))
braces_at_lem (equals ∷ x) k = after_at equals (braces_at x k) (wider (later all) (braces_at_lem x k))
braces_at_lem (comma ∷ x) k = after_at comma (braces_at x k) (wider (later all) (braces_at_lem x k))
braces_at_lem (closing ∷ x) zero = read
braces_at_lem (closing ∷ x) (suc k) = after_at closing (braces_at x k) (wider (later all) (braces_at_lem x k))

unknown_at_lem : (x : List Token) → At x (unknown_at x)
unfolding unknown_at
unknown_at_lem [] = here all
unknown_at_lem (word w ∷ []) = read
unknown_at_lem (word w ∷ word v ∷ x) = read
unknown_at_lem (word w ∷ string v ∷ x) = read
unknown_at_lem (word w ∷ opening ∷ x) = read
unknown_at_lem (word w ∷ equals ∷ x) = pair_at_lem w (unknown_at x) (wider (later (later all)) (unknown_at_lem x))
unknown_at_lem (word w ∷ comma ∷ x) = read
unknown_at_lem (word w ∷ closing ∷ x) = read
unknown_at_lem (string w ∷ x) = read
unknown_at_lem (opening ∷ x) = then_at (braces_at x 0) _ (wider (later all) (braces_at_lem x 0)) (λ ts r e. read)
unknown_at_lem (equals ∷ x) = here all
unknown_at_lem (comma ∷ x) = here all
unknown_at_lem (closing ∷ x) = here all

module _ (S : Schema) where
  unknowns_after : (x : List Token) (next : List Token → Result (Tree unknown_list)) → ((y : List Token) → At y (next y)) → (v : Tree unknown_value) (q : List Token) → EndPart q x → At x (after_unknown next v q)
  unfolding after_unknown
  unknowns_after x next h v [] p = read
  unknowns_after x next h v (word w ∷ q) p = read
  unknowns_after x next h v (string w ∷ q) p = read
  unknowns_after x next h v (opening ∷ q) p = read
  unknowns_after x next h v (equals ∷ q) p = read
  unknowns_after x next h v (comma ∷ q) p = then_at (next q) _ (wider (join (later all) p) (h q)) (λ l r e. read)
  unknowns_after x next h v (closing ∷ q) p = read

  unknowns_at_lem : (fuel : ℕ) (x : List Token) → At x (unknowns_at fuel x)
  unfolding unknowns_at
  unknowns_at_lem zero x = here all
  unknowns_at_lem (suc fuel) x = then_at (unknown_at x) _ (unknown_at_lem x) (λ v q e. unknowns_after x (unknowns_at fuel) (unknowns_at_lem fuel) v q (rw (unknown_sound S x v q e).1 at (after_tree v q)))

  abbrev BodyAt : (ℕ → List Token → Result (Tree body)) → Type 0
  BodyAt body_of = (p : ℕ) (x : List Token) → At x (body_of p x)

  abbrev ValueAt : (ℕ → List Token → Result (Tree value)) → Type 0
  ValueAt value_of = (q : ℕ) (x : List Token) → At x (value_of q x)

  simple_at_lem : (u : ℕ) (x : List Token) → At x (simple_at S u x)
  unfolding simple_at judged
  simple_at_lem u [] = here all
  simple_at_lem u (word w ∷ x) = need_at _ _ _ _ x all (λ e. read)
  simple_at_lem u (string w ∷ x) = need_at _ _ _ _ x all (λ e. read)
  simple_at_lem u (opening ∷ x) = here all
  simple_at_lem u (equals ∷ x) = here all
  simple_at_lem u (comma ∷ x) = here all
  simple_at_lem u (closing ∷ x) = here all

  shut_at : (y : List Token) (b : Tree body) (x : List Token) → EndPart x y → At y (shut b x)
  unfolding shut
  shut_at y b [] p = here p
  shut_at y b (word w ∷ x) p = here p
  shut_at y b (string w ∷ x) p = here p
  shut_at y b (opening ∷ x) p = here p
  shut_at y b (equals ∷ x) p = here p
  shut_at y b (comma ∷ x) p = here p
  shut_at y b (closing ∷ x) p = read

  none_at_lem : (x : List Token) → At x (none_at x)
  unfolding none_at
  none_at_lem [] = here all
  none_at_lem (word w ∷ x) = here all
  none_at_lem (string w ∷ x) = here all
  none_at_lem (opening ∷ x) = here all
  none_at_lem (equals ∷ x) = here all
  none_at_lem (comma ∷ x) = here all
  none_at_lem (closing ∷ x) = here all

  struct_at_lem : (body_of : ℕ → List Token → Result (Tree body)) → BodyAt body_of → ((p : ℕ) (x : List Token) (b : Tree body) (r : List Token) → body_of p x ≡ got b r → EndPart r x) → (u : ℕ) (x : List Token) → At x (struct_at body_of u x)
  unfolding struct_at
  struct_at_lem body_of h k u [] = here all
  struct_at_lem body_of h k u (word w ∷ x) = here all
  struct_at_lem body_of h k u (string w ∷ x) = here all
  struct_at_lem body_of h k u (opening ∷ x) = then_at (body_of u x) _ (wider (later all) (h u x)) (λ b r e. shut_at (opening ∷ x) b r (later (k u x b r e)))
  struct_at_lem body_of h k u (equals ∷ x) = here all
  struct_at_lem body_of h k u (comma ∷ x) = here all
  struct_at_lem body_of h k u (closing ∷ x) = here all

  module _ (value_of : ℕ → List Token → Result (Tree value)) (hv : ValueAt value_of) where
    alternative_at : (w : List ℕ) (f : Found) (x : List Token) → At (word w ∷ x) (alternative S value_of w f x)
    unfolding alternative
    alternative_at w nowhere x = here all
    alternative_at w (found q) x = whether_at (is_void (S.kind q)) _ _ x read (equals_at x _ (later all) (λ y e. then_at (value_of q y) _ (wider (tail_of e (later all)) (hv q y)) (λ v r a. read)))

    choose_at : (u : ℕ) (w : List ℕ) (f : Found) (x : List Token) → At (word w ∷ x) (choose S value_of u w f x)
    unfolding choose judged
    choose_at u w (found q) x = need_at _ _ _ _ x all (λ e. read)
    choose_at u w nowhere x = alternative_at w (S.find u w) x

    union_at_lem : (u : ℕ) (x : List Token) → At x (union_at S value_of u x)
    unfolding union_at
    union_at_lem u [] = here all
    union_at_lem u (word w ∷ x) = choose_at u w (bare_for (S.bare u) (is_int_like w)) x
    union_at_lem u (string w ∷ x) = here all
    union_at_lem u (opening ∷ x) = here all
    union_at_lem u (equals ∷ x) = here all
    union_at_lem u (comma ∷ x) = here all
    union_at_lem u (closing ∷ x) = here all

    kind_at : (body_of : ℕ → List Token → Result (Tree body)) → BodyAt body_of → ((p : ℕ) (x : List Token) (b : Tree body) (r : List Token) → body_of p x ≡ got b r → EndPart r x) → (u : ℕ) (k : Kind) (x : List Token) → At x (by_kind S body_of value_of u k x)
    unfolding by_kind
    kind_at body_of h e u void x = none_at_lem x
    kind_at body_of h e u simple x = simple_at_lem u x
    kind_at body_of h e u struct x = struct_at_lem body_of h e u x
    kind_at body_of h e u union x = union_at_lem u x
    kind_at body_of h e u reference x = none_at_lem x

  value_at_lem : (body_of : ℕ → List Token → Result (Tree body)) → BodyAt body_of → ((p : ℕ) (x : List Token) (b : Tree body) (r : List Token) → body_of p x ≡ got b r → EndPart r x) → (fuel : ℕ) → ValueAt (value_at S body_of fuel)
  unfolding value_at
  value_at_lem body_of h e zero q x = here all
  value_at_lem body_of h e (suc fuel) q x = kind_at (value_at S body_of fuel) (value_at_lem body_of h e fuel) body_of h e (S.core q) (S.kind (S.core q)) x

  module _ (W : WellFormed S) (value_of : ℕ → List Token → Result (Tree value)) (sv : ValueSound S value_of) (hv : ValueAt value_of) where
    list_ends_lem : (x : List Token) (q c : ℕ) (v : Tree value) (y : List Token) → EndPart y x → At x (list_ends S q c v y)
    unfolding list_ends
    list_ends_lem x q c v y p = need_at _ _ _ _ y p (λ e. read)

    list_after : (x : List Token) (q c : ℕ) (next : List Token → Result (Tree list)) → ((y : List Token) → At y (next y)) → (v : Tree value) (y : List Token) → EndPart y x → At x (after_value S q c next v y)
    unfolding after_value
    list_after x q c next h v [] p = list_ends_lem x q c v [] p
    list_after x q c next h v (word w ∷ y) p = list_ends_lem x q c v (word w ∷ y) p
    list_after x q c next h v (string w ∷ y) p = list_ends_lem x q c v (string w ∷ y) p
    list_after x q c next h v (opening ∷ y) p = list_ends_lem x q c v (opening ∷ y) p
    list_after x q c next h v (equals ∷ y) p = list_ends_lem x q c v (equals ∷ y) p
    list_after x q c next h v (comma ∷ y) p = need_at _ _ _ _ y p (λ e. then_at (next y) _ (wider (join (later all) p) (h y)) (λ l r a. read))
    list_after x q c next h v (closing ∷ y) p = list_ends_lem x q c v (closing ∷ y) p

    list_at_lem : (fuel q c : ℕ) (x : List Token) → At x (list_at S value_of fuel q c x)
    unfolding list_at
    list_at_lem zero q c x = here all
    list_at_lem (suc fuel) q c x = then_at (value_of q x) _ (hv q x) (λ v y e. list_after x q (suc c) (list_at S value_of fuel q (suc c)) (list_at_lem fuel q (suc c)) v y (rw (sv q x v y e).1 at (after_tree v y)))

    whole_at : (q : ℕ) (x : List Token) → At x (whole_list S value_of q x)
    whole_at q x = list_at_lem (suc (length x)) q 0 x

    list_left : (q : ℕ) (x : List Token) (l : Tree list) (y : List Token) → whole_list S value_of q x ≡ got l y → EndPart y x
    list_left q x l y e = rw (whole_sound S W value_of sv q x l y e).2 at (after_tree l y)

    module _ (inside : Bool) (p : ℕ) where
      abbrev ItemsAt : (List ℕ → List Token → Result (Tree items)) → Type 0
      ItemsAt next = (z : List ℕ) (x : List Token) → At x (next z x)

      unknown_after_lem : (next : List ℕ → List Token → Result (Tree items)) → ItemsAt next → (z w : List ℕ) (x : List Token) → At x (unknown_after (next z) w x)
      unfolding unknown_after
      unknown_after_lem next h z w [] = then_at (next z []) _ (h z []) (λ i r e. read)
      unknown_after_lem next h z w (word v ∷ x) = then_at (next z (word v ∷ x)) _ (h z (word v ∷ x)) (λ i r e. read)
      unknown_after_lem next h z w (string v ∷ x) = then_at (next z (string v ∷ x)) _ (h z (string v ∷ x)) (λ i r e. read)
      unknown_after_lem next h z w (opening ∷ x) = then_at (next z (opening ∷ x)) _ (h z (opening ∷ x)) (λ i r e. read)
      unknown_after_lem next h z w (equals ∷ x) = then_at (unknowns_at (suc (length x)) x) _ (wider (later all) (unknowns_at_lem (suc (length x)) x)) (λ l y e.
          then_at (next z y) _ (wider (later (rw (unknowns_sound S (suc (length x)) x l y e).1 at (after_tree l y))) (h z y)) (λ i r a. read))
      unknown_after_lem next h z w (comma ∷ x) = then_at (next z (comma ∷ x)) _ (h z (comma ∷ x)) (λ i r e. read)
      unknown_after_lem next h z w (closing ∷ x) = then_at (next z (closing ∷ x)) _ (h z (closing ∷ x)) (λ i r e. read)

      item_at_lem : (next : List ℕ → List Token → Result (Tree items)) → ItemsAt next → (z w : List ℕ) (f : Found) (x : List Token) → At (word w ∷ x) (item_at S value_of next z w f x)
      unfolding item_at
      item_at_lem next h z w nowhere x = wider (later all) (unknown_after_lem next h z w x)
      item_at_lem next h z w (found q) x = need_at _ _ _ _ x all (λ a. whether_at (is_void (S.kind q)) _ _ x
          (then_at (next (q ∷ z) x) _ (wider (later all) (h (q ∷ z) x)) (λ i r e. read))
          (equals_at x _ (later all) (λ y e.
          let py = tail_of e (later all) in
          then_at (whole_list S value_of q y) _ (wider py (whole_at q y)) (λ l u b. then_at (next (q ∷ z) u) _ (wider (join (list_left q y l u b) py) (h (q ∷ z) u)) (λ i r c. read)))))

      items_at_lem : (fuel : ℕ) → ItemsAt (items_at S value_of inside p fuel)
      unfolding items_at body_ends
      items_at_lem zero z x = here all
      items_at_lem (suc fuel) z [] = need_at _ _ _ _ [] all (λ e. read)
      items_at_lem (suc fuel) z (word w ∷ x) = item_at_lem (items_at S value_of inside p fuel) (items_at_lem fuel) z w (S.find p w) x
      items_at_lem (suc fuel) z (string w ∷ x) = here all
      items_at_lem (suc fuel) z (opening ∷ x) = here all
      items_at_lem (suc fuel) z (equals ∷ x) = here all
      items_at_lem (suc fuel) z (comma ∷ x) = here all
      items_at_lem (suc fuel) z (closing ∷ x) = need_at _ _ _ _ (closing ∷ x) all (λ e. read)

      list_then_lem : (q : ℕ) (next : List Token → Result (Tree body)) → ((y : List Token) → At y (next y)) → (x : List Token) → At x (list_then S value_of next q x)
      unfolding list_then
      list_then_lem q next h x = then_at (whole_list S value_of q x) _ (whole_at q x) (λ l y e. then_at (next y) _ (wider (list_left q x l y e) (h y)) (λ b r a. read))

      lists_at_lem : (qs : List ℕ) (x : List Token) → At x (lists_at S value_of inside p qs x)
      unfolding lists_at body_ends
      lists_at_lem [] x = then_at (items_at S value_of inside p (suc (length x)) [] x) _ (items_at_lem (suc (length x)) [] x) (λ i r e. read)
      lists_at_lem (q ∷ qs) [] = need_at _ _ _ _ [] all (λ e. read)
      lists_at_lem (q ∷ qs) (word w ∷ x) = list_then_lem q (lists_at S value_of inside p qs) (lists_at_lem qs) (word w ∷ x)
      lists_at_lem (q ∷ qs) (string w ∷ x) = list_then_lem q (lists_at S value_of inside p qs) (lists_at_lem qs) (string w ∷ x)
      lists_at_lem (q ∷ qs) (opening ∷ x) = list_then_lem q (lists_at S value_of inside p qs) (lists_at_lem qs) (opening ∷ x)
      lists_at_lem (q ∷ qs) (equals ∷ x) = list_then_lem q (lists_at S value_of inside p qs) (lists_at_lem qs) (equals ∷ x)
      lists_at_lem (q ∷ qs) (comma ∷ x) = list_then_lem q (lists_at S value_of inside p qs) (lists_at_lem qs) (comma ∷ x)
      lists_at_lem (q ∷ qs) (closing ∷ x) = need_at _ _ _ _ (closing ∷ x) all (λ e. read)

  pub body_at_lem : WellFormed S → (depth : ℕ) (inside : Bool) (p : ℕ) (x : List Token) → At x (body_at S depth inside p x)
  unfolding body_at
  body_at_lem W zero inside p x = here all
  body_at_lem W (suc depth) inside p x =
      lists_at_lem W (whole_value S (body_at S depth true))
      (λ q y v r e. value_sound S (body_at S depth true) (λ u z b t a. let g = body_sound S W depth true u z b t a in (g.0, g.1)) (suc (length y)) q y v r e)
      (λ q y. value_at_lem (body_at S depth true) (body_at_lem W depth true) (λ u z b r e. rw (body_sound S W depth true u z b r e).1 at (after_tree b r)) (suc (length y)) q y)
      inside p (S.untagged p) x

at_part : {x : List Token} {m : Result (Tree body)} → At x m → (n : ℕ) (r : List Token) → m ≡ refused n r → EndPart r x
at_part read n r e = let z : ◌≡◌ {A = ℕ} 0 1 = cc in absurd (omega arith)
at_part {x} (here {n = k} {r = s} p) n r e = let q : s ≡ r = cc in rw q at p

-- where the parser refuses, the tokens left are an end part of all of them
pub parse_placed_lem : (S : Schema) → WellFormed S → (depth : ℕ) (x : List Token) (n : ℕ) (r : List Token) → parse S depth x ≡ refused n r → EndPart r x
parse_placed_lem S W depth x n r e = at_part (body_at_lem S W (suc depth) false 0 x) n r e

part_short : {r x : List Token} → EndPart r x → length r ≤ length x
part_short all = omega arith
part_short (later p) = omega (arith, part_short p)

-- an end part is what is left after as many tokens as it is shorter
pub part_drop : {r x : List Token} → EndPart r x → drop (length x - length r) x ≡ r
part_drop {r} all = let e : length r - length r ≡ 0 = omega arith in rw e
part_drop {r} (later {x = y} p) = let e : suc (length y) - length r ≡ suc (length y - length r) = omega (arith, part_short p) in rw e (part_drop p)

tokens_drop : (k : ℕ) (ls : List Lexeme) → tokens_of (drop k ls) ≡ drop k (tokens_of ls)
unfolding tokens_of
tokens_drop zero ls = refl
tokens_drop (suc k) [] = refl
tokens_drop (suc k) (l ∷ ls) = tokens_drop k ls

-- the lexemes at which a refusal's place is taken are those of the tokens left
pub parse_left : (S : Schema) → WellFormed S → (depth : ℕ) (ls : List Lexeme) (n : ℕ) (r : List Token) → parse S depth (tokens_of ls) ≡ refused n r → tokens_of (drop (length ls - length r) ls) ≡ r
parse_left S W depth ls n r e =
    let a = part_drop (parse_placed_lem S W depth (tokens_of ls) n r e) in
    let b = tokens_length ls in
    tokens_drop (length ls - length r) ls ∙ (rw b at a)

-- where tokens are left, the first is one of the lexemes, and the place is its start
pub left_first : (n k : ℕ) (ls : List Lexeme) (t : Token) (x : List Token) → tokens_of (drop k ls) ≡ t ∷ x → (before : List Lexeme) × (l : Lexeme) × (after : List Lexeme) × (ls ≡ before ++ l ∷ after) × (l.token ≡ t) × (start_or n (drop k ls) ≡ l.start)
unfolding tokens_of start_or
left_first n zero [] t x e = let z : ◌≡◌ {A = ℕ} 0 1 = cc in absurd (omega arith)
left_first n zero (l ∷ ls) t x e = let q : l.token ≡ t = cc in ([], l, ls, refl, q, refl)
left_first n (suc k) [] t x e = let z : ◌≡◌ {A = ℕ} 0 1 = cc in absurd (omega arith)
left_first n (suc k) (m ∷ ls) t x e = let g = left_first n k ls t x e in (m ∷ g.0, g.1, g.2, ap (λ j. m ∷ j) g.3, g.4, g.5)
