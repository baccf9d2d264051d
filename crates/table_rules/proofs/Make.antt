-- Values made after number 10's steps: "a finite value" is a lawful tree whose leaves are tokens.
use mathlib.Core.Path.{◌≡◌, refl, ap, subst, sym, ◌∙◌}
use mathlib.Core.Bool.{Bool, true, false, not, ◌&&◌, ◌||◌, or-true}
use mathlib.Core.List.{List, [], ◌∷◌}
use Prim.Native.Nat.{ℕ, zero, suc, ◌+◌, ◌≤◌, ◌<◌}
use native.Mathlib.Omega.{arith}
use lib.Dec.{eqb, leb}
use lib.ListN.{length}
use borrow.Author.Tests.{eqb-true, eqb-false, le-leb, leb-true, leb-false}
use Rattle.classes.proofs.Rows.{bytes_self}
use Rattle.numbers.specs.Limits.{no_limit}
use Rattle.classes.specs.Lists.{pick}
use Rattle.reading_rules.specs.Token.{Token, word, equals, comma, opening, closing, is_token}
use Rattle.reading_rules.specs.Record.{Up, top, under, Record, record_at, is_top}
use Rattle.reading_rules.specs.Value.{value_number}
use Rattle.reading_rules.specs.Schema.{simple, struct, union, reference, is_void, found, first, Schema, at_most, kind_of, core_of, schema_of, is_tagged_of, is_untagged_of, is_under, numbers_where}
use Rattle.reading_rules.specs.Count.{In, Once}
use Rattle.reading_rules.proofs.CountLaws.{clash_bool, in_nil, in_head, in_tail}
use Rattle.reading_rules.proofs.Rules.{tag_found}
use Rattle.reading_rules.specs.Reading.{TreeSort, value, list, body, items, Tree, leaf, braced, chosen_void, chosen, chosen_int, last, more, listed, stopped, itemized, no_item, void_item, list_item, leaves_then, count, fields_of, InRange, Law}
use Rattle.definition_rules.specs.Words.{tag_form, has_dot}
use Rattle.definition_rules.specs.Faults.{void_top, plugin_undotted}
use Rattle.table_rules.specs.Endless.{are_tokens}
use Rattle.table_rules.specs.RecordRules.{shows_name, label_fine}
use Rattle.table_rules.proofs.RuleFacts.{flag_of}
use Rattle.table_rules.proofs.Facts.{Formed, and_off, fine_at, seven_at, apart, untagged_is, tagged_is, bare_at_lem}
use Rattle.table_rules.proofs.Steps.{where_in, in_where, where_once, put, none_if, required, needs, StepGives, ClosedSet, field_at, untagged_in}
use Rattle.table_rules.proofs.Needed.{required_le, first_in, kind_is, target_at_lem}
use Rattle.table_rules.proofs.Words.{tag_token, int_value, simple_value}
use Rattle.reading_rules.proofs.Inverse.{required_is}
use Rattle.reading_rules.proofs.Sound.{required_in}

-- the leaves are tokens, before tokens
abbrev pub Real : {s : TreeSort} → Tree s → Type 0
Real t = (r : List Token) → are_tokens r ≡ true → are_tokens (leaves_then t r) ≡ true

pub data Have (rs : List Record) (p : ℕ) : Type 0 where
  none : is_void ((schema_of rs).kind p) ≡ true → Have rs p
  some : (t : Tree value) → is_void ((schema_of rs).kind p) ≡ false → Law (schema_of rs) p t → Real t → Have rs p

cons : (t : Token) (r : List Token) → is_token t ≡ true → are_tokens r ≡ true → are_tokens (t ∷ r) ≡ true
unfolding are_tokens
cons t r a b = rw a b

cons_equals : (r : List Token) → are_tokens r ≡ true → are_tokens (equals ∷ r) ≡ true
unfolding is_token
cons_equals r b = cons equals r refl b

cons_comma : (r : List Token) → are_tokens r ≡ true → are_tokens (comma ∷ r) ≡ true
unfolding is_token
cons_comma r b = cons comma r refl b

cons_opening : (r : List Token) → are_tokens r ≡ true → are_tokens (opening ∷ r) ≡ true
unfolding is_token
cons_opening r b = cons opening r refl b

cons_closing : (r : List Token) → are_tokens r ≡ true → are_tokens (closing ∷ r) ≡ true
unfolding is_token
cons_closing r b = cons closing r refl b

-- a value as often as asked
copies : ℕ → Tree value → Tree list
copies zero v = last v
copies (suc k) v = more v (copies k v)

copies_count : (k : ℕ) (v : Tree value) → count (copies k v) ≡ suc k
unfolding copies count
copies_count zero v = refl
copies_count (suc k) v = ap suc (copies_count k v)

copies_law : (S : Schema) (q k : ℕ) (v : Tree value) → Law S q v → Law S q (copies k v)
unfolding copies Law
copies_law S q zero v l = l
copies_law S q (suc k) v l = (l, copies_law S q k v l)

copies_real : (k : ℕ) (v : Tree value) → Real v → Real (copies k v)
unfolding copies leaves_then
copies_real zero v a = a
copies_real (suc k) v a = λ r h. a (comma ∷ leaves_then (copies k v) r) (cons_comma (leaves_then (copies k v) r) (copies_real k v a r h))

below : (h n : ℕ) → n ≤ h → at_most h n ≡ true
unfolding at_most
below h n e = rw (le-leb n h e) (or-true (eqb h no_limit))

fill : (S : Schema) (q : ℕ) → 1 ≤ S.lo q → S.lo q ≤ S.hi q → (v : Tree value) → Law S q v → Real v → (w : Tree list) × Law S q w × InRange S q (count w) × Real w
fill S q a b v l z = go (S.lo q) refl
  where
    go : (k : ℕ) → S.lo q ≡ k → (w : Tree list) × Law S q w × InRange S q (count w) × Real w
    go zero e = absurd (omega arith)
    go (suc k) e = let c = copies_count k v in (copies k v, copies_law S q k v l, (omega arith, below (S.hi q) (count (copies k v)) (omega arith)), copies_real k v z)

-- a law of values looks at the target only
law_core : (S : Schema) (p t : ℕ) → S.core p ≡ S.core t → (v : Tree value) → Law S t v → Law S p v
unfolding Law
law_core S p t e (leaf n) l = rw e l
law_core S p t e (braced c) l = rw e l
law_core S p t e (chosen_void q n) l = rw e l
law_core S p t e (chosen q n v) l = rw e l
law_core S p t e (chosen_int q n) l = rw e l

void_one : (k : ℕ) → is_void (kind_of k) ≡ true → k ≡ 1
unfolding is_void
void_one k = kind_is k (λ x. is_void x ≡ true → k ≡ 1) (λ e z. e) (λ e z. clash_bool z) (λ e z. clash_bool z) (λ e z. clash_bool z) (λ a b c d z. clash_bool z)

is_top_lem : (u : Up) → is_top u ≡ true → u ≡ top
unfolding is_top
is_top_lem top e = refl
is_top_lem (under p) e = clash_bool e

first_some : (l : List ℕ) (q : ℕ) → In q l → (f : ℕ) × (first l ≡ found f)
unfolding first
first_some [] q h = in_nil q h
first_some (x ∷ l) q h = (x, refl)

label_tag : (p : ℕ) (r : Record) → label_fine r ≡ true → r.parent ≡ under p → r.untagged ≡ false → tag_form r.label ≡ true
unfolding label_fine shows_name is_top pick
label_tag p r a b d = rw (b, d) at a

bare_of : (rs : List Record) (p f : ℕ) → first (numbers_where (is_untagged_of p) 0 rs) ≡ found f → ((schema_of rs).bare p ≡ found f) × In f ((schema_of rs).untagged p)
unfolding schema_of
bare_of rs p f e = (e, first_in (numbers_where (is_untagged_of p) 0 rs) f e)

judge_of : (rs : List Record) (p : ℕ) (t : Token) → value_number (record_at rs p) t ≡ 0 → (schema_of rs).judge p t ≡ 0
unfolding schema_of
judge_of rs p t e = e

module _ (rs : List Record) (F : Formed rs) where
  abbrev S : Schema
  S = schema_of rs

  in_tagged : (p q : ℕ) → In q (S.tagged p) → (q < length rs) × (is_tagged_of p (record_at rs q) ≡ true)
  unfolding schema_of
  in_tagged p q i =
      let g = where_in (is_tagged_of p) 0 rs q i in
      let z : q ≡ g.0 = omega (arith, g.1) in
      (omega (arith, g.2), ap (λ j. is_tagged_of p (record_at rs j)) z ∙ g.3)

  find_at : (p q : ℕ) → q < length rs → is_tagged_of p (record_at rs q) ≡ true → S.find p (record_at rs q).label ≡ found q
  find_at p q h e = tag_found rs (apart rs F) p q (record_at rs q).label h (rw e (bytes_self (record_at rs q).label))

  label_at : (p q : ℕ) → q < length rs → is_tagged_of p (record_at rs q) ≡ true → is_token (word (record_at rs q).label) ≡ true
  label_at p q h e =
      let x = tagged_is p (record_at rs q) e in
      tag_token (record_at rs q).label (label_tag p (record_at rs q) (fine_at rs F q h).named x.0 x.1)

  bounds : (q : ℕ) → q < length rs → S.lo q ≤ S.hi q
  unfolding schema_of
  bounds q h = (fine_at rs F q h).count_mid

  module _ (p : ℕ) (kind8 : (record_at rs p).kind ≡ 8) where
    mk_items : (l : List ℕ) → ((q : ℕ) → In q l → In q (S.tagged p)) → ((q : ℕ) → In q l → 1 ≤ S.lo q) → ((q : ℕ) → In q l → Have rs q) → (i : Tree items) × Law S p i × (fields_of i ≡ l) × Real i
    unfolding Law fields_of leaves_then
    mk_items [] t b h = (no_item, tt, refl, λ r z. z)
    mk_items (q ∷ l) t b h = go (h q (in_head q l)) (mk_items l (λ k z. t k (in_tail k q l z)) (λ k z. b k (in_tail k q l z)) (λ k z. h k (in_tail k q l z)))
      where
        g : (q < length rs) × (is_tagged_of p (record_at rs q) ≡ true)
        g = in_tagged p q (t q (in_head q l))

        f : S.find p (record_at rs q).label ≡ found q
        f = find_at p q g.0 g.1

        w : is_token (word (record_at rs q).label) ≡ true
        w = label_at p q g.0 g.1

        go : Have rs q → (i : Tree items) × Law S p i × (fields_of i ≡ l) × Real i → (i : Tree items) × Law S p i × (fields_of i ≡ q ∷ l) × Real i
        go (none e) (i, x, y, z) = (void_item q (record_at rs q).label i, (f, e, x), rw y, λ r c. cons (word (record_at rs q).label) (leaves_then i r) w (z r c))
        go (some v n e a) (i, x, y, z) =
            let k = fill S q (b q (in_head q l)) (bounds q g.0) v e a in
            (list_item q (record_at rs q).label k.0 i, (f, n, k.1, k.2, x), rw y, λ r c. cons (word (record_at rs q).label) _ w (cons_equals _ (k.3 (leaves_then i r) (z r c))))

    must : (q : ℕ) → In q (S.untagged p) → (S.optional q ≡ false) × (is_void (S.kind q) ≡ true → ⊥)
    unfolding schema_of plugin_undotted
    must q i =
        let g = untagged_in rs p q i in
        let x = untagged_is p (record_at rs q) g.1 in
        let f = field_at rs F p q kind8 g.0 g.1 in
        let n = plugless (record_at rs q).plugin (record_at rs q).untagged (not (has_dot (record_at rs q).label)) x.1 (seven_at rs F q g.0).3 in
        (rw f.0 n, λ v. eqb-false (record_at rs q).kind 1 f.1 (void_one (record_at rs q).kind v))
      where
        plugless : (a b d : Bool) → b ≡ true → a && (b || d) ≡ false → a ≡ false
        plugless true true d e h = h
        plugless true false d e h = clash_bool e
        plugless false b d e h = refl

    mk_body : (us : List ℕ) → ((q : ℕ) → In q us → In q (S.untagged p)) → ((q : ℕ) → In q (needs S (required S p) us) → Have rs q) → (c : Tree body) × Law S (p, us) c × Real c
    unfolding Law needs none_if put leaves_then
    mk_body [] u h =
        let t : (q : ℕ) → In q (required S p) → In q (S.tagged p) = λ q z. (required_is S q (S.tagged p) z).0 in
        let g = mk_items (required S p) t (λ q z. (required_is S q (S.tagged p) z).2) h in
        let o : Once (S.tagged p) = unfold schema_of in (where_once (is_tagged_of p) 0 rs) in
        (itemized g.0, (refl, g.1, (λ k. rw g.2 (omega (arith, required_le S k (S.tagged p), o k))), (λ k z x y. rw g.2 (required_in S k (S.tagged p) z x y))), g.3)
    mk_body (q ∷ us) u h = go (eqb (S.lo q) 0) refl (rw (must q (u q (in_head q us))).0 at h) (λ z. mk_body us (λ k y. u k (in_tail k q us y)) z)
      where
        go : (t : Bool) → eqb (S.lo q) 0 ≡ t → ((k : ℕ) → In k (none_if t (q ∷ needs S (required S p) us)) → Have rs k) → (((k : ℕ) → In k (needs S (required S p) us) → Have rs k) → (c : Tree body) × Law S (p, us) c × Real c) → (c : Tree body) × Law S (p, q ∷ us) c × Real c
        go true e h r = (stopped, (q, us, refl, eqb-true (S.lo q) 0 e), λ r z. z)
        go false e h r = more_of_lem (h q (in_head q (needs S (required S p) us))) (r (λ k z. h k (in_tail k q (needs S (required S p) us) z)))
          where
            more_of_lem : Have rs q → (c : Tree body) × Law S (p, us) c × Real c → (c : Tree body) × Law S (p, q ∷ us) c × Real c
            more_of_lem (none d) x = absurd ((must q (u q (in_head q us))).1 d)
            more_of_lem (some v m d a) x =
                let n = eqb-false (S.lo q) 0 e in
                let g = fill S q (omega arith) (bounds q (untagged_in rs p q (u q (in_head q us))).0) v d a in
                (listed q g.0 x.0, (us, refl, g.1, g.2, x.1), λ r z. g.3 (leaves_then x.0 r) (x.2 r z))

  own : (p : ℕ) → ((record_at rs p).kind ≡ 10 → ⊥) → S.core p ≡ p
  unfolding schema_of core_of
  own p n = kind_is (record_at rs p).kind (λ k. core_of p (record_at rs p).target k ≡ p) (λ e. refl) (λ e. refl) (λ e. refl) (λ e. absurd (n e)) (λ a b d e. refl)

  has_simple : (p : ℕ) → p < length rs → ((record_at rs p).kind ≡ 1 → ⊥) → ((record_at rs p).kind ≡ 8 → ⊥) → ((record_at rs p).kind ≡ 9 → ⊥) → ((record_at rs p).kind ≡ 10 → ⊥) → S.kind p ≡ simple → Have rs p
  unfolding Law leaves_then is_void
  has_simple p h n1 n8 n9 n10 e =
      let f = fine_at rs F p h in
      let l = f.kind_lo in
      let m = f.kind_hi in
      let k : (record_at rs p).kind ≤ 7 = small (record_at rs p).kind m n8 n9 n10 in
      let k2 : 2 ≤ (record_at rs p).kind = large (record_at rs p).kind l n1 in
      let g = simple_value (record_at rs p) k2 k f.range_lo f.range_mid f.range_hi in
      some (leaf g.0) (rw e) (rw (own p n10) (e, judge_of rs p g.0 g.1)) (λ r z. cons g.0 r g.2 z)
    where
      large : (k : ℕ) → 1 ≤ k → (k ≡ 1 → ⊥) → 2 ≤ k
      large zero a n = absurd (omega arith)
      large (suc zero) a n = absurd (n refl)
      large (suc (suc k)) a n = omega arith

      small : (k : ℕ) → k ≤ 10 → (k ≡ 8 → ⊥) → (k ≡ 9 → ⊥) → (k ≡ 10 → ⊥) → k ≤ 7
      small k a n8 n9 n10 = go (leb k 7) refl (eqb k 8) refl (eqb k 9) refl (eqb k 10) refl
        where
          go : (a : Bool) → leb k 7 ≡ a → (b : Bool) → eqb k 8 ≡ b → (c : Bool) → eqb k 9 ≡ c → (d : Bool) → eqb k 10 ≡ d → k ≤ 7
          go true x b y c z d w = leb-true k 7 x
          go false x true y c z d w = absurd (n8 (eqb-true k 8 y))
          go false x false y true z d w = absurd (n9 (eqb-true k 9 z))
          go false x false y false z true w = absurd (n10 (eqb-true k 10 w))
          go false x false y false z false w = let e8 = eqb-false k 8 y in let e9 = eqb-false k 9 z in let e10 = eqb-false k 10 w in let g = leb-false k 7 x in absurd (last_case k g a e8 e9 e10)
            where
              last_case : (k : ℕ) → 7 < k → k ≤ 10 → (k ≡ 8 → ⊥) → (k ≡ 9 → ⊥) → (k ≡ 10 → ⊥) → ⊥
              last_case k g a e8 e9 e10 = omega arith

  has_struct : (p : ℕ) → p < length rs → (record_at rs p).kind ≡ 8 → S.kind p ≡ struct → ((q : ℕ) → In q (needs S (required S p) (S.untagged p)) → Have rs q) → Have rs p
  unfolding Law leaves_then is_void
  has_struct p h k e s =
      let g = mk_body p k (S.untagged p) (λ q z. z) s in
      some (braced g.0) (rw e) (rw (own p (λ z. omega arith)) (e, g.1)) (λ r z. cons_opening _ (g.2 (closing ∷ r) (cons_closing r z)))

  has_union : (p q : ℕ) → p < length rs → (record_at rs p).kind ≡ 9 → S.kind p ≡ union → q < length rs → is_under p (record_at rs q).parent ≡ true → Have rs q → Have rs p
  unfolding Law leaves_then is_void
  has_union p q h k e i u s = go (record_at rs q).untagged refl s
    where
      c : S.core p ≡ p
      c = own p (λ z. omega arith)

      bare : is_untagged_of p (record_at rs q) ≡ true → Have rs p
      bare b =
          let o : q ≡ 0 + q = omega arith in
          let m : In q (numbers_where (is_untagged_of p) 0 rs) = subst (λ j. In j (numbers_where (is_untagged_of p) 0 rs)) (sym o) (in_where (is_untagged_of p) 0 rs q i b) in
          let f = first_some (numbers_where (is_untagged_of p) 0 rs) q m in
          let d = bare_of rs p f.0 f.1 in
          let x = untagged_in rs p f.0 d.1 in
          let y = fine_at rs F f.0 x.0 in
          let g = int_value (record_at rs f.0) (bare_at_lem rs F p f.0 k x.0 x.1) y.range_mid y.range_hi in
          some (chosen_int f.0 g.0) (rw e) (rw c (e, d.0, judge_of rs f.0 (word g.0) g.1)) (λ r z. cons (word g.0) r g.2 z)

      tagged : is_tagged_of p (record_at rs q) ≡ true → Have rs q → Have rs p
      tagged b (none v) = some (chosen_void q (record_at rs q).label) (rw e) (rw c (e, find_at p q i b, v)) (λ r z. cons (word (record_at rs q).label) r (label_at p q i b) z)
      tagged b (some t n l a) = some (chosen q (record_at rs q).label t) (rw e) (rw c (e, find_at p q i b, n, l)) (λ r z. cons (word (record_at rs q).label) _ (label_at p q i b) (cons_equals _ (a r z)))

      go : (n : Bool) → (record_at rs q).untagged ≡ n → Have rs q → Have rs p
      go true b s = bare (rw (u, b))
      go false b s = tagged (rw (u, b)) s

  has_reference : (p : ℕ) → p < length rs → (record_at rs p).kind ≡ 10 → S.kind p ≡ reference → Have rs (record_at rs p).target → Have rs p
  unfolding is_void
  has_reference p h k e = go
    where
      at : ((record_at rs p).target < length rs) × (is_top (record_at rs (record_at rs p).target).parent ≡ true)
      at = target_at_lem rs F p h k

      no_void : (record_at rs (record_at rs p).target).kind ≡ 1 → ⊥
      no_void = eqb-false (record_at rs (record_at rs p).target).kind 1 (and_off (is_top (record_at rs (record_at rs p).target).parent) _ (unfold void_top in (seven_at rs F (record_at rs p).target at.0).2) at.1)

      no_reference : (record_at rs (record_at rs p).target).kind ≡ 10 → ⊥
      no_reference = eqb-false (record_at rs (record_at rs p).target).kind 10 (flag_of (record_at rs (record_at rs p).target) (fine_at rs F (record_at rs p).target at.0).topped (is_top_lem (record_at rs (record_at rs p).target).parent at.1)).2

      to : S.core p ≡ (record_at rs p).target
      to = aim p e
        where
          aim : (p : ℕ) → S.kind p ≡ reference → S.core p ≡ (record_at rs p).target
          aim p e = unfold schema_of core_of in (rw e)

      go : Have rs (record_at rs p).target → Have rs p
      go (none v) = absurd (no_void (void_one (record_at rs (record_at rs p).target).kind (unfold schema_of in v)))
      go (some v n l a) = some v (rw e) (law_core S p (record_at rs p).target (to ∙ sym (own (record_at rs p).target no_reference)) v l) a

  pub have_closed : ClosedSet rs (Have rs)
  unfolding StepGives schema_of
  have_closed p h = kind_is (record_at rs p).kind (λ k. kind_of (record_at rs p).kind ≡ k → StepGives rs (Have rs) p k → Have rs p)
      (λ k e s. none (unfold is_void in (ap is_void e)))
      (λ k e s. has_struct p h k e s)
      (λ k e s. has_union p s.0 h k e s.1 s.2 s.3)
      (λ k e s. has_reference p h k e s)
      (λ a b c d e s. has_simple p h a b c d e)
      refl
