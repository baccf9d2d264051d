-- A lawful value shows that its parameter lies in every set closed under number 10's steps.
use mathlib.Core.Path.{◌≡◌, refl, ap, subst, sym}
use mathlib.Core.Bool.{true}
use mathlib.Core.List.{List, ◌∷◌}
use Prim.Native.Nat.{ℕ, ◌<◌}
use lib.Dec.{eqb}
use lib.ListN.{length}
use Rattle.reading_rules.specs.Record.{Record, record_at}
use Rattle.reading_rules.specs.Schema.{Kind, void, simple, struct, union, reference, is_void, found, Schema, kind_of, core_of, schema_of, is_tagged_of, is_untagged_of, is_under, numbers_where}
use Rattle.reading_rules.specs.Count.{In}
use Rattle.reading_rules.proofs.CountLaws.{clash_bool, and_both, in_nil, in_head, in_tail, in_cons}
use Rattle.reading_rules.specs.Reading.{TreeSort, unknown_value, unknown_list, value, list, body, items, Tree, unknown_word, unknown_string, unknown_braces, unknown_pair, unknown_last, unknown_more, leaf, braced, chosen_void, chosen, chosen_int, last, more, listed, stopped, itemized, no_item, void_item, list_item, unknown_item, unknown_list_item, fields_of, For, Law}
use Rattle.table_rules.proofs.Facts.{Formed, bare_at_lem, kind_union}
use Rattle.table_rules.proofs.Steps.{none_if, required, needs, StepGives, ClosedSet, untagged_in}
use Rattle.table_rules.proofs.Needed.{in_cut, first_in, find_is, kind_is, target_at_lem}
use Rattle.reading_rules.proofs.Inverse.{required_is}

pub void_is : (k : Kind) → is_void k ≡ true → k ≡ void
unfolding is_void
void_is void e = refl
void_is simple e = clash_bool e
void_is struct e = clash_bool e
void_is union e = clash_bool e
void_is reference e = clash_bool e

module _ (rs : List Record) (F : Formed rs) (P : ℕ → Type 0) (c : ClosedSet rs P) where
  abbrev S : Schema
  S = schema_of rs

  by_void : (p : ℕ) → p < length rs → is_void (S.kind p) ≡ true → P p
  unfolding StepGives schema_of
  by_void p h e = c p h (subst (λ k. StepGives rs P p k) (sym (void_is (kind_of (record_at rs p).kind) e)) tt)

  by_simple : (p : ℕ) → p < length rs → S.kind p ≡ simple → P p
  unfolding StepGives schema_of
  by_simple p h e = c p h (subst (λ k. StepGives rs P p k) (sym e) tt)

  by_struct : (p : ℕ) → p < length rs → S.kind p ≡ struct → ((q : ℕ) → In q (needs S (required S p) (S.untagged p)) → P q) → P p
  unfolding StepGives schema_of
  by_struct p h e g = c p h (subst (λ k. StepGives rs P p k) (sym e) g)

  by_union : (p q : ℕ) → p < length rs → S.kind p ≡ union → q < length rs → is_under p (record_at rs q).parent ≡ true → P q → P p
  unfolding StepGives schema_of
  by_union p q h e i u g = c p h (subst (λ k. StepGives rs P p k) (sym e) (q, i, u, g))

  core_below : (p : ℕ) → p < length rs → S.core p < length rs
  unfolding schema_of core_of
  core_below p h = kind_is (record_at rs p).kind (λ k. core_of p (record_at rs p).target k < length rs) (λ e. h) (λ e. h) (λ e. h) (λ e. (target_at_lem rs F p h e).0) (λ a b d e. h)

  up : (p : ℕ) → p < length rs → P (S.core p) → P p
  unfolding schema_of core_of StepGives
  up p h = kind_is (record_at rs p).kind (λ k. P (core_of p (record_at rs p).target k) → P p) (λ e x. x) (λ e x. x) (λ e x. x) (λ e x. c p h (subst (λ k. StepGives rs P p (kind_of k)) (sym e) (unfold kind_of in x))) (λ a b d e x. x)

  under_of_lem : (p q : ℕ) → is_tagged_of p (record_at rs q) ≡ true → is_under p (record_at rs q).parent ≡ true
  under_of_lem p q e = and_both (is_under p (record_at rs q).parent) _ e (λ a b. a)

  bare_union : (p q : ℕ) → p < length rs → S.kind p ≡ union → S.bare p ≡ found q → P p
  unfolding schema_of kind_of
  bare_union p q h k e =
      let b = untagged_in rs p q (first_in (numbers_where (is_untagged_of p) 0 rs) q e) in
      let n : (record_at rs q).kind ≡ 3 = bare_at_lem rs F p q (kind_union (record_at rs p).kind k) b.0 b.1 in
      by_union p q h k b.0 (and_both (is_under p (record_at rs q).parent) _ b.1 (λ x y. x)) (by_simple q b.0 (ap kind_of n))

  -- what a tree of a sort shows
  abbrev Goal : (s : TreeSort) → For s → Tree s → Type 0
  Goal unknown_value x t = Unit {0}
  Goal unknown_list x t = Unit {0}
  Goal value p t = p < length rs → P p
  Goal list p t = p < length rs → P p
  Goal body x t = x.0 < length rs → ((q : ℕ) → In q x.1 → q < length rs) → (q : ℕ) → In q (needs S (required S x.0) x.1) → P q
  Goal items p t = p < length rs → (q : ℕ) → In q (fields_of t) → P q

  read : {s : TreeSort} (x : For s) (t : Tree s) → Law S x t → Goal s x t
  unfolding Law needs none_if fields_of
  read x (unknown_word w) l = tt
  read x (unknown_string w) l = tt
  read x (unknown_braces ts) l = tt
  read x (unknown_pair w v) l = tt
  read x (unknown_last v) l = tt
  read x (unknown_more v u) l = tt
  read x (leaf t) l = λ b. up x b (by_simple (S.core x) (core_below x b) l.0)
  read x (braced k) l = λ b. up x b (by_struct (S.core x) (core_below x b) l.0 (read (S.core x, S.untagged (S.core x)) k l.1 (core_below x b) (λ q i. (untagged_in rs (S.core x) q i).0)))
  read x (chosen_void q w) l = λ b. let i = find_is rs (S.core x) q w l.1 in up x b (by_union (S.core x) q (core_below x b) l.0 i.0 (under_of_lem (S.core x) q i.1) (by_void q i.0 l.2))
  read x (chosen q w v) l = λ b. let i = find_is rs (S.core x) q w l.1 in up x b (by_union (S.core x) q (core_below x b) l.0 i.0 (under_of_lem (S.core x) q i.1) (read q v l.3 i.0))
  read x (chosen_int q w) l = λ b. up x b (bare_union (S.core x) q (core_below x b) l.0 l.1)
  read x (last v) l = read x v l
  read x (more v r) l = read x v l.0
  read x (listed q v k) l = λ b u j h.
      let o : (i : ℕ) → In i (q ∷ l.0) → i < length rs = λ i z. u i (rw l.1 z) in
      in_cut (eqb (S.lo q) 0) (S.optional q) j q (needs S (required S x.0) l.0) (rw l.1 at h)
      (λ e. rw (← e) (read q v l.2 (o q (in_head q l.0))))
      (λ z. read (x.0, l.0) k l.4 b (λ i y. o i (in_tail i q l.0 y)) j z)
  read x stopped l = λ b u q h. in_nil q (rw (l.2, l.3) at h)
  read x (itemized i) l = λ b u q h. let z = required_is S q (S.tagged x.0) (rw l.0 at h) in read x.0 i l.1 b q (l.3 q z.0 z.1 z.2)
  read x no_item l = λ b q h. in_nil q h
  read x (void_item k n i) l = λ b q h. in_cons q k (fields_of i) h (λ e. rw (← e) (by_void k (find_is rs x k n l.0).0 l.1)) (λ z. read x i l.2 b q z)
  read x (list_item k n v i) l = λ b q h. in_cons q k (fields_of i) h (λ e. rw (← e) (read k v l.2 (find_is rs x k n l.0).0)) (λ z. read x i l.4 b q z)
  read x (unknown_item n i) l = λ b q h. read x i l.1 b q h
  read x (unknown_list_item n v i) l = λ b q h. read x i l.2 b q h

  pub value_in : (p : ℕ) (t : Tree value) → p < length rs → Law S p t → P p
  value_in p t b l = read p t l b
