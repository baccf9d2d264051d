-- Number 10's steps over any sets of parameters, in the schema's questions.
use mathlib.Core.Path.{◌≡◌, refl, ap, subst, sym, ◌∙◌}
use mathlib.Core.Bool.{Bool, true, false, not, ◌&&◌, ◌||◌}
use mathlib.Core.List.{List, [], ◌∷◌}
use Prim.Native.Nat.{ℕ, zero, suc, ◌+◌, ◌≤◌, ◌<◌}
use native.Mathlib.Omega.{arith}
use lib.Dec.{eqb}
use lib.ListN.{length, get_or, replicate}
use borrow.Author.Tests.{eqb-true, ne_eqb}
use Rattle.classes.proofs.Bools.{or_off}
use Rattle.reading_rules.specs.Record.{Up, under, Record, record_at}
use Rattle.reading_rules.specs.Schema.{Kind, void, simple, struct, union, reference, Schema, kind_of, is_under, is_untagged_of, is_tagged_of, numbers_where, schema_of}
use Rattle.reading_rules.specs.Count.{times, In, Once}
use Rattle.reading_rules.proofs.CountLaws.{clash_bool, and_both, same_case, same_le, in_nil, in_head, in_tail, in_cons}
use Rattle.classes.specs.Lists.{pick, every}
use Rattle.definition_rules.specs.Faults.{any_before, parent_kind, beside, misplaced_field, misplaced_alternative, misplaced_untagged}
use Rattle.definition_rules.specs.Finite.{can_do_without, ends_needs, struct_step, union_step, finite_step, round, rounds, finites}
use Rattle.definition_rules.proofs.FiniteLaws.{sub_at, finites_closed}
use Rattle.table_rules.proofs.Facts.{Formed, and_off, before_none, untagged_is, tagged_is, seven_at, same_under}
use Rattle.reading_rules.specs.Parse.{required_of}

abbrev pub at : List Bool → ℕ → Bool
at have i = get_or have i false

-- ---- numbers of records

pub where_in : (f : Record → Bool) (i : ℕ) (rs : List Record) (q : ℕ) → In q (numbers_where f i rs) → (n : ℕ) × (q ≡ i + n) × (n < length rs) × (f (record_at rs n) ≡ true)
unfolding numbers_where record_at
where_in f i [] q h = in_nil q h
where_in f i (r ∷ rs) q h = go (λ z. let g = where_in f (suc i) rs q z in (suc g.0, omega (arith, g.1), omega (arith, g.2), g.3)) (f r) refl h
  where
    go : (In q (numbers_where f (suc i) rs) → (n : ℕ) × (q ≡ i + n) × (n < suc (length rs)) × (f (record_at (r ∷ rs) n) ≡ true)) → (b : Bool) → f r ≡ b → In q (elim b [ true ↦ i ∷ numbers_where f (suc i) rs | false ↦ numbers_where f (suc i) rs ]) → (n : ℕ) × (q ≡ i + n) × (n < suc (length rs)) × (f (record_at (r ∷ rs) n) ≡ true)
    go later true p k = in_cons q i (numbers_where f (suc i) rs) k (λ e. (0, omega arith, omega arith, p)) later
    go later false p k = later k

pub in_where : (f : Record → Bool) (i : ℕ) (rs : List Record) (n : ℕ) → n < length rs → f (record_at rs n) ≡ true → In (i + n) (numbers_where f i rs)
unfolding numbers_where record_at
in_where f i [] n h e = absurd (omega arith)
in_where f i (r ∷ rs) zero h e = let z : i ≡ i + 0 = omega arith in rw (e, numbers_where) (subst (λ j. In j (i ∷ numbers_where f (suc i) rs)) z (in_head i (numbers_where f (suc i) rs)))
in_where f i (r ∷ rs) (suc n) h e = let z : suc i + n ≡ i + suc n = omega arith in go (subst (λ j. In j (numbers_where f (suc i) rs)) z (in_where f (suc i) rs n (omega arith) e)) (f r)
  where
    go : In (i + suc n) (numbers_where f (suc i) rs) → (b : Bool) → In (i + suc n) (elim b [ true ↦ i ∷ numbers_where f (suc i) rs | false ↦ numbers_where f (suc i) rs ])
    go g true = in_tail (i + suc n) i (numbers_where f (suc i) rs) g
    go g false = g

where_before : (f : Record → Bool) (i : ℕ) (rs : List Record) (q : ℕ) → q < i → times q (numbers_where f i rs) ≡ 0
where_before f i rs q h = go (times q (numbers_where f i rs)) refl
  where
    go : (k : ℕ) → times q (numbers_where f i rs) ≡ k → times q (numbers_where f i rs) ≡ 0
    go zero e = e
    go (suc k) e = let r = where_in f i rs q (omega arith) in absurd (omega (arith, r.1))

pub where_once : (f : Record → Bool) (i : ℕ) (rs : List Record) → Once (numbers_where f i rs)
unfolding numbers_where times
where_once f i [] k = omega arith
where_once f i (r ∷ rs) k = go (where_once f (suc i) rs k) (f r)
  where
    go : times k (numbers_where f (suc i) rs) ≤ 1 → (b : Bool) → times k (elim b [ true ↦ i ∷ numbers_where f (suc i) rs | false ↦ numbers_where f (suc i) rs ]) ≤ 1
    go g true = same_case i k
        (λ e. omega (arith, same_le i k, where_before f (suc i) rs k (omega arith)))
        (λ e. omega (arith, g))
    go g false = g

where_nil : (f : Record → Bool) (i : ℕ) (rs : List Record) → ((n : ℕ) → n < length rs → f (record_at rs n) ≡ true → ⊥) → numbers_where f i rs ≡ []
unfolding numbers_where record_at
where_nil f i [] h = refl
where_nil f i (r ∷ rs) h = go (where_nil f (suc i) rs (λ n k. h (suc n) (omega arith))) (f r) refl
  where
    go : numbers_where f (suc i) rs ≡ [] → (b : Bool) → f r ≡ b → ◌≡◌ {A = List ℕ} (elim b [ true ↦ i ∷ numbers_where f (suc i) rs | false ↦ numbers_where f (suc i) rs ]) []
    go g true e = absurd (h 0 (omega arith) e)
    go g false e = g

-- ---- a struct's fields that it can't do without, as lists

unfoldable pub put : Bool → ℕ → List ℕ → List ℕ
put true q l = l
put false q l = q ∷ l

unfoldable pub none_if : Bool → List ℕ → List ℕ
none_if true l = []
none_if false l = l

abbrev pub required : Schema → ℕ → List ℕ
required S p = required_of S (S.tagged p)

unfoldable pub needs : Schema → List ℕ → List ℕ → List ℕ
needs S rs [] = rs
needs S rs (q ∷ qs) = none_if (eqb (S.lo q) 0) (put (S.optional q) q (needs S rs qs))

all_in_lem : (f : ℕ → Bool) (l : List ℕ) → every f l ≡ true → (q : ℕ) → In q l → f q ≡ true
unfolding every
all_in_lem f [] e q h = in_nil q h
all_in_lem f (x ∷ l) e q h = and_both (f x) (every f l) e (λ a b. in_cons q x l h (λ z. rw (← z) a) (λ z. all_in_lem f l b q z))

in_all : (f : ℕ → Bool) (l : List ℕ) → ((q : ℕ) → In q l → f q ≡ true) → every f l ≡ true
unfolding every
in_all f [] h = refl
in_all f (x ∷ l) h = rw (h x (in_head x l)) (in_all f l (λ q z. h q (in_tail q x l z)))

untagged_case : (f : ℕ → Bool) (i : ℕ) (M : List ℕ) (l e g x : Bool) → x ≡ every f M → pick l true ((l || e || g || f i) && x) ≡ every f (none_if l (put (e || g) i M))
unfolding pick none_if put every
untagged_case f i M true e g x q = refl
untagged_case f i M false true g x q = q
untagged_case f i M false false true x q = q
untagged_case f i M false false false x q = rw q

tagged_case : (f : ℕ → Bool) (i : ℕ) (M : List ℕ) (l e g x : Bool) → x ≡ every f M → (l || e || g || f i) && x ≡ every f (elim (e || g || l) [ true ↦ M | false ↦ i ∷ M ])
unfolding put every
tagged_case f i M true true g x q = q
tagged_case f i M true false true x q = q
tagged_case f i M true false false x q = q
tagged_case f i M false true g x q = q
tagged_case f i M false false true x q = q
tagged_case f i M false false false x q = rw q

module _ (table : List Record) (have : List Bool) (p : ℕ) where
  abbrev S : Schema
  S = schema_of table

  abbrev Listed : ℕ → List Record → List ℕ
  Listed i rs = needs S (required_of S (numbers_where (is_tagged_of p) i rs)) (numbers_where (is_untagged_of p) i rs)

  struct_all : (i : ℕ) (rs : List Record) → ((n : ℕ) → n < length rs → record_at table (i + n) ≡ record_at rs n) → ((a b : ℕ) → a < b → b < length rs → is_tagged_of p (record_at rs a) ≡ true → is_untagged_of p (record_at rs b) ≡ true → ⊥) → struct_step have p i rs ≡ every (at have) (Listed i rs)
  unfolding struct_step numbers_where record_at needs required_of every pick can_do_without
  struct_all i [] s o = refl
  struct_all i (r ∷ rs) s o = go (struct_all (suc i) rs (λ n h. let y : suc i + n ≡ i + suc n = omega arith in ap (record_at table) y ∙ s (suc n) (omega arith)) (λ a b h k. o (suc a) (suc b) (omega arith) (omega arith))) (is_under p r.parent) r.untagged refl refl
    where
      z : i + 0 ≡ i
      z = omega arith

      here : record_at table i ≡ r
      here = ap (record_at table) (sym z) ∙ s 0 (omega arith)

      lo_here : eqb (S.lo i) 0 ≡ eqb r.lo_count 0
      lo_here = unfold schema_of in (ap (λ x. eqb x.lo_count 0) here)

      opt_here : S.optional i ≡ r.extension || r.plugin
      opt_here = unfold schema_of in (ap (λ x. x.extension || x.plugin) here)

      go : struct_step have p (suc i) rs ≡ every (at have) (Listed (suc i) rs) → (u n : Bool) → is_under p r.parent ≡ u → r.untagged ≡ n → pick u (pick (ends_needs r) true ((can_do_without r || at have i) && struct_step have p (suc i) rs)) (struct_step have p (suc i) rs) ≡ every (at have) (needs S (required_of S (elim (u && not n) [ true ↦ i ∷ numbers_where (is_tagged_of p) (suc i) rs | false ↦ numbers_where (is_tagged_of p) (suc i) rs ])) (elim (u && n) [ true ↦ i ∷ numbers_where (is_untagged_of p) (suc i) rs | false ↦ numbers_where (is_untagged_of p) (suc i) rs ]))
      go ih false n a b = ih
      go ih true true a b =
          let e : ends_needs r ≡ eqb r.lo_count 0 = unfold ends_needs in (rw b) in
          rw (lo_here, opt_here, e) (untagged_case (at have) i (Listed (suc i) rs) (eqb r.lo_count 0) r.extension r.plugin (struct_step have p (suc i) rs) ih)
      go ih true false a b =
          let e : ends_needs r ≡ false = unfold ends_needs in (rw b) in
          let t : is_tagged_of p r ≡ true = rw (a, b) in
          let n : numbers_where (is_untagged_of p) (suc i) rs ≡ [] = where_nil (is_untagged_of p) (suc i) rs (λ k h x. o 0 (suc k) (omega arith) (omega arith) t x) in
          let j : struct_step have p (suc i) rs ≡ every (at have) (required_of S (numbers_where (is_tagged_of p) (suc i) rs)) = ih ∙ ap (λ l. every (at have) (needs S (required_of S (numbers_where (is_tagged_of p) (suc i) rs)) l)) n in
          rw (n, required_of, lo_here, opt_here, e) (tagged_case (at have) i (required_of S (numbers_where (is_tagged_of p) (suc i) rs)) (eqb r.lo_count 0) r.extension r.plugin (struct_step have p (suc i) rs) j)

-- ---- the steps

-- "Simple types have one. A reference has one if its target has. A union .. if some alternative has. A struct .. if each field has that it can't do without"
unfoldable pub StepGives : List Record → (ℕ → Type 0) → ℕ → Kind → Type 0
StepGives rs P p void = Unit {0}
StepGives rs P p simple = Unit {0}
StepGives rs P p struct = (q : ℕ) → In q (needs (schema_of rs) (required (schema_of rs) p) ((schema_of rs).untagged p)) → P q
StepGives rs P p union = (q : ℕ) × (q < length rs) × (is_under p (record_at rs q).parent ≡ true) × P q
StepGives rs P p reference = P (record_at rs p).target

abbrev pub ClosedSet : List Record → (ℕ → Type 0) → Type 0
ClosedSet rs P = (p : ℕ) → p < length rs → StepGives rs P p (kind_of (record_at rs p).kind) → P p

pub step_map : (rs : List Record) (P Q : ℕ → Type 0) → ((q : ℕ) → P q → Q q) → (p : ℕ) (k : Kind) → StepGives rs P p k → StepGives rs Q p k
unfolding StepGives
step_map rs P Q m p void h = tt
step_map rs P Q m p simple h = tt
step_map rs P Q m p struct h = λ q i. m q (h q i)
step_map rs P Q m p union h = (h.0, h.1, h.2, m h.0 h.3)
step_map rs P Q m p reference h = m (record_at rs p).target h

union_in : (have : List Bool) (p i : ℕ) (rs : List Record) → union_step have p i rs ≡ true → (n : ℕ) × (n < length rs) × (is_under p (record_at rs n).parent ≡ true) × (at have (i + n) ≡ true)
unfolding union_step record_at
union_in have p i [] e = clash_bool e
union_in have p i (r ∷ rs) e = go (λ x. let g = union_in have p (suc i) rs x in let y : suc i + g.0 ≡ i + suc g.0 = omega arith in (suc g.0, omega (arith, g.1), g.2, ap (at have) (sym y) ∙ g.3)) (is_under p r.parent && at have i) refl e
  where
    go : (union_step have p (suc i) rs ≡ true → (n : ℕ) × (n < suc (length rs)) × (is_under p (record_at (r ∷ rs) n).parent ≡ true) × (at have (i + n) ≡ true)) → (b : Bool) → is_under p r.parent && at have i ≡ b → b || union_step have p (suc i) rs ≡ true → (n : ℕ) × (n < suc (length rs)) × (is_under p (record_at (r ∷ rs) n).parent ≡ true) × (at have (i + n) ≡ true)
    go k true q x = and_both (is_under p r.parent) (at have i) q (λ a b. let y : i + 0 ≡ i = omega arith in (0, omega arith, a, ap (at have) y ∙ b))
    go k false q x = k x

in_union : (have : List Bool) (p i : ℕ) (rs : List Record) (n : ℕ) → n < length rs → is_under p (record_at rs n).parent ≡ true → at have (i + n) ≡ true → union_step have p i rs ≡ true
unfolding union_step record_at
in_union have p i [] n h a b = absurd (omega arith)
in_union have p i (r ∷ rs) zero h a b = let y : i ≡ i + 0 = omega arith in let c : at have i ≡ true = ap (at have) y ∙ b in rw (a, c)
in_union have p i (r ∷ rs) (suc n) h a b = let y : suc i + n ≡ i + suc n = omega arith in go (is_under p r.parent && at have i) (in_union have p (suc i) rs n (omega arith) a (ap (at have) y ∙ b))
  where
    go : (b : Bool) → union_step have p (suc i) rs ≡ true → b || union_step have p (suc i) rs ≡ true
    go true g = refl
    go false g = g

module _ (rs : List Record) (F : Formed rs) where
  -- an untagged field of a struct: after no tagged one, in no extension, not void
  pub field_at : (p q : ℕ) → (record_at rs p).kind ≡ 8 → q < length rs → is_untagged_of p (record_at rs q) ≡ true → ((record_at rs q).extension ≡ false) × (eqb (record_at rs q).kind 1 ≡ false) × (any_before q (λ j. beside (record_at rs q) j && not j.untagged) rs ≡ false)
  unfolding misplaced_untagged misplaced_field
  field_at p q k h b =
      let x = untagged_is p (record_at rs q) b in
      let m = and_off (record_at rs q).untagged _ (seven_at rs F q h).0 x.1 in
      let o = second (eqb (parent_kind rs (record_at rs q).parent) 9) (misplaced_alternative rs q (record_at rs q)) (misplaced_field rs q (record_at rs q)) (no_union (record_at rs q).parent x.0) m in
      or_off ((record_at rs q).extension || eqb (record_at rs q).kind 1) _ o (λ c d.
      or_off (record_at rs q).extension _ c (λ e f. (e, f, d)))
    where
      second : (t a b : Bool) → t ≡ false → pick t a b ≡ false → b ≡ false
      second true a b e h = clash_bool (sym e)
      second false a b e h = unfold pick in h

      no_union : (u : Up) → u ≡ under p → eqb (parent_kind rs u) 9 ≡ false
      no_union u e = ap (λ v. eqb (parent_kind rs v) 9) e ∙ (unfold parent_kind in (ne_eqb (record_at rs p).kind 9 (λ z. omega arith)))

  in_order_lem : (p : ℕ) → (record_at rs p).kind ≡ 8 → (a b : ℕ) → a < b → b < length rs → is_tagged_of p (record_at rs a) ≡ true → is_untagged_of p (record_at rs b) ≡ true → ⊥
  in_order_lem p k a b m h x y =
      let u = tagged_is p (record_at rs a) x in
      let w = untagged_is p (record_at rs b) y in
      let z = before_none b (λ j. beside (record_at rs b) j && not j.untagged) rs (field_at p b k h y).2 a m (omega arith) in
      clash_bool (sym z ∙ rw (same_under p (record_at rs a).parent (record_at rs b).parent u.0 w.0, u.1))

  fields_all : (have : List Bool) (p : ℕ) → (record_at rs p).kind ≡ 8 → struct_step have p 0 rs ≡ every (at have) (needs (schema_of rs) (required (schema_of rs) p) ((schema_of rs).untagged p))
  unfolding schema_of
  fields_all have p k = struct_all rs have p 0 rs (λ n h. let z : 0 + n ≡ n = omega arith in ap (record_at rs) z) (in_order_lem p k)

  pub step_in : (have : List Bool) (p : ℕ) → finite_step rs have p (record_at rs p) ≡ true → StepGives rs (λ q. at have q ≡ true) p (kind_of (record_at rs p).kind)
  unfolding finite_step kind_of StepGives
  step_in have p e = go (eqb (record_at rs p).kind 1) (eqb (record_at rs p).kind 8) (eqb (record_at rs p).kind 9) (eqb (record_at rs p).kind 10) refl e
    where
      go : (a b c d : Bool) → eqb (record_at rs p).kind 8 ≡ b → pick b (struct_step have p 0 rs) (pick c (union_step have p 0 rs) (pick d (at have (record_at rs p).target) true)) ≡ true → StepGives rs (λ q. at have q ≡ true) p (elim a [ true ↦ void | false ↦ elim b [ true ↦ struct | false ↦ elim c [ true ↦ union | false ↦ elim d [ true ↦ reference | false ↦ simple ] ] ] ])
      go true b c d q x = tt
      go false true c d q x = all_in_lem (at have) (needs (schema_of rs) (required (schema_of rs) p) ((schema_of rs).untagged p)) (sym (fields_all have p (eqb-true (record_at rs p).kind 8 q)) ∙ (unfold pick in x))
      go false false true d q x = let g = union_in have p 0 rs (unfold pick in x) in let z : g.0 ≡ 0 + g.0 = omega arith in (g.0, g.1, g.2, ap (at have) z ∙ g.3)
      go false false false true q x = unfold pick in x
      go false false false false q x = tt

  pub in_step : (have : List Bool) (p : ℕ) → StepGives rs (λ q. at have q ≡ true) p (kind_of (record_at rs p).kind) → finite_step rs have p (record_at rs p) ≡ true
  unfolding finite_step kind_of StepGives
  in_step have p e = go (eqb (record_at rs p).kind 1) (eqb (record_at rs p).kind 8) (eqb (record_at rs p).kind 9) (eqb (record_at rs p).kind 10) refl refl refl refl e
    where
      go : (a b c d : Bool) → eqb (record_at rs p).kind 1 ≡ a → eqb (record_at rs p).kind 8 ≡ b → eqb (record_at rs p).kind 9 ≡ c → eqb (record_at rs p).kind 10 ≡ d → StepGives rs (λ q. at have q ≡ true) p (elim a [ true ↦ void | false ↦ elim b [ true ↦ struct | false ↦ elim c [ true ↦ union | false ↦ elim d [ true ↦ reference | false ↦ simple ] ] ] ]) → pick b (struct_step have p 0 rs) (pick c (union_step have p 0 rs) (pick d (at have (record_at rs p).target) true)) ≡ true
      go true true c d o q m n x = absurd (omega (arith, eqb-true (record_at rs p).kind 1 o, eqb-true (record_at rs p).kind 8 q))
      go true false true d o q m n x = absurd (omega (arith, eqb-true (record_at rs p).kind 1 o, eqb-true (record_at rs p).kind 9 m))
      go true false false true o q m n x = absurd (omega (arith, eqb-true (record_at rs p).kind 1 o, eqb-true (record_at rs p).kind 10 n))
      go true false false false o q m n x = unfold pick in refl
      go false true c d o q m n x = unfold pick in (fields_all have p (eqb-true (record_at rs p).kind 8 q) ∙ in_all (at have) (needs (schema_of rs) (required (schema_of rs) p) ((schema_of rs).untagged p)) x)
      go false false true d o q m n x = unfold pick in (let z : 0 + x.0 ≡ x.0 = omega arith in in_union have p 0 rs x.0 x.1 x.2 (ap (at have) z ∙ x.3))
      go false false false true o q m n x = unfold pick in x
      go false false false false o q m n x = unfold pick in refl

  round_true : (have : List Bool) (i : ℕ) (l : List Record) (q : ℕ) → at (round rs have i l) q ≡ true → (q < length l) × (finite_step rs have (i + q) (record_at l q) ≡ true)
  unfolding round record_at
  round_true have i [] q e = clash_bool e
  round_true have i (r ∷ l) zero e = let z : i + 0 ≡ i = omega arith in (omega arith, ap (λ j. finite_step rs have j r) z ∙ e)
  round_true have i (r ∷ l) (suc q) e = let g = round_true have (suc i) l q e in let z : i + suc q ≡ suc i + q = omega arith in (omega (arith, g.0), ap (λ j. finite_step rs have j (record_at l q)) z ∙ g.1)

  true_round : (have : List Bool) (i : ℕ) (l : List Record) (q : ℕ) → q < length l → finite_step rs have (i + q) (record_at l q) ≡ true → at (round rs have i l) q ≡ true
  unfolding round record_at
  true_round have i [] q h e = absurd (omega arith)
  true_round have i (r ∷ l) zero h e = let z : i ≡ i + 0 = omega arith in ap (λ j. finite_step rs have j r) z ∙ e
  true_round have i (r ∷ l) (suc q) h e = let z : suc i + q ≡ i + suc q = omega arith in true_round have (suc i) l q (omega arith) (ap (λ j. finite_step rs have j (record_at l q)) z ∙ e)

  -- `finites` is closed
  pub finite_closed : ClosedSet rs (λ q. at (finites rs) q ≡ true)
  finite_closed p h s =
      let z : 0 + p ≡ p = omega arith in
      sub_at (round rs (finites rs) 0 rs) (finites rs) (finites_closed rs) p (true_round (finites rs) 0 rs p h (ap (λ j. finite_step rs (finites rs) j (record_at rs p)) z ∙ in_step (finites rs) p s))

  -- and lies in every closed set
  rounds_least : (P : ℕ → Type 0) → ClosedSet rs P → (n : ℕ) (have : List Bool) → ((q : ℕ) → at have q ≡ true → P q) → (q : ℕ) → at (rounds n rs have) q ≡ true → P q
  unfolding rounds
  rounds_least P c zero have h q e = h q e
  rounds_least P c (suc n) have h q e = rounds_least P c n (round rs have 0 rs) (λ j d.
      let g = round_true have 0 rs j d in
      let z : j ≡ 0 + j = omega arith in
      c j g.0 (step_map rs (λ k. at have k ≡ true) P h j (kind_of (record_at rs j).kind) (step_in have j (ap (λ k. finite_step rs have k (record_at rs j)) z ∙ g.1)))) q e

  pub finite_least : (P : ℕ → Type 0) → ClosedSet rs P → (q : ℕ) → at (finites rs) q ≡ true → P q
  unfolding finites
  finite_least P c = rounds_least P c (length rs) (replicate (length rs) false) (λ q e. clash_bool (sym (off (length rs) q) ∙ e))
    where
      off : (n q : ℕ) → at (replicate n false) q ≡ false
      off zero q = refl
      off (suc n) zero = refl
      off (suc n) (suc q) = off n q

-- an untagged field of a body is one of its records
pub untagged_in : (rs : List Record) (p q : ℕ) → In q ((schema_of rs).untagged p) → (q < length rs) × (is_untagged_of p (record_at rs q) ≡ true)
unfolding schema_of
untagged_in rs p q i =
    let g = where_in (is_untagged_of p) 0 rs q i in
    let z : q ≡ g.0 = omega (arith, g.1) in
    (omega (arith, g.2), ap (λ j. is_untagged_of p (record_at rs j)) z ∙ g.3)
