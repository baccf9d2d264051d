-- What the rules of a definition say of each record of a table: enough for the reader.
use mathlib.Core.Path.{◌≡◌, refl, ap, subst, sym, ◌∙◌}
use mathlib.Core.Bool.{Bool, true, false, not, ◌&&◌, ◌||◌}
use mathlib.Core.List.{List, [], ◌∷◌}
use Prim.Native.Nat.{ℕ, zero, suc, ◌+◌, ◌<◌}
use native.Mathlib.Omega.{arith}
use lib.Dec.{eqb, leb}
use lib.ListN.{length}
use borrow.Author.Tests.{eqb-true, eq-eqb, not-true, not-false, leb-true, leb-false}
use Rattle.classes.proofs.Rows.{same_true}
use Rattle.classes.proofs.Bools.{or_off}
use Rattle.classes.specs.Lists.{same_bytes, pick}
use Rattle.numbers.specs.Decimal.{is_int_like}
use Rattle.reading_rules.specs.Record.{Up, top, under, Record, record_at, is_top, same_up}
use Rattle.reading_rules.specs.Schema.{void, simple, struct, union, reference, kind_of, is_under, is_untagged_of, is_tagged_of, is_tagged_as}
use Rattle.reading_rules.proofs.CountLaws.{clash_bool, and_both}
use Rattle.reading_rules.proofs.Rules.{ReadingRules}
use Rattle.definition_rules.specs.Faults.{is_union_at, void_many, any_of, any_before, parent_kind, beside, misplaced_field, misplaced_alternative, misplaced_untagged, number_tag, void_top, plugin_undotted, rule7_broken, has_wire_tag, tag_repeated}
use Rattle.table_rules.specs.RecordRules.{ordered, kinds_of_records, record_fine, every_record, none_broken, shown_names, all_new, record_checks, record_rules}
use Rattle.table_rules.proofs.RuleFacts.{FineRecord, fine_of}

-- the rules that concern values: the form of each record, rule 7, "one wire tag twice"; no word of number 10
pub record Formed (rs : List Record) : Type 0 where
  pub fine : every_record (record_fine rs (is_union_at (kinds_of_records rs))) rs ≡ true
  pub seven : none_broken (rule7_broken rs) 0 rs ≡ true
  pub eight : none_broken (tag_repeated rs) 0 rs ≡ true

pub rules_formed : (limit : ℕ) (rs : List Record) → record_rules limit rs ≡ true → Formed rs
unfolding record_rules record_checks
rules_formed limit rs e =
    and_both (leb 1 (length rs)) _ e (λ a1 e1.
    and_both (leb (length rs) limit) _ e1 (λ a2 e2.
    and_both (ordered [] 0 rs) _ e2 (λ a3 e3.
    and_both (every_record (record_fine rs (is_union_at (kinds_of_records rs))) rs) _ e3 (λ a4 e4.
    and_both (all_new (shown_names rs)) _ e4 (λ a5 e5.
    and_both (none_broken void_many 0 rs) _ e5 (λ a6 e6.
    and_both (none_broken (rule7_broken rs) 0 rs) _ e6 (λ a7 e7.
    and_both (none_broken (tag_repeated rs) 0 rs) _ e7 (λ a8 e8.
    record { fine = a4; seven = a7; eight = a8 }))))))))

pub rules_ordered : (limit : ℕ) (rs : List Record) → record_rules limit rs ≡ true → ordered [] 0 rs ≡ true
unfolding record_rules
rules_ordered limit rs e =
    and_both (leb 1 (length rs)) _ e (λ a1 e1.
    and_both (leb (length rs) limit) _ e1 (λ a2 e2.
    and_both (ordered [] 0 rs) _ e2 (λ a3 e3. a3)))

-- ---- tests

pub and_off : (a b : Bool) → a && b ≡ false → a ≡ true → b ≡ false
and_off true b e h = e
and_off false b e h = clash_bool h

pub none_at_lem : (f : ℕ → Record → Bool) (i : ℕ) (rs : List Record) → none_broken f i rs ≡ true → (n : ℕ) → n < length rs → f (i + n) (record_at rs n) ≡ false
unfolding none_broken record_at
none_at_lem f i [] e n h = absurd (omega arith)
none_at_lem f i (r ∷ rs) e zero h = and_both (not (f i r)) _ e (λ a b. let z : i + 0 ≡ i = omega arith in ap (λ j. f j r) z ∙ not-true (f i r) a)
none_at_lem f i (r ∷ rs) e (suc n) h = and_both (not (f i r)) _ e (λ a b. let z : i + suc n ≡ suc i + n = omega arith in ap (λ j. f j (record_at rs n)) z ∙ none_at_lem f (suc i) rs b n (omega arith))

pub none_of : (f : ℕ → Record → Bool) (rs : List Record) → none_broken f 0 rs ≡ true → (n : ℕ) → n < length rs → f n (record_at rs n) ≡ false
none_of f rs e n h = let z : n ≡ 0 + n = omega arith in ap (λ j. f j (record_at rs n)) z ∙ none_at_lem f 0 rs e n h

every_at : (f : Record → Bool) (rs : List Record) → every_record f rs ≡ true → (n : ℕ) → n < length rs → f (record_at rs n) ≡ true
unfolding every_record record_at
every_at f [] e n h = absurd (omega arith)
every_at f (r ∷ rs) e zero h = and_both (f r) _ e (λ a b. a)
every_at f (r ∷ rs) e (suc n) h = and_both (f r) _ e (λ a b. every_at f rs b n (omega arith))

pub before_none : (i : ℕ) (f : Record → Bool) (rs : List Record) → any_before i f rs ≡ false → (n : ℕ) → n < i → n < length rs → f (record_at rs n) ≡ false
unfolding any_before record_at
before_none zero f rs e n h k = absurd (omega arith)
before_none (suc i) f [] e n h k = absurd (omega arith)
before_none (suc i) f (r ∷ rs) e zero h k = or_off (f r) _ e (λ a b. a)
before_none (suc i) f (r ∷ rs) e (suc n) h k = or_off (f r) _ e (λ a b. before_none i f rs b n (omega arith) (omega arith))

any_none : (f : Record → Bool) (rs : List Record) → any_of f rs ≡ false → (n : ℕ) → n < length rs → f (record_at rs n) ≡ false
unfolding any_of record_at
any_none f [] e n h = absurd (omega arith)
any_none f (r ∷ rs) e zero h = or_off (f r) _ e (λ a b. a)
any_none f (r ∷ rs) e (suc n) h = or_off (f r) _ e (λ a b. any_none f rs b n (omega arith))

pub under_is : (u : ℕ) (p : Up) → is_under u p ≡ true → p ≡ under u
unfolding is_under
under_is u top e = clash_bool e
under_is u (under v) e = ap under (eqb-true v u e)

pub untagged_is : (u : ℕ) (r : Record) → is_untagged_of u r ≡ true → (r.parent ≡ under u) × (r.untagged ≡ true)
untagged_is u r e = and_both (is_under u r.parent) r.untagged e (λ a b. (under_is u r.parent a, b))

pub tagged_is : (u : ℕ) (r : Record) → is_tagged_of u r ≡ true → (r.parent ≡ under u) × (r.untagged ≡ false)
tagged_is u r e = and_both (is_under u r.parent) (not r.untagged) e (λ a b. (under_is u r.parent a, not-true r.untagged b))

pub kind_union : (k : ℕ) → kind_of k ≡ union → k ≡ 9
unfolding kind_of
kind_union k e = go (eqb k 1) (eqb k 8) (eqb k 9) (eqb k 10) refl e
  where
    go : (a b c d : Bool) → eqb k 9 ≡ c → elim a [ true ↦ void | false ↦ elim b [ true ↦ struct | false ↦ elim c [ true ↦ union | false ↦ elim d [ true ↦ reference | false ↦ simple ] ] ] ] ≡ union → k ≡ 9
    go true b c d q e = let z : ◌≡◌ {A = ℕ} 0 1 = cc in absurd (omega arith)
    go false true c d q e = let z : ◌≡◌ {A = ℕ} 0 1 = cc in absurd (omega arith)
    go false false true d q e = eqb-true k 9 q
    go false false false true q e = let z : ◌≡◌ {A = ℕ} 0 1 = cc in absurd (omega arith)
    go false false false false q e = let z : ◌≡◌ {A = ℕ} 0 1 = cc in absurd (omega arith)

pub same_under : (u : ℕ) (a b : Up) → a ≡ under u → b ≡ under u → same_up a b ≡ true
unfolding same_up
same_under u a b x y = rw (x, y) (eq-eqb u u refl)

pub pick_first : (t a b : Bool) → t ≡ true → pick t a b ≡ false → a ≡ false
unfolding pick
pick_first true a b e h = h
pick_first false a b e h = clash_bool e

pub parent_union : (rs : List Record) (u : ℕ) (p : Up) → (record_at rs u).kind ≡ 9 → p ≡ under u → eqb (parent_kind rs p) 9 ≡ true
unfolding parent_kind
parent_union rs u p k e = ap (λ v. eqb (parent_kind rs v) 9) e ∙ eq-eqb (record_at rs u).kind 9 k

-- ---- each record

module _ (rs : List Record) (F : Formed rs) where
  pub fine_at : (n : ℕ) → n < length rs → FineRecord rs (is_union_at (kinds_of_records rs)) (record_at rs n)
  fine_at n h = fine_of rs (is_union_at (kinds_of_records rs)) (record_at rs n) (every_at (record_fine rs (is_union_at (kinds_of_records rs))) rs F.fine n h)

  pub seven_at : (n : ℕ) → n < length rs → (misplaced_untagged rs n (record_at rs n) ≡ false) × (number_tag rs n (record_at rs n) ≡ false) × (void_top (record_at rs n) ≡ false) × (plugin_undotted (record_at rs n) ≡ false)
  unfolding rule7_broken
  seven_at n h =
      or_off (misplaced_untagged rs n (record_at rs n)) _ (none_of (rule7_broken rs) rs F.seven n h) (λ a x.
      or_off (number_tag rs n (record_at rs n)) _ x (λ b y.
      or_off (void_top (record_at rs n)) (plugin_undotted (record_at rs n)) y (λ c d. (a, b, c, d))))

  -- an untagged alternative is an int
  pub bare_at_lem : (u q : ℕ) → (record_at rs u).kind ≡ 9 → q < length rs → is_untagged_of u (record_at rs q) ≡ true → (record_at rs q).kind ≡ 3
  unfolding misplaced_untagged misplaced_alternative
  bare_at_lem u q k h b =
      let x = untagged_is u (record_at rs q) b in
      let m = and_off (record_at rs q).untagged _ (seven_at q h).0 x.1 in
      let o = pick_first (eqb (parent_kind rs (record_at rs q).parent) 9) (misplaced_alternative rs q (record_at rs q)) (misplaced_field rs q (record_at rs q)) (parent_union rs u (record_at rs q).parent k x.0) m in
      or_off ((record_at rs q).extension || not (eqb (record_at rs q).kind 3)) _ o (λ c d.
      or_off (record_at rs q).extension _ c (λ e f. eqb-true (record_at rs q).kind 3 (not-false (eqb (record_at rs q).kind 3) f)))

  pub reading_rules : ReadingRules rs
  unfolding number_tag
  reading_rules =
      record {
        counted = λ p h. (fine_at p h).count_pos;
        bare_is_int = λ u q k h b. bare_at_lem u q (kind_union (record_at rs u).kind k) h b;
        no_digit_tags = λ u q k n h i b c.
            let x = untagged_is u (record_at rs q) b in
            let y = tagged_is u (record_at rs k) c in
            let e = parent_union rs u (record_at rs k).parent (kind_union (record_at rs u).kind n) y.0 in
            let m = and_off (not (record_at rs k).untagged) _ (and_off (eqb (parent_kind rs (record_at rs k).parent) 9) _ (seven_at k i).1 e) (rw y.1) in
            number_none (record_at rs k).label q h (beside (record_at rs k)) (same_under u (record_at rs q).parent (record_at rs k).parent x.0 y.0) x.1 m;
      }
    where
      number_none : (w : List ℕ) (q : ℕ) → q < length rs → (f : Record → Bool) → f (record_at rs q) ≡ true → (record_at rs q).untagged ≡ true → is_int_like w && any_of (λ j. f j && j.untagged) rs ≡ false → is_int_like w ≡ false
      number_none w q h f a b e = go (is_int_like w) e
        where
          go : (t : Bool) → t && any_of (λ j. f j && j.untagged) rs ≡ false → t ≡ false
          go true o = let z = any_none (λ j. f j && j.untagged) rs o q h in clash_bool (sym z ∙ rw a b)
          go false o = refl

  -- a union's or struct's tags are apart
  pub apart : (p i j : ℕ) (w : List ℕ) → i < length rs → j < length rs → is_tagged_as p w (record_at rs i) ≡ true → is_tagged_as p w (record_at rs j) ≡ true → i ≡ j
  unfolding tag_repeated has_wire_tag is_top
  apart p i j w h k a b = go (leb i j) refl (leb j i) refl
    where
      later : (i j : ℕ) → i < j → j < length rs → is_tagged_as p w (record_at rs i) ≡ true → is_tagged_as p w (record_at rs j) ≡ true → ⊥
      later i j m k a b =
          and_both (is_tagged_of p (record_at rs i)) _ a (λ a1 a2.
          and_both (is_tagged_of p (record_at rs j)) _ b (λ b1 b2.
          let x = tagged_is p (record_at rs i) a1 in
          let y = tagged_is p (record_at rs j) b1 in
          let c = none_of (tag_repeated rs) rs F.eight j k in
          let d = before_none j (λ q. has_wire_tag q && (beside (record_at rs j) q && same_bytes q.label (record_at rs j).label)) rs (and_off (has_wire_tag (record_at rs j)) _ c (wired p (record_at rs j) y)) i m (omega arith) in
          let s : same_bytes (record_at rs i).label (record_at rs j).label ≡ true = subst (λ v. same_bytes (record_at rs i).label v ≡ true) (sym (same_true (record_at rs j).label w b2)) a2 in
          clash_bool (sym d ∙ rw (wired p (record_at rs i) x, same_under p (record_at rs i).parent (record_at rs j).parent x.0 y.0) s)))
        where
          wired : (p : ℕ) (r : Record) → (r.parent ≡ under p) × (r.untagged ≡ false) → has_wire_tag r ≡ true
          wired p r x = rw (x.0, x.1)

      go : (a1 : Bool) → leb i j ≡ a1 → (b1 : Bool) → leb j i ≡ b1 → i ≡ j
      go true e true f = omega (arith, leb-true i j e, leb-true j i f)
      go false e c f = absurd (later j i (leb-false i j e) h b a)
      go true e false f = absurd (later i j (leb-false j i f) k a b)
