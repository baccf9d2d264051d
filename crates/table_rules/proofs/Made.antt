-- Each declaration made of a record passes the checks.
use mathlib.Core.Path.{◌≡◌, refl}
use mathlib.Core.Bool.{Bool, true, false, not, ◌&&◌, ◌||◌}
use mathlib.Core.List.{List, [], ◌∷◌}
use Prim.Native.Nat.{ℕ, suc, ◌+◌, ◌≤◌, ◌<◌}
use native.Mathlib.Omega.{arith}
use lib.Dec.{leb, eqb}
use lib.ListN.{length}
use borrow.Author.Tests.{ne_eqb, eqb-true, le-leb, leb-true}
use Rattle.classes.proofs.Bools.{both_true}
use Rattle.numbers.specs.Limits.{count_limit, none16}
use Rattle.classes.specs.Lists.{every, pick, not_empty, All}
use Rattle.definition_rules.specs.Words.{kind_takes_range, is_reference, is_keyword, starts_with_letter, name_form, tag_form}
use Rattle.classes.specs.Bytes.{is_name_byte, is_tag_byte}
use Rattle.definition_rules.specs.Forms.{MaybeRun, absent, given, Tag, own_name, tagless, explicit}
use Rattle.reading_rules.specs.Record.{Up, top, under, Record, is_top}
use Rattle.definition_rules.specs.Declarations.{Declaration}
use Rattle.definition_rules.specs.Records.{kind_least, kind_most, find_top, or_none}
use Rattle.definition_rules.specs.Faults.{name_broken, reference_broken, tag_broken_in, tag_broken, within_kind, count_fine, range_broken, count_broken, kind_of_declaration, kinds_of, dangling}
use Rattle.table_rules.specs.RecordRules.{kinds_of_records, is_single_value, shows_name, label_fine}
use Rattle.table_rules.proofs.FreshNames.{fresh, fresh_ok}
use Rattle.table_rules.proofs.Spelling.{RunBytes}
use Rattle.table_rules.proofs.Witness.{write_range, nth_run, keyword_of, run_bytes, type_for, shows, tag_for, card_for, range_for, DistinctTops, find_at, most_lt, count_is, range_is, declaration_for, RecordOk, type_kind_lem, declarations_for}
use Rattle.table_rules.proofs.GoodTokens.{name_runs, tag_runs, range_runs, count_runs, OptRuns, TagRuns, GoodDeclaration, keyword_runs}
use Rattle.table_rules.proofs.TextSize.{run_length, SmallRun, SmallTag, SmallHeading, SmallDeclaration, range_length, count_length, keyword_length}

unfoldable pub TagCase : Tag → Type 0
TagCase own_name = Unit {0}
TagCase tagless = Unit {0}
TagCase (explicit v) = tag_form v ≡ true

pub name_len : (w : List ℕ) → name_form w ≡ true → length w ≤ 63
unfolding name_form
name_len w e = leb-true (length w) 63 (both_true (starts_with_letter w && every is_name_byte w) (leb (length w) 63) (both_true (starts_with_letter w && every is_name_byte w && leb (length w) 63) (not (is_keyword w)) e).0).1

pub tag_len : (w : List ℕ) → tag_form w ≡ true → length w ≤ 63
unfolding tag_form
tag_len w e = leb-true (length w) 63 (both_true (not_empty w && every is_tag_byte w) (leb (length w) 63) e).1

reference_no_range : (k a b : ℕ) → eqb k 10 ≡ true → range_for k a b ≡ absent
unfolding range_for kind_takes_range pick
reference_no_range k a b e = rw (eqb-true k 10 e)

module _ (T : List MaybeRun) (A : ℕ → Bool) (q : ℕ) (o : DistinctTops T) (h : q ≤ 256) where
  pub kinds_made : (i : ℕ) (rs : List Record) → All (RecordOk T A) rs → kinds_of (declarations_for T A q i rs) ≡ kinds_of_records rs
  unfolding kinds_of kinds_of_records kind_of_declaration declarations_for declaration_for All
  kinds_made i [] s = refl
  kinds_made i (r ∷ rs) s = rw (type_kind_lem T A r o s.0.0, kinds_made (suc i) rs s.1)

  pub length_made : (i : ℕ) (rs : List Record) → length (declarations_for T A q i rs) ≡ length rs
  unfolding declarations_for
  length_made i [] = refl
  length_made i (r ∷ rs) = rw (length_made (suc i) rs)

  module _ (i : ℕ) (r : Record) (g : i < 256) (s : RecordOk T A r) (f : label_fine r ≡ true) where
    made_name : name_form (pick (shows r.parent r.untagged) r.label (fresh q i)) ≡ true
    unfolding shows
    made_name = by (is_top r.parent || r.untagged) (unfold label_fine shows_name in f)
      where
        by : (b : Bool) → pick b (name_form r.label) (tag_form r.label) ≡ true → name_form (pick b r.label (fresh q i)) ≡ true
        by true e = unfold pick in e
        by false e = unfold pick in (fresh_ok q i h (omega arith))

    made_tag : TagCase (tag_for r.parent r.untagged r.label)
    made_tag = by r.parent r.untagged (unfold label_fine shows_name in f)
      where
        by : (u : Up) (n : Bool) → pick (is_top u || n) (name_form r.label) (tag_form r.label) ≡ true → TagCase (tag_for u n r.label)
        by top n e = unfold tag_for TagCase in tt
        by (under p) true e = unfold tag_for TagCase in tt
        by (under p) false e = unfold tag_for TagCase is_top pick in e

    made_type : is_reference (type_for T r.kind r.target) ≡ eqb r.kind 10
    unfolding is_reference
    made_type = rw (type_kind_lem T A r o s.0)

    pub name_passes : name_broken (declaration_for T A q i r) ≡ false
    unfolding name_broken declaration_for
    name_passes = rw made_name

    pub tag_passes : tag_broken (declaration_for T A q i r) ≡ false
    unfolding tag_broken declaration_for
    tag_passes = by (tag_for r.parent r.untagged r.label) made_tag
      where
        by : (t : Tag) → TagCase t → tag_broken_in t ≡ false
        by own_name e = unfold tag_broken_in in refl
        by tagless e = unfold tag_broken_in in refl
        by (explicit v) e = unfold tag_broken_in TagCase in (rw e)

    ref_name : eqb r.kind 10 ≡ true → name_form (type_for T r.kind r.target) ≡ true
    unfolding type_for pick run_bytes
    ref_name e = let x = s.0.to e in rw (e, x.1) x.2

    pub reference_passes : reference_broken (declaration_for T A q i r) ≡ false
    unfolding reference_broken declaration_for
    reference_passes = rw made_type (by (eqb r.kind 10) refl)
      where
        by : (b : Bool) → eqb r.kind 10 ≡ b → b && not (name_form (type_for T r.kind r.target)) ≡ false
        by true e = rw (ref_name e)
        by false e = refl

    pub range_passes : range_broken (declaration_for T A q i r) ≡ false
    unfolding range_broken declaration_for within_kind
    range_passes = rw (type_kind_lem T A r o s.0, range_is T A r.kind r.parent r.untagged r.lo_count r.hi_count r.least r.most r.target r.label o s.0, le-leb (kind_least r.kind) r.least s.0.range_lo, le-leb r.least r.most s.0.range_mid, le-leb r.most (kind_most r.kind) s.0.range_hi)

    pub count_passes : count_broken (declaration_for T A q i r) ≡ false
    unfolding count_broken declaration_for count_fine
    count_passes = rw (count_is T A r.kind r.parent r.untagged r.lo_count r.hi_count r.least r.most r.target r.label o s.0, le-leb r.lo_count count_limit s.0.count_lo, le-leb 1 r.hi_count s.0.count_pos, le-leb r.lo_count r.hi_count s.0.count_mid)

    pub dangling_passes : (t : ℕ) → (eqb r.kind 10 ≡ true → r.target < 65535) → dangling T (declaration_for T A q i r) ≡ false
    unfolding dangling declaration_for
    dangling_passes t l = rw made_type (by (eqb r.kind 10) refl)
      where
        by : (b : Bool) → eqb r.kind 10 ≡ b → b && eqb (or_none (find_top T 0 (type_for T r.kind r.target))) none16 ≡ false
        by true e = let x = s.0.to e in unfold type_for pick run_bytes or_none in (rw (e, x.1, find_at T 0 r.target x.0 o x.1) (ne_eqb (0 + r.target) none16 (λ z. omega (arith, l e))))
        by false e = refl

    pub good_made : GoodDeclaration (declaration_for T A q i r)
    unfolding GoodDeclaration declaration_for type_for range_for
    good_made = (ty (eqb r.kind 10) refl, rn (kind_takes_range r.kind), name_runs _ made_name, ca (is_single_value A r.parent), ta (tag_for r.parent r.untagged r.label) made_tag)
      where
        ty : (x : Bool) → eqb r.kind 10 ≡ x → RunBytes (pick x (run_bytes (nth_run T r.target)) (keyword_of r.kind))
        ty true e = unfold pick run_bytes in (let z = s.0.to e in rw z.1 (name_runs z.0 z.2))
        ty false e = unfold pick in keyword_runs r.kind s.0.kind_lo

        rn : (x : Bool) → OptRuns (pick x (given (write_range r.least r.most)) absent)
        rn true = unfold pick OptRuns in range_runs r.least r.most
        rn false = unfold pick OptRuns in tt

        ca : (x : Bool) → OptRuns (card_for x r.lo_count r.hi_count)
        ca true = unfold card_for OptRuns in tt
        ca false = unfold card_for OptRuns in count_runs r.lo_count r.hi_count

        ta : (t : Tag) → TagCase t → TagRuns t
        ta own_name e = unfold TagRuns in tt
        ta tagless e = unfold TagRuns in tt
        ta (explicit v) e = unfold TagRuns TagCase in (tag_runs v e)

    pub small_made : SmallDeclaration (declaration_for T A q i r)
    unfolding SmallDeclaration SmallHeading declaration_for type_for
    small_made = (ty (eqb r.kind 10) refl, name_len _ made_name, ca (is_single_value A r.parent), ta (tag_for r.parent r.untagged r.label) made_tag)
      where
        rg : (x : Bool) → run_length (pick x (given (write_range r.least r.most)) absent) ≤ 24
        rg true = unfold pick run_length in (range_length r.least r.most (omega (arith, s.0.range_mid, s.0.range_hi, most_lt r.kind)) (omega (arith, s.0.range_hi, most_lt r.kind)))
        rg false = unfold pick run_length in omega arith

        ty : (x : Bool) → eqb r.kind 10 ≡ x → length (pick x (run_bytes (nth_run T r.target)) (keyword_of r.kind)) + run_length (range_for r.kind r.least r.most) ≤ 63
        ty true e = unfold pick run_bytes run_length in (let z = s.0.to e in rw (z.1, reference_no_range r.kind r.least r.most e) (omega (arith, name_len z.0 z.2)))
        ty false e = unfold pick range_for in (omega (arith, keyword_length r.kind, rg (kind_takes_range r.kind)))

        ca : (x : Bool) → SmallRun 12 (card_for x r.lo_count r.hi_count)
        ca true = unfold card_for SmallRun in tt
        ca false = unfold card_for SmallRun in (count_length r.lo_count r.hi_count s.0.count_lo s.0.count_hi)

        ta : (t : Tag) → TagCase t → SmallTag t
        ta own_name e = unfold SmallTag in tt
        ta tagless e = unfold SmallTag in tt
        ta (explicit v) e = unfold SmallTag TagCase in (tag_len v e)

  -- a fact of each made declaration
  pub all_made : (P : Declaration → Type 0) (Q : Record → Type 0) → ((i : ℕ) (r : Record) → i < 256 → Q r → P (declaration_for T A q i r)) → (i : ℕ) (rs : List Record) → i + length rs ≤ 256 → All Q rs → All P (declarations_for T A q i rs)
  unfolding All declarations_for
  all_made P Q m i [] l a = tt
  all_made P Q m i (r ∷ rs) l a = (m i r (omega arith) a.0, all_made P Q m (suc i) rs (omega arith) a.1)
