-- T8, the other way: what a text compiles to obeys the rules.
use mathlib.Core.Path.{◌≡◌, refl, ap, subst, sym, ◌∙◌}
use mathlib.Core.Bool.{Bool, true, false, not, ◌&&◌, ◌||◌}
use mathlib.Core.List.{List, [], ◌∷◌}
use Prim.Native.Nat.{ℕ, zero, suc, ◌+◌, ◌≤◌, ◌<◌}
use native.Mathlib.Omega.{arith}
use lib.Dec.{leb, eqb, ltb}
use lib.ListN.{length, drop, length-drop}
use borrow.Author.Tests.{eq-eqb, le-leb, leb-true, lt-ltb, not-false}
use Rattle.classes.specs.Bytes.{IsBytes, Byte}
use Rattle.classes.proofs.Rows.{both_nil}
use Rattle.classes.proofs.Bools.{clash_bool, both_true}
use Rattle.numbers.specs.Limits.{depth_limit, parameter_limit, count_limit, no_limit, none16}
use Rattle.classes.specs.Lists.{same_bytes, every, pick, All}
use Rattle.definition_rules.specs.Words.{number_if, number_in, kind_of_run, kind_is_compound, is_compound, is_reference, is_keyword, starts_with_letter, name_form, tag_form}
use Rattle.classes.specs.Bytes.{is_name_byte, is_tag_byte}
use Rattle.numbers.specs.Decimal.{number_of, is_natural}
use Rattle.numbers.specs.Range.{number_when, read_count, cut_range, on_sides, low_of, high_of, both_read, read_upper, read_count_range, MaybeNumber, unread, number, Sides, uncut, sides, MaybeRange, no_range, range}
use Rattle.definition_rules.specs.Scan.{items_of, text_tokens_of, bad_places, deep_places, Item}
use Rattle.definition_rules.specs.Forms.{type_run, RangeAllowed, HeadAllowed, MaybeRun, absent, given, Tag, own_name, tagless, explicit, Heading, heading, parameter, tops, Form, plain, compound, last_top, more_tops, top_level}
use Rattle.reading_rules.specs.Record.{Up, top, under, Record, is_top, same_up, record_at, Before, AfterParents}
use Rattle.definition_rules.specs.Declarations.{declare, tree_declarations, parent_of, parse_tokens, declarations_of, Declaration, declaration, Noted, noted, in_fields, group_opened, in_group, groups_closed, Frame, frame, Outcome, stuck_at, complete, Spots}
use Rattle.definition_rules.specs.Finite.{finites, is_endless}
use Rattle.definition_rules.specs.Table.{up_number, encode, decode, Maybe, none, just, Storable}
use Rattle.definition_rules.specs.Records.{kind_least, kind_most, limits_of, count_range_of, top_name, top_names, is_named, find_top, or_none, target_of, is_tagless, label_of, record_for, records_for, records_of}
use Rattle.definition_rules.specs.Faults.{spots_where, record_spots, name_spots, faults4, name_broken, reference_broken, tag_broken_in, tag_broken, faults5, within_kind, count_fine, range_broken, count_broken, kind_of_declaration, kinds_of, is_union_at, is_alternative, is_given, count_on_alternative, void_many, faults6, rule7_broken, faults7, name_key, repeated_names, tag_repeated, faults8, root_no_struct, dangling, faults9, faults10, Key, key}
use Rattle.definition_rules.specs.Compile.{faults2, faults3, noted_of, checks_of, outcome_of, records_of_text, checks_after, checks_from, checks, verdict, verdict_of, clean, refused, table, check, Finding, fault, finding_of, first_fault, token_places, faults1, Empty, AllEmpty}
use Rattle.table_rules.specs.RecordRules.{is_open, closed_to, in_extension, push_if, may_stand, stands_in, ordered, kinds_of_records, is_single_value, is_top_at, target_fine, shows_name, label_fine, top_fine, record_fine, every_record, none_broken, key_if, shown_names, record_checks, record_rules, rules_of, table_rules}
use Rattle.definition_rules.proofs.TableLaws.{decode_encode, encode_decode}
use Rattle.definition_rules.proofs.FirstFault.{pass, table_clean}
use Rattle.definition_rules.proofs.FormSound.{complete_fits}
use Rattle.table_rules.proofs.Spelling.{nest, deep_nest}
use Rattle.table_rules.proofs.FlatPrint.{pushed, FitsOn, InOrder, closed_top}
use Rattle.table_rules.proofs.Witness.{most_lt}
use Rattle.table_rules.proofs.ShownNames.{Off, Uniq, declared_names}
use Rattle.table_rules.proofs.Depth.{LowEnough}
use Rattle.table_rules.proofs.FaultLaws.{up_self, uniq_new, twice_uniq, Unbroken, spots_all, spots_none, places_nil, none_spots}
use Rattle.table_rules.proofs.RuleFacts.{of_fine, all_every, all_map, FineRecord}
use Rattle.table_rules.proofs.RulesText.{rules_text, spots_length}
use Rattle.table_rules.proofs.TreeOrder.{nest_tree, Desc, closed_at, Stand, stand_tree, desc_more}
use Rattle.definition_rules.proofs.RunLaws.{kind_le}
use Rattle.table_rules.proofs.GoodTokens.{letter_some}

-- ---- small laws

number_ge : (vs : List (List ℕ)) (k : ℕ) (w : List ℕ) → k ≤ number_in vs k w
unfolding number_in
number_ge [] k w = omega arith
number_ge (v ∷ vs) k w = by (same_bytes v w) (number_ge vs (suc k) w)
  where
    by : (b : Bool) → suc k ≤ number_in vs (suc k) w → k ≤ number_if b k (number_in vs (suc k) w)
    by true h = unfold number_if in omega arith
    by false h = unfold number_if in omega arith

kind_ge : (w : List ℕ) → 1 ≤ kind_of_run w
unfolding kind_of_run
kind_ge w = number_ge _ 1 w

all_tag : (w : List ℕ) → every is_name_byte w ≡ true → every is_tag_byte w ≡ true
unfolding every is_tag_byte
all_tag [] e = refl
all_tag (b ∷ w) e = let x = both_true (is_name_byte b) (every is_name_byte w) e in rw x.0 (all_tag w x.1)

name_tag : (w : List ℕ) → name_form w ≡ true → tag_form w ≡ true
unfolding name_form tag_form
name_tag w e =
    let x = (both_true (starts_with_letter w && every is_name_byte w && leb (length w) 63) (not (is_keyword w)) e).0 in
    let y = both_true (starts_with_letter w && every is_name_byte w) (leb (length w) 63) x in
    let z = both_true (starts_with_letter w) (every is_name_byte w) y.0 in
    rw (letter_some w z.0, all_tag w z.1, y.1)

count_facts : (m : MaybeRange) → count_fine m ≡ true → (low_of m ≤ count_limit) × (1 ≤ high_of m) × (low_of m ≤ high_of m)
unfolding count_fine low_of high_of
count_facts no_range e = clash_bool e
count_facts (range a b) e =
    let x = both_true (leb a count_limit && leb 1 b) (leb a b) e in
    let y = both_true (leb a count_limit) (leb 1 b) x.0 in
    (leb-true a count_limit y.0, leb-true 1 b y.1, leb-true a b x.1)

range_facts : (k : ℕ) (m : MaybeRange) → within_kind k m ≡ true → (kind_least k ≤ low_of m) × (low_of m ≤ high_of m) × (high_of m ≤ kind_most k)
unfolding within_kind low_of high_of
range_facts k no_range e = clash_bool e
range_facts k (range a b) e =
    let x = both_true (leb (kind_least k) a && leb a b) (leb b (kind_most k)) e in
    let y = both_true (leb (kind_least k) a) (leb a b) x.0 in
    (leb-true (kind_least k) a y.0, leb-true a b y.1, leb-true b (kind_most k) x.1)

unread_no : {X : Type 0} {n : ℕ} → unread ≡ number n → X
unread_no e = let z : ◌≡◌ {A = ℕ} 0 1 = cc in absurd (omega arith)

upper_le : (v : List ℕ) (n : ℕ) → read_upper v ≡ number n → n ≤ no_limit
unfolding read_upper read_count
upper_le v n e = by (same_bytes v (42 ∷ [])) e
  where
    small : (f : Bool) (m : ℕ) (b : Bool) → leb m count_limit ≡ b → number_when (f && b) m ≡ number n → n ≤ no_limit
    small true m true q e = unfold number_when in (let z : m ≡ n = cc in omega (arith, leb-true m count_limit q))
    small true m false q e = unfold number_when in (unread_no e)
    small false m b q e = unfold number_when in (unread_no e)

    by : (b : Bool) → pick b (number no_limit) (number_when (is_natural v && leb (number_of v) count_limit) (number_of v)) ≡ number n → n ≤ no_limit
    by true e = unfold pick in (let z : no_limit ≡ n = cc in omega arith)
    by false e = unfold pick in (small (is_natural v) (number_of v) (leb (number_of v) count_limit) refl e)

high_le : (c : MaybeRun) → high_of (count_range_of c) ≤ no_limit
unfolding count_range_of read_count_range
high_le absent = unfold high_of in omega arith
high_le (given w) = by (cut_range w)
  where
    two : (x y : MaybeNumber) → ((n : ℕ) → y ≡ number n → n ≤ no_limit) → high_of (both_read x y) ≤ no_limit
    two unread y f = unfold both_read high_of in omega arith
    two (number a) unread f = unfold both_read high_of in omega arith
    two (number a) (number b) f = unfold both_read high_of in (f b refl)

    by : (s : Sides) → high_of (on_sides s no_range (λ u v. both_read (read_count u) (read_upper v))) ≤ no_limit
    by uncut = unfold on_sides high_of in omega arith
    by (sides u v) = unfold on_sides in (two (read_count u) (read_upper v) (upper_le v))

-- ---- tops have bare headings

unfoldable pub TopPlain : Declaration → Type 0
TopPlain (declaration u e h) = u ≡ top → HeadAllowed top_level h

tops_plain : (ds : List Declaration) (σ : List Frame) (k : ℕ) → InOrder σ k ds → All TopPlain ds
unfolding InOrder All TopPlain
tops_plain [] σ k o = tt
tops_plain (declaration u e h ∷ ds) σ k o = ((λ z. at_top (subst (λ q. FitsOn q e h) (ap (λ v. closed_to v σ) z ∙ closed_top σ) o.1)), tops_plain ds _ (suc k) o.2)
  where
    at_top : FitsOn [] e h → HeadAllowed top_level h
    at_top f = unfold FitsOn in f.1

-- ---- what is found is a top

find_top_lem : (T : List MaybeRun) (ds : List Declaration) (i t : ℕ) (w : List ℕ) → find_top (top_names ds) i w ≡ number t → (j : ℕ) × (t ≡ i + j) × (is_top_at (records_for T ds) j ≡ true)
unfolding find_top top_names records_for is_top_at
find_top_lem T [] i t w e = unread_no e
find_top_lem T (d ∷ ds) i t w e = by (is_named (top_name d) w) refl e (λ e. find_top_lem T ds (suc i) t w e)
  where
    is_top_lem : (d : Declaration) → is_named (top_name d) w ≡ true → is_top (record_for T d).parent ≡ true
    is_top_lem (declaration top e (heading w g n c t p)) x = unfold record_for is_top in refl
    is_top_lem (declaration (under q) e h) x = clash_bool (unfold top_name is_named in x)

    by : (b : Bool) → is_named (top_name d) w ≡ b → pick b (number i) (find_top (top_names ds) (suc i) w) ≡ number t → (find_top (top_names ds) (suc i) w ≡ number t → (j : ℕ) × (t ≡ suc i + j) × (is_top_at (records_for T ds) j ≡ true)) → (j : ℕ) × (t ≡ i + j) × (is_top_at (record_for T d ∷ records_for T ds) j ≡ true)
    by true x e f = unfold pick in (let y : i ≡ t = cc in (0, omega arith, is_top_lem d x))
    by false x e f = unfold pick in (let y = f e in (suc y.0, omega (arith, y.1), y.2))

-- ---- one record

given_no : (c : MaybeRun) → is_given c ≡ false → c ≡ absent
unfolding is_given
given_no absent e = refl
given_no (given v) e = clash_bool (sym e)

flags_true : (t : Tag) (p b : Bool) → t ≡ own_name → p ≡ false → b ≡ false → not (is_tagless t) && (not p && not b) ≡ true
unfolding is_tagless
flags_true t p b x y z = rw (x, y, z)

module _ (T : List MaybeRun) (rs : List Record) (ks : List ℕ) (found : (w : List ℕ) (t : ℕ) → find_top T 0 w ≡ number t → is_top_at rs t ≡ true) where
  aims : (w : List ℕ) → is_reference w && eqb (or_none (find_top T 0 w)) none16 ≡ false → pick (eqb (kind_of_run w) 10) (is_top_at rs (target_of T (kind_of_run w) w)) (eqb (target_of T (kind_of_run w) w) none16) ≡ true
  unfolding is_reference target_of
  aims w e = by (eqb (kind_of_run w) 10) e
    where
      go : (m : MaybeNumber) → find_top T 0 w ≡ m → eqb (or_none m) none16 ≡ false → is_top_at rs (or_none m) ≡ true
      go unread q e = unfold or_none in (clash_bool (sym (sym (eq-eqb none16 none16 refl) ∙ e)))
      go (number t) q e = unfold or_none in (found w t q)

      by : (b : Bool) → b && eqb (or_none (find_top T 0 w)) none16 ≡ false → pick b (is_top_at rs (pick b (or_none (find_top T 0 w)) none16)) (eqb (pick b (or_none (find_top T 0 w)) none16) none16) ≡ true
      by true e = unfold pick in (go (find_top T 0 w) refl e)
      by false e = unfold pick in (eq-eqb none16 none16 refl)

  labels : (u : Up) (n : List ℕ) (t : Tag) → (u ≡ top → t ≡ own_name) → name_form n ≡ true → tag_broken_in t ≡ false → pick (is_top u || is_tagless t) (name_form (label_of n t)) (tag_form (label_of n t)) ≡ true
  labels top n t f e q = rw (f refl) (unfold is_top is_tagless label_of pick in e)
  labels (under p) n own_name f e q = unfold is_top is_tagless label_of pick in (name_tag n e)
  labels (under p) n tagless f e q = unfold is_top is_tagless label_of pick in e
  labels (under p) n (explicit v) f e q = unfold is_top is_tagless label_of pick tag_broken_in in (not-false (tag_form v) q)

  alones : (u : Up) (c : MaybeRun) → (u ≡ top → c ≡ absent) → is_alternative (is_union_at ks) u && is_given c ≡ false → is_single_value (is_union_at ks) u ≡ true → (low_of (count_range_of c) ≡ 1) × (high_of (count_range_of c) ≡ 1)
  alones top c f e q = rw (f refl) (unfold count_range_of low_of high_of in (refl, refl))
  alones (under p) c f e q = rw (given_no c (second (is_union_at ks p) (unfold is_single_value in q) (unfold is_alternative in e))) (unfold count_range_of low_of high_of in (refl, refl))
    where
      second : (b : Bool) → b ≡ true → b && is_given c ≡ false → is_given c ≡ false
      second true q e = e
      second false q e = clash_bool q

  topped : (u : Up) (w : List ℕ) (g : MaybeRun) (n : List ℕ) (c : MaybeRun) (t : Tag) (p : Bool) → (u ≡ top → HeadAllowed top_level (heading w g n c t p)) → not (is_top u) || (not (is_tagless t) && (not p && not (eqb (kind_of_run w) 10))) ≡ true
  topped top w g n c t p f = unfold is_top in (by (unfold HeadAllowed in (f refl)))
    where
      by : (is_reference w ≡ false) × RangeAllowed w g × (c ≡ absent) × (t ≡ own_name) × (p ≡ false) → not (is_tagless t) && (not p && not (eqb (kind_of_run w) 10)) ≡ true
      by x = flags_true t p (eqb (kind_of_run w) 10) x.3 x.4 (unfold is_reference in x.0)
  topped (under q) w g n c t p f = unfold is_top in refl

  head_card : (w : List ℕ) (g : MaybeRun) (n : List ℕ) (c : MaybeRun) (t : Tag) (p : Bool) → HeadAllowed top_level (heading w g n c t p) → (c ≡ absent) × (t ≡ own_name)
  unfolding HeadAllowed
  head_card w g n c t p h = (h.2, h.3)

  fine_record : (d : Declaration) → TopPlain d → Unbroken name_broken d → Unbroken tag_broken d → Unbroken range_broken d → Unbroken count_broken d → Unbroken (count_on_alternative ks) d → Unbroken (dangling T) d → FineRecord rs (is_union_at ks) (record_for T d)
  unfolding record_for TopPlain name_broken tag_broken range_broken count_broken count_on_alternative dangling
  fine_record (declaration u e (heading w g n c t p)) tp nb tb rb cb ab db =
      let x = count_facts (count_range_of c) (not-false (count_fine (count_range_of c)) cb) in
      let y = range_facts (kind_of_run w) (limits_of (kind_of_run w) g) (not-false (within_kind (kind_of_run w) (limits_of (kind_of_run w) g)) rb) in
      record {
        kind_lo = kind_ge w;
        kind_hi = kind_le w;
        count_lo = x.0;
        count_pos = x.1;
        count_mid = x.2;
        count_hi = high_le c;
        alone = alones u c (λ z. (head_card w g n c t p (tp z)).0) ab;
        range_lo = y.0;
        range_mid = y.1;
        range_hi = y.2;
        aim = unfold target_fine in (aims w db);
        named = unfold label_fine shows_name in (labels u n t (λ z. (head_card w g n c t p (tp z)).1) (not-false (name_form n) nb) tb);
        topped = unfold top_fine in (topped u w g n c t p tp);
      }

  pub fine_records : (ds : List Declaration) → All TopPlain ds → All (Unbroken name_broken) ds → All (Unbroken tag_broken) ds → All (Unbroken range_broken) ds → All (Unbroken count_broken) ds → All (Unbroken (count_on_alternative ks)) ds → All (Unbroken (dangling T)) ds → All (FineRecord rs (is_union_at ks)) (records_for T ds)
  unfolding All records_for
  fine_records [] a b c d e f g = tt
  fine_records (x ∷ ds) a b c d e f g = (fine_record x a.0 b.0 c.0 d.0 e.0 f.0 g.0, fine_records ds a.1 b.1 c.1 d.1 e.1 f.1 g.1)

-- ---- many records

kinds_records : (T : List MaybeRun) (ds : List Declaration) → kinds_of_records (records_for T ds) ≡ kinds_of ds
unfolding kinds_of_records records_for kinds_of record_for kind_of_declaration
kinds_records T [] = refl
kinds_records T (declaration u e (heading w g n c t p) ∷ ds) = ap (λ q. kind_of_run w ∷ q) (kinds_records T ds)

pub length_records : (T : List MaybeRun) (ds : List Declaration) → length (records_for T ds) ≡ length ds
unfolding records_for
length_records T [] = refl
length_records T (d ∷ ds) = ap suc (length_records T ds)

may_stand_lem : (σ : List Frame) (e : Bool) (h : Heading) → FitsOn σ e h → may_stand σ e ≡ true
unfolding FitsOn may_stand
may_stand_lem [] e h f = rw f.0
may_stand_lem (frame q in_fields ∷ σ) e h f = refl
may_stand_lem (frame q group_opened ∷ σ) e h f = absurd f
may_stand_lem (frame q in_group ∷ σ) e h f = f.0
may_stand_lem (frame q groups_closed ∷ σ) e h f = absurd f

deep_enough : (b : Bool) (n : ℕ) → (b ≡ true → n < depth_limit) → not b || ltb n depth_limit ≡ true
deep_enough true n f = lt-ltb n depth_limit (f refl)
deep_enough false n f = refl

pub ordered_of : (T : List MaybeRun) (ds : List Declaration) (σ : List Frame) (k : ℕ) → InOrder σ k ds → LowEnough σ k ds → ordered σ k (records_for T ds) ≡ true
unfolding InOrder LowEnough ordered records_for record_for stands_in pushed type_run is_compound kind_is_compound
ordered_of T [] σ k o l = refl
ordered_of T (declaration u e (heading w g n c t p) ∷ ds) σ k o l = and_true (here o.0 (may_stand_lem (closed_to u σ) e (heading w g n c t p) o.1) l.0) (ordered_of T ds _ (suc k) o.2 l.1)
  where
    and_true : {a b : Bool} → a ≡ true → b ≡ true → a && b ≡ true
    and_true p q = rw (p, q)

    here : parent_of (closed_to u σ) ≡ u → may_stand (closed_to u σ) e ≡ true → (leb 8 (kind_of_run w) && leb (kind_of_run w) 9 ≡ true → length (closed_to u σ) < 8) → same_up (parent_of (closed_to u σ)) u && (may_stand (closed_to u σ) e && (not (leb 8 (kind_of_run w) && leb (kind_of_run w) 9) || ltb (length (closed_to u σ)) depth_limit)) ≡ true
    here a b f = rw (a, up_self u, b) (deep_enough (leb 8 (kind_of_run w) && leb (kind_of_run w) 9) (length (closed_to u σ)) f)

-- shown names are names
top_own : (u : Up) (e : Bool) (w : List ℕ) (g : MaybeRun) (n : List ℕ) (c : MaybeRun) (t : Tag) (p : Bool) → TopPlain (declaration u e (heading w g n c t p)) → u ≡ top → t ≡ own_name
unfolding TopPlain HeadAllowed
top_own u e w g n c t p f z = (f z).3

off_if : (u : Up) (n : List ℕ) (t : Tag) (k : Key) (ks : List Key) → (u ≡ top → t ≡ own_name) → (k ≡ key u n → ⊥) → Off k ks → Off k (key_if (is_top u || is_tagless t) (key u (label_of n t)) ks)
unfolding key_if Off
off_if top n t k ks f a b = rw (f refl) (unfold is_top is_tagless label_of in (a, b))
off_if (under q) n own_name k ks f a b = unfold is_top is_tagless label_of in b
off_if (under q) n tagless k ks f a b = unfold is_top is_tagless label_of in (a, b)
off_if (under q) n (explicit v) k ks f a b = unfold is_top is_tagless label_of in b

uniq_if : (u : Up) (n : List ℕ) (t : Tag) (ks : List Key) → (u ≡ top → t ≡ own_name) → Off (key u n) ks → Uniq ks → Uniq (key_if (is_top u || is_tagless t) (key u (label_of n t)) ks)
unfolding key_if Uniq
uniq_if top n t ks f a b = rw (f refl) (unfold is_top is_tagless label_of in (a, b))
uniq_if (under q) n own_name ks f a b = unfold is_top is_tagless label_of in b
uniq_if (under q) n tagless ks f a b = unfold is_top is_tagless label_of in (a, b)
uniq_if (under q) n (explicit v) ks f a b = unfold is_top is_tagless label_of in b

off_shown : (T : List MaybeRun) (k : Key) (ds : List Declaration) → All TopPlain ds → Off k (declared_names ds) → Off k (shown_names (records_for T ds))
unfolding All declared_names shown_names records_for Off name_key record_for shows_name
off_shown T k [] h o = tt
off_shown T k (declaration u e (heading w g n c t p) ∷ ds) h o = off_if u n t k _ (top_own u e w g n c t p h.0) o.0 (off_shown T k ds h.1 o.1)

pub uniq_shown : (T : List MaybeRun) (ds : List Declaration) → All TopPlain ds → Uniq (declared_names ds) → Uniq (shown_names (records_for T ds))
unfolding All declared_names shown_names records_for Uniq name_key record_for shows_name
uniq_shown T [] h o = tt
uniq_shown T (declaration u e (heading w g n c t p) ∷ ds) h o = uniq_if u n t _ (top_own u e w g n c t p h.0) (off_shown T (key u n) ds h.1 o.0) (uniq_shown T ds h.1 o.1)

-- ---- numbers that the bytes hold

desc_closed : (k : ℕ) (u : Up) (σ : List Frame) → Desc k σ → Desc k (closed_to u σ)
unfolding Desc closed_to
desc_closed k u [] d = tt
desc_closed k u (frame a m ∷ σ) d = by (is_open u a) (desc_more a k (closed_to u σ) (omega (arith, d.0)) (desc_closed a u σ d.1))
  where
    by : (b : Bool) → Desc k (closed_to u σ) → Desc k (pick b (frame a m ∷ σ) (closed_to u σ))
    by true x = unfold pick in d
    by false x = unfold pick in x

desc_extension : (k : ℕ) (e : Bool) (σ : List Frame) → Desc k σ → Desc k (in_extension e σ)
unfolding Desc in_extension
desc_extension k e [] d = tt
desc_extension k true (frame p m ∷ σ) d = d
desc_extension k false (frame p m ∷ σ) d = d

desc_push : (k : ℕ) (b : Bool) (σ : List Frame) → Desc k σ → Desc (suc k) (push_if b k σ)
unfolding push_if Desc
desc_push k true σ d = (omega arith, d)
desc_push k false σ d = desc_more k (suc k) σ (omega arith) d

up_low : (k : ℕ) (σ : List Frame) (u : Up) → Desc k σ → k < 65535 → parent_of (closed_to u σ) ≡ u → up_number u ≡ none16 → u ≡ top
unfolding parent_of up_number
up_low k σ top d h z w = refl
up_low k σ (under j) d h z w = by (closed_to (under j) σ) refl
  where
    by : (ρ : List Frame) → closed_to (under j) σ ≡ ρ → under j ≡ top
    by [] e = sym (rw e at z)
    by (frame a m ∷ ρ) e = absurd (omega (arith, (closed_at σ k j a m ρ d e).1))

pub storables : (T : List MaybeRun) (rs : List Record) (A : ℕ → Bool) (ds : List Declaration) (σ : List Frame) (k : ℕ) → Desc k σ → InOrder σ k ds → k + length ds ≤ 256 → All (FineRecord rs A) (records_for T ds) → All Storable (records_for T ds)
unfolding InOrder All records_for record_for pushed
storables T rs A [] σ k d o h f = tt
storables T rs A (declaration u e (heading w g n c t p) ∷ ds) σ k d o h f =
    let x = f.0 in
    let m = most_lt (kind_of_run w) in (
      (up_low k σ u d (omega arith) o.0, omega (arith, x.range_mid, x.range_hi), omega (arith, x.range_hi)),
      storables T rs A ds _ (suc k) (desc_push k (is_compound (type_run (heading w g n c t p))) (in_extension e (closed_to u σ)) (desc_extension k e (closed_to u σ) (desc_closed k u σ d))) o.2 (omega arith) f.1,
    )

-- ---- ordered records stand after those whose bodies they are in

up_before : (k : ℕ) (σ : List Frame) (u : Up) → Desc k σ → same_up (parent_of (closed_to u σ)) u ≡ true → Before k u
unfolding Before
up_before k σ top d z = tt
up_before k σ (under j) d z = by (closed_to (under j) σ) refl z
  where
    by : (ρ : List Frame) → closed_to (under j) σ ≡ ρ → same_up (parent_of ρ) (under j) ≡ true → j < k
    by [] e z = unfold same_up parent_of in (clash_bool z)
    by (frame a m ∷ ρ) e z = (closed_at σ k j a m ρ d e).1

stands : (σ : List Frame) (r : Record) → stands_in σ r ≡ true → same_up (parent_of σ) r.parent ≡ true
unfolding stands_in
stands σ r e = (both_true _ _ e).0

before_from : (σ : List Frame) (k : ℕ) (rs : List Record) → Desc k σ → ordered σ k rs ≡ true → (i : ℕ) → i < length rs → Before (k + i) (record_at rs i).parent
unfolding ordered record_at
before_from σ k [] d o i h = absurd (omega arith)
before_from σ k (r ∷ rs) d o zero h =
    let z : k ≡ k + 0 = omega arith in
    subst (λ (j : ℕ). Before j r.parent) z (up_before k σ r.parent d (stands (closed_to r.parent σ) r (both_true (stands_in (closed_to r.parent σ) r) _ o).0))
before_from σ k (r ∷ rs) d o (suc i) h =
    let z : suc k + i ≡ k + suc i = omega arith in
    subst (λ (j : ℕ). Before j (record_at rs i).parent) z (before_from (push_if (kind_is_compound r.kind) k (in_extension r.extension (closed_to r.parent σ))) (suc k) rs (desc_push k (kind_is_compound r.kind) _ (desc_extension k r.extension _ (desc_closed k r.parent σ d))) (both_true (stands_in (closed_to r.parent σ) r) _ o).1 i (omega arith))

pub ordered_after_parents : (rs : List Record) → ordered [] 0 rs ≡ true → AfterParents rs
unfolding AfterParents
ordered_after_parents rs o i h =
    let z : 0 + i ≡ i = omega arith in
    subst (λ (j : ℕ). Before j (record_at rs i).parent) z (before_from [] 0 rs (unfold Desc in tt) o i h)

-- ---- the checks, taken apart

drop_short : (n : ℕ) (l : List ℕ) → drop n l ≡ [] → length l ≤ n
drop_short n l e = omega (arith, length-drop n l, ap length e)

pub record ChecksCleared (items : List Item) (ns : List Noted) (rs : List Record) : Type 0 where
  pub two : faults2 items ≡ []
  pub four : faults4 parameter_limit ns ≡ []
  pub five : faults5 ns ≡ []
  pub six : faults6 rs ns ≡ []
  pub seven : faults7 rs ns ≡ []
  pub eight : faults8 rs ns ≡ []
  pub nine : faults9 rs ns ≡ []

cleared : (text : List ℕ) (items : List Item) (o : Outcome (List Noted)) (ns : List Noted) (rs : List Record) → AllEmpty (checks_of text items o ns rs) → ChecksCleared items ns rs × (faults3 o ≡ []) × (faults10 rs ns ≡ [])
unfolding AllEmpty Empty checks_of
cleared text items o ns rs a =
    let nil = places_nil text items in
    let b = a.1 in let c = b.1 in let d = c.1 in let e = d.1 in let f = e.1 in let g = f.1 in let h = g.1 in let i = h.1 in let j = i.1 in
    (record { two = b.0; four = nil _ d.0; five = nil _ e.0; six = nil _ f.0; seven = nil _ g.0; eight = nil _ h.0; nine = nil _ i.0 }, nil _ c.0, nil _ j.0)

some_parameter : (x : Form parameter) (u : Up) (e : Bool) (k : ℕ) (r : List Declaration) → 1 ≤ length (declare x u e k r)
unfolding declare
some_parameter (plain h) u e k r = omega arith
some_parameter (compound h f g) u e k r = omega arith

some_tops : (d : Form tops) → 1 ≤ length (tree_declarations d)
unfolding declare
some_tops (last_top x) = some_parameter x top false 0 []
some_tops (more_tops x t) = some_parameter x top false 0 _

stand_items : (items : List Item) (ns : List Noted) → parse_tokens (text_tokens_of items) ≡ complete ns → faults2 items ≡ [] → Stand [] 0 (declarations_of ns) × (1 ≤ length (declarations_of ns))
stand_items items ns e two =
    let f = complete_fits (text_tokens_of items) ns e in
    let n : nest 0 (text_tokens_of items) ≡ true = deep_nest items 0 (both_nil (bad_places items) (deep_places 0 items) (unfold faults2 in two)).1 in
    let s = (nest_tree f.0.0 0 [] (ap (nest 0) f.0.2 ∙ n)).0 in
    let t = stand_tree f.0.0 [] 0 (unfold Desc in tt) (unfold closed_to in refl) f.0.1 s in
    (subst (λ q. Stand [] 0 q) f.1 t, subst (λ q. 1 ≤ length q) f.1 (some_tops f.0.0))

pub noted_length : (ns : List Noted) → length ns ≡ length (declarations_of ns)
unfolding declarations_of
noted_length [] = refl
noted_length (noted s d ∷ ns) = ap suc (noted_length ns)

module _ (items : List Item) (ns : List Noted) (e : parse_tokens (text_tokens_of items) ≡ complete ns) (c : ChecksCleared items ns (records_of (declarations_of ns))) where
  abbrev ds : List Declaration
  ds = declarations_of ns

  abbrev T : List MaybeRun
  T = top_names ds

  abbrev rs : List Record
  rs = records_for T ds

  clear : ChecksCleared items ns rs
  unfolding records_of
  clear = c

  standing : Stand [] 0 ds × (1 ≤ length ds)
  standing = stand_items items ns e clear.two

  bare : All TopPlain ds
  bare = tops_plain ds [] 0 standing.0.0

  few : length ds ≤ 256
  few = omega (arith, drop_short 256 (name_spots ns) clear.four, spots_length ns)

  same_length : length rs ≡ length ns
  same_length = length_records T ds ∙ sym (noted_length ns)

  forms : (spots_where name_broken (λ s. s.name_at) ns ≡ []) × (spots_where tag_broken (λ s. s.tag_at) ns ≡ [])
  forms =
      let x = both_nil (spots_where name_broken (λ s. s.name_at) ns) _ clear.five in
      let y = both_nil (spots_where reference_broken (λ s. s.type_at) ns) (spots_where tag_broken (λ s. s.tag_at) ns) x.1 in
      (x.0, y.1)

  ranges : (spots_where range_broken (λ s. s.range_at) ns ≡ []) × (spots_where count_broken (λ s. s.card_at) ns ≡ []) × (record_spots void_many (λ s. s.card_at) 0 rs ns ≡ []) × (spots_where (count_on_alternative (kinds_of ds)) (λ s. s.card_at) ns ≡ [])
  ranges =
      let x = both_nil (spots_where range_broken (λ s. s.range_at) ns) _ clear.six in
      let y = both_nil (spots_where count_broken (λ s. s.card_at) ns) _ x.1 in
      let z = both_nil (record_spots void_many (λ s. s.card_at) 0 rs ns) (spots_where (count_on_alternative (kinds_of ds)) (λ s. s.card_at) ns) y.1 in
      (x.0, y.0, z.0, z.1)

  twice : (repeated_names [] ns ≡ []) × (record_spots (tag_repeated rs) (λ s. s.tag_at) 0 rs ns ≡ [])
  twice = both_nil (repeated_names [] ns) (record_spots (tag_repeated rs) (λ s. s.tag_at) 0 rs ns) clear.eight

  roots : (record_spots root_no_struct (λ s. s.name_at) 0 rs ns ≡ []) × (spots_where (dangling T) (λ s. s.type_at) ns ≡ [])
  roots = both_nil (record_spots root_no_struct (λ s. s.name_at) 0 rs ns) (spots_where (dangling T) (λ s. s.type_at) ns) clear.nine

  found : (w : List ℕ) (t : ℕ) → find_top T 0 w ≡ number t → is_top_at rs t ≡ true
  found w t q = let x = find_top_lem T ds 0 t w q in subst (λ j. is_top_at rs j ≡ true) (omega (arith, x.1)) x.2

  fines : All (FineRecord rs (is_union_at (kinds_of ds))) rs
  fines = fine_records T rs (kinds_of ds) found ds bare
      (spots_all name_broken (λ s. s.name_at) ns forms.0)
      (spots_all tag_broken (λ s. s.tag_at) ns forms.1)
      (spots_all range_broken (λ s. s.range_at) ns ranges.0)
      (spots_all count_broken (λ s. s.card_at) ns ranges.1)
      (spots_all (count_on_alternative (kinds_of ds)) (λ s. s.card_at) ns ranges.3)
      (spots_all (dangling T) (λ s. s.type_at) ns roots.1)

  unbroken : (f : ℕ → Record → Bool) (at : Spots → ℕ) → record_spots f at 0 rs ns ≡ [] → none_broken f 0 rs ≡ true
  unbroken f at q = spots_none f at 0 rs ns same_length q

  checks_hold : faults10 rs ns ≡ [] → record_checks rs ≡ true
  unfolding record_checks
  checks_hold ten = rw (unbroken void_many (λ s. s.card_at) ranges.2, unbroken (rule7_broken rs) (λ s. s.name_at) clear.seven, unbroken (tag_repeated rs) (λ s. s.tag_at) twice.1, unbroken root_no_struct (λ s. s.name_at) roots.0, unbroken (is_endless (finites rs)) (λ s. s.name_at) ten)

  every_fine : every_record (record_fine rs (is_union_at (kinds_of_records rs))) rs ≡ true
  every_fine = rw (kinds_records T ds) (all_every (record_fine rs (is_union_at (kinds_of ds))) rs (all_map (FineRecord rs (is_union_at (kinds_of ds))) (λ r. record_fine rs (is_union_at (kinds_of ds)) r ≡ true) rs (λ r f. of_fine rs (is_union_at (kinds_of ds)) r f) fines))

  -- what values rest on, number 10 or not
  pub formed_hold : (every_record (record_fine rs (is_union_at (kinds_of_records rs))) rs ≡ true) × (none_broken (rule7_broken rs) 0 rs ≡ true) × (none_broken (tag_repeated rs) 0 rs ≡ true)
  formed_hold = (every_fine, unbroken (rule7_broken rs) (λ s. s.name_at) clear.seven, unbroken (tag_repeated rs) (λ s. s.tag_at) twice.1)

  pub rules_hold : faults10 rs ns ≡ [] → record_rules parameter_limit rs ≡ true
  unfolding record_rules
  rules_hold ten = rw (le-leb 1 (length rs) (omega (arith, length_records T ds, standing.1)), le-leb (length rs) parameter_limit (omega (arith, length_records T ds, few)), ordered_of T ds [] 0 standing.0.0 standing.0.1, every_fine, uniq_new (shown_names rs) (uniq_shown T ds bare (twice_uniq ns [] twice.0).1), checks_hold ten)

  pub storable : All Storable rs
  storable = storables T rs (is_union_at (kinds_of ds)) ds [] 0 (unfold Desc in tt) standing.0.0 (omega (arith, few)) fines

-- ---- number 10 is given: what the other checks leave

cleared_ten : (text : List ℕ) (items : List Item) (o : Outcome (List Noted)) (ns : List Noted) (rs : List Record) (p : ℕ) → first_fault (checks_of text items o ns rs) ≡ fault 10 p → ChecksCleared items ns rs × (faults3 o ≡ []) × (faults10 rs ns ≡ [] → ⊥)
unfolding checks_of
cleared_ten text items o ns rs p e =
    let nil = places_nil text items in
    let a = pass 1 10 p (faults1 text) _ e (λ z. omega arith) in
    let b = pass 2 10 p (faults2 items) _ a.1 (λ z. omega arith) in
    let c = pass 3 10 p (token_places text items (faults3 o)) _ b.1 (λ z. omega arith) in
    let d = pass 4 10 p (token_places text items (faults4 parameter_limit ns)) _ c.1 (λ z. omega arith) in
    let f = pass 5 10 p (token_places text items (faults5 ns)) _ d.1 (λ z. omega arith) in
    let g = pass 6 10 p (token_places text items (faults6 rs ns)) _ f.1 (λ z. omega arith) in
    let h = pass 7 10 p (token_places text items (faults7 rs ns)) _ g.1 (λ z. omega arith) in
    let i = pass 8 10 p (token_places text items (faults8 rs ns)) _ h.1 (λ z. omega arith) in
    let j = pass 9 10 p (token_places text items (faults9 rs ns)) _ i.1 (λ z. omega arith) in
    (record { two = b.0; four = nil _ d.0; five = nil _ f.0; six = nil _ g.0; seven = nil _ h.0; eight = nil _ i.0; nine = nil _ j.0 }, nil _ c.0, λ z. last_check (faults10 rs ns) z j.1)
  where
    last_check : (fs : List ℕ) → fs ≡ [] → first_fault (check 10 (token_places text items fs) ∷ []) ≡ fault 10 p → ⊥
    last_check fs z q = none_left (rw z at q)
      where
        none_left : first_fault (check 10 (token_places text items []) ∷ []) ≡ fault 10 p → ⊥
        none_left q = unfold token_places first_fault finding_of in (let y : ◌≡◌ {A = ℕ} 0 1 = cc in omega arith)

-- ---- T8, the other way

stuck_some : (i : ℕ) → faults3 (stuck_at i) ≡ [] → ⊥
unfolding faults3
stuck_some i e = let z : ◌≡◌ {A = ℕ} 0 1 = cc in omega arith

rules_at : (bytes : List ℕ) (l : List Record) → encode l ≡ bytes → decode (encode l) ≡ just l → record_rules parameter_limit l ≡ true → table_rules parameter_limit bytes ≡ true
unfolding table_rules rules_of
rules_at bytes l b d r = ap (rules_of parameter_limit) (ap decode (sym b) ∙ d) ∙ r

pub text_rules : (text bytes : List ℕ) → verdict text ≡ table bytes → table_rules parameter_limit bytes ≡ true
text_rules text bytes v = by (outcome_of text) refl
  where
    clean : AllEmpty (checks text) × (encode (records_of_text text) ≡ bytes)
    clean = table_clean text bytes v

    emptied : (o : Outcome (List Noted)) → outcome_of text ≡ o → AllEmpty (checks_of text (items_of text) o (noted_of o) (records_of (declarations_of (noted_of o))))
    emptied o e = subst (λ q. AllEmpty (checks_of text (items_of text) q (noted_of q) (records_of (declarations_of (noted_of q))))) e (unfold checks checks_from checks_after in clean.0)

    by : (o : Outcome (List Noted)) → outcome_of text ≡ o → table_rules parameter_limit bytes ≡ true
    by (stuck_at i) e = absurd (stuck_some i (cleared text (items_of text) (stuck_at i) (noted_of (stuck_at i)) (records_of (declarations_of (noted_of (stuck_at i)))) (emptied (stuck_at i) e)).1)
    by (complete ns) e = finish (cleared text (items_of text) (complete ns) ns (records_of (declarations_of ns)) (unfold noted_of in (emptied (complete ns) e)))
      where
        records_are : records_of_text text ≡ records_for (top_names (declarations_of ns)) (declarations_of ns)
        records_are = rw e (unfold noted_of records_of in refl)

        finish : ChecksCleared (items_of text) ns (records_of (declarations_of ns)) × (faults3 (complete ns) ≡ []) × (faults10 (records_of (declarations_of ns)) ns ≡ []) → table_rules parameter_limit bytes ≡ true
        finish c =
            let t : faults10 (records_for (top_names (declarations_of ns)) (declarations_of ns)) ns ≡ [] = unfold records_of in c.2 in
            let r = rules_hold (items_of text) ns e c.0 t in
            let d = decode_encode (records_for (top_names (declarations_of ns)) (declarations_of ns)) (storable (items_of text) ns e c.0) in
            let b = ap encode (sym records_are) ∙ clean.1 in
            rules_at bytes (records_for (top_names (declarations_of ns)) (declarations_of ns)) b d r

-- the records of a text that compiles keep the rules
pub text_rules_records : (text bytes : List ℕ) → verdict text ≡ table bytes → record_rules parameter_limit (records_of_text text) ≡ true
text_rules_records text bytes v = by (outcome_of text) refl
  where
    emptied : (o : Outcome (List Noted)) → outcome_of text ≡ o → AllEmpty (checks_of text (items_of text) o (noted_of o) (records_of (declarations_of (noted_of o))))
    emptied o e = subst (λ q. AllEmpty (checks_of text (items_of text) q (noted_of q) (records_of (declarations_of (noted_of q))))) e (unfold checks checks_from checks_after in (table_clean text bytes v).0)

    by : (o : Outcome (List Noted)) → outcome_of text ≡ o → record_rules parameter_limit (records_of_text text) ≡ true
    by (stuck_at i) e = absurd (stuck_some i (cleared text (items_of text) (stuck_at i) (noted_of (stuck_at i)) (records_of (declarations_of (noted_of (stuck_at i)))) (emptied (stuck_at i) e)).1)
    by (complete ns) e = finish (cleared text (items_of text) (complete ns) ns (records_of (declarations_of ns)) (unfold noted_of in (emptied (complete ns) e)))
      where
        records_are : records_of_text text ≡ records_for (top_names (declarations_of ns)) (declarations_of ns)
        records_are = rw e (unfold noted_of records_of in refl)

        finish : ChecksCleared (items_of text) ns (records_of (declarations_of ns)) × (faults3 (complete ns) ≡ []) × (faults10 (records_of (declarations_of ns)) ns ≡ []) → record_rules parameter_limit (records_of_text text) ≡ true
        finish c =
            let t : faults10 (records_for (top_names (declarations_of ns)) (declarations_of ns)) ns ≡ [] = unfold records_of in c.2 in
            rw records_are (rules_hold (items_of text) ns e c.0 t)

-- a text refused with 10: its records keep the rules that values rest on, and some struct or union is endless
abbrev pub TenLeft : List Record → Type 0
TenLeft rs = (every_record (record_fine rs (is_union_at (kinds_of_records rs))) rs ≡ true) × (none_broken (rule7_broken rs) 0 rs ≡ true) × (none_broken (tag_repeated rs) 0 rs ≡ true) × (none_broken (is_endless (finites rs)) 0 rs ≡ true → ⊥)

pub text_ten : (text : List ℕ) (p : ℕ) → verdict text ≡ refused 10 p → TenLeft (records_of_text text)
text_ten text p v = by (outcome_of text) refl
  where
    first_is : first_fault (checks text) ≡ fault 10 p
    first_is = go (first_fault (checks text)) (unfold verdict in v)
      where
        go : (f : Finding) → verdict_of f (records_of_text text) ≡ refused 10 p → f ≡ fault 10 p
        go clean e = unfold verdict_of in (let z : ◌≡◌ {A = ℕ} 0 1 = cc in absurd (omega arith))
        go (fault m r) e = unfold verdict_of in (let x : m ≡ 10 = cc in let y : r ≡ p = cc in rw (x, y))

    at : (o : Outcome (List Noted)) → outcome_of text ≡ o → first_fault (checks_of text (items_of text) o (noted_of o) (records_of (declarations_of (noted_of o)))) ≡ fault 10 p
    at o e = subst (λ q. first_fault (checks_of text (items_of text) q (noted_of q) (records_of (declarations_of (noted_of q)))) ≡ fault 10 p) e (unfold checks checks_from checks_after in first_is)

    by : (o : Outcome (List Noted)) → outcome_of text ≡ o → TenLeft (records_of_text text)
    by (stuck_at i) e = absurd (stuck_some i (cleared_ten text (items_of text) (stuck_at i) (noted_of (stuck_at i)) (records_of (declarations_of (noted_of (stuck_at i)))) p (at (stuck_at i) e)).1)
    by (complete ns) e = subst TenLeft (sym records_are) (finish (cleared_ten text (items_of text) (complete ns) ns (records_of (declarations_of ns)) p (unfold noted_of in (at (complete ns) e))))
      where
        records_are : records_of_text text ≡ records_for (top_names (declarations_of ns)) (declarations_of ns)
        records_are = rw e (unfold noted_of records_of in refl)

        finish : ChecksCleared (items_of text) ns (records_of (declarations_of ns)) × (faults3 (complete ns) ≡ []) × (faults10 (records_of (declarations_of ns)) ns ≡ [] → ⊥) → TenLeft (records_for (top_names (declarations_of ns)) (declarations_of ns))
        finish c =
            let g = formed_hold (items_of text) ns e c.0 in
            let t : faults10 (records_for (top_names (declarations_of ns)) (declarations_of ns)) ns ≡ [] → ⊥ = unfold records_of in c.2 in
            (g.0, g.1, g.2, λ z. t (none_spots (is_endless (finites (records_for (top_names (declarations_of ns)) (declarations_of ns)))) (λ s. s.name_at) 0 (records_for (top_names (declarations_of ns)) (declarations_of ns)) ns z))

-- T8, over bytes: a table obeys the rules exactly when some text compiles to it
pub table_text : (bytes : List ℕ) → All Byte bytes → table_rules parameter_limit bytes ≡ true → (text : List ℕ) × IsBytes text × (verdict text ≡ table bytes)
table_text bytes h e = by (decode bytes) refl (unfold table_rules in e)
  where
    by : (m : Maybe (List Record)) → decode bytes ≡ m → rules_of parameter_limit m ≡ true → (text : List ℕ) × IsBytes text × (verdict text ≡ table bytes)
    by none q e = unfold rules_of in (clash_bool e)
    by (just l) q e = let x = rules_text parameter_limit l (omega arith) (unfold rules_of in e) in (x.0, x.1, x.2 ∙ ap table (encode_decode bytes l h q))
