-- The declarations made of records, and their records.
use mathlib.Core.Path.{◌≡◌, refl, ap, sym, ◌∙◌}
use mathlib.Core.Bool.{Bool, true, false, not, ◌&&◌, ◌||◌}
use mathlib.Core.List.{List, [], ◌∷◌, ◌++◌}
use Prim.Native.Nat.{ℕ, zero, suc, ◌+◌, ◌≤◌, ◌<◌}
use native.Mathlib.Omega.{arith}
use lib.Dec.{leb, eqb, ltb}
use lib.ListN.{length}
use borrow.Author.Tests.{ne_eqb, eqb-true, eqb-false, not-true, ltb-false}
use Rattle.classes.proofs.Rows.{same_true, bytes_self}
use Rattle.classes.proofs.Bools.{clash_bool, both_true}
use Rattle.numbers.specs.Limits.{count_limit, bias}
use Rattle.classes.specs.Lists.{same_bytes, every, pick, All}
use Rattle.definition_rules.specs.Words.{kw_as, kw_plugin, kw_void, kw_bool, kw_int, kw_ascii, kw_unquoted, kw_date, kw_time, kw_struct, kw_union, number_if, number_in, kind_of_run, kind_takes_range, is_keyword, starts_with_letter, name_form}
use Rattle.classes.specs.Bytes.{is_name_byte}
use Rattle.numbers.specs.Range.{on_sides, low_of, high_of, both_read, read_int_range, read_upper, read_count_range, number, range}
use Rattle.definition_rules.specs.Forms.{MaybeRun, absent, given, Tag, own_name, tagless, explicit, heading}
use Rattle.reading_rules.specs.Record.{Up, top, under, Record, is_top}
use Rattle.definition_rules.specs.Declarations.{Declaration, declaration}
use Rattle.definition_rules.specs.Records.{kind_least, kind_most, limits_of, count_range_of, top_name, top_names, is_named, find_top, or_none, target_of, is_tagless, label_of, record_for, records_for}
use Rattle.table_rules.specs.RecordRules.{is_single_value}
use Rattle.table_rules.proofs.Numerals.{write_nat, Digit, write_int, written_digits, read_count_lem, read_int_lem, cut_put, no_dots, int_dots}
use Rattle.table_rules.proofs.FreshNames.{fresh}
use Rattle.definition_rules.proofs.RunLaws.{kind_le}

unfoldable pub write_upper : ℕ → List ℕ
write_upper d = pick (eqb d 65535) (42 ∷ []) (write_nat d)

unfoldable pub write_count : ℕ → ℕ → List ℕ
write_count c d = write_nat c ++ (46 ∷ 46 ∷ write_upper d)

unfoldable pub write_range : ℕ → ℕ → List ℕ
write_range a b = write_int a ++ (46 ∷ 46 ∷ write_int b)

-- names of tops in order, and their numbers
unfoldable pub nth_run : List MaybeRun → ℕ → MaybeRun
nth_run [] i = absent
nth_run (o ∷ os) zero = o
nth_run (o ∷ os) (suc i) = nth_run os i

-- back: the declaration made of a record
unfoldable pub keyword_of : ℕ → List ℕ
keyword_of zero = []
keyword_of (suc zero) = kw_void
keyword_of (suc (suc zero)) = kw_bool
keyword_of (suc (suc (suc zero))) = kw_int
keyword_of (suc (suc (suc (suc zero)))) = kw_ascii
keyword_of (suc (suc (suc (suc (suc zero))))) = kw_unquoted
keyword_of (suc (suc (suc (suc (suc (suc zero)))))) = kw_date
keyword_of (suc (suc (suc (suc (suc (suc (suc zero))))))) = kw_time
keyword_of (suc (suc (suc (suc (suc (suc (suc (suc zero)))))))) = kw_struct
keyword_of (suc (suc (suc (suc (suc (suc (suc (suc (suc k))))))))) = kw_union

unfoldable pub run_bytes : MaybeRun → List ℕ
run_bytes absent = []
run_bytes (given v) = v

unfoldable pub type_for : List MaybeRun → ℕ → ℕ → List ℕ
type_for T k t = pick (eqb k 10) (run_bytes (nth_run T t)) (keyword_of k)

unfoldable pub shows : Up → Bool → Bool
shows u n = is_top u || n

unfoldable pub tag_for : Up → Bool → List ℕ → Tag
tag_for top n l = own_name
tag_for (under p) true l = tagless
tag_for (under p) false l = explicit l

unfoldable pub card_for : Bool → ℕ → ℕ → MaybeRun
card_for true c d = absent
card_for false c d = given (write_count c d)

unfoldable pub range_for : ℕ → ℕ → ℕ → MaybeRun
range_for k a b = pick (kind_takes_range k) (given (write_range a b)) absent

-- the rules for one record
pub record RecordSound (T : List MaybeRun) (A : ℕ → Bool) (k : ℕ) (u : Up) (n : Bool) (c d a b t : ℕ) (l : List ℕ) : Type 0 where
  pub kind_lo : 1 ≤ k
  pub kind_hi : k ≤ 10
  pub single_lo : is_single_value A u ≡ true → c ≡ 1
  pub single_hi : is_single_value A u ≡ true → d ≡ 1
  pub count_lo : c ≤ 65534
  pub count_mid : c ≤ d
  pub count_pos : 1 ≤ d
  pub count_hi : d ≤ 65535
  pub range_lo : kind_least k ≤ a
  pub range_mid : a ≤ b
  pub range_hi : b ≤ kind_most k
  pub to : eqb k 10 ≡ true → (w : List ℕ) × (nth_run T t ≡ given w) × (name_form w ≡ true)
  pub to_none : eqb k 10 ≡ false → t ≡ 65535

or_none_lem : (a b : Bool) → a || b ≡ false → (a ≡ false) × (b ≡ false)
or_none_lem false b e = (refl, e)
or_none_lem true b e = let x : ◌≡◌ {A = ℕ} 0 1 = cc in absurd (omega arith)

pub name_kind : (w : List ℕ) → name_form w ≡ true → kind_of_run w ≡ 10
unfolding name_form is_keyword
name_kind w e =
    let x = not-true (is_keyword w) (both_true (starts_with_letter w && every is_name_byte w && leb (length w) 63) (not (is_keyword w)) e).1 in
    let y = (or_none_lem (ltb (kind_of_run w) 10) (same_bytes kw_as w) (or_none_lem (ltb (kind_of_run w) 10 || same_bytes kw_as w) (same_bytes kw_plugin w) x).0).0 in
    omega (arith, ltb-false (kind_of_run w) 10 y, kind_le w)

keyword_kind : (k : ℕ) → 1 ≤ k → k ≤ 9 → kind_of_run (keyword_of k) ≡ k
unfolding keyword_of kind_of_run number_in number_if same_bytes
keyword_kind zero h l = absurd (omega arith)
keyword_kind (suc zero) h l = refl
keyword_kind (suc (suc zero)) h l = refl
keyword_kind (suc (suc (suc zero))) h l = refl
keyword_kind (suc (suc (suc (suc zero)))) h l = refl
keyword_kind (suc (suc (suc (suc (suc zero))))) h l = refl
keyword_kind (suc (suc (suc (suc (suc (suc zero)))))) h l = refl
keyword_kind (suc (suc (suc (suc (suc (suc (suc zero))))))) h l = refl
keyword_kind (suc (suc (suc (suc (suc (suc (suc (suc zero)))))))) h l = refl
keyword_kind (suc (suc (suc (suc (suc (suc (suc (suc (suc zero))))))))) h l = refl
keyword_kind (suc (suc (suc (suc (suc (suc (suc (suc (suc (suc k)))))))))) h l = absurd (omega arith)

no_star : (l : List ℕ) → All Digit l → same_bytes l (42 ∷ []) ≡ false
unfolding same_bytes All
no_star [] a = refl
no_star (b ∷ l) a = rw (ne_eqb b 42 (λ q. omega (arith, a.0)))

upper_back : (d : ℕ) → d ≤ 65535 → read_upper (write_upper d) ≡ number d
unfolding write_upper
upper_back d h = by (eqb d 65535) refl
  where
    by : (b : Bool) → eqb d 65535 ≡ b → read_upper (pick b (42 ∷ []) (write_nat d)) ≡ number d
    by true e = unfold pick read_upper same_bytes in (let x = eqb-true d 65535 e in rw x)
    by false e = unfold pick read_upper in (rw (no_star (write_nat d) (written_digits d)) (read_count_lem d (omega (arith, eqb-false d 65535 e))))

count_back : (c d : ℕ) → c ≤ count_limit → d ≤ 65535 → read_count_range (write_count c d) ≡ range c d
unfolding read_count_range write_count on_sides both_read
count_back c d l h = rw (cut_put (write_nat c) (write_upper d) (no_dots (write_nat c) (written_digits c))) (rw (read_count_lem c l, upper_back d h))

range_back : (a b : ℕ) → a < bias + bias → b < bias + bias → read_int_range (write_range a b) ≡ range a b
unfolding read_int_range write_range on_sides both_read
range_back a b h l = rw (cut_put (write_int a) (write_int b) (int_dots a)) (rw (read_int_lem a (omega arith), read_int_lem b (omega arith)))

-- the number of the top that a name finds
unfoldable pub NotAmong : List ℕ → List MaybeRun → Type 0
NotAmong w [] = Unit {0}
NotAmong w (o ∷ os) = (is_named o w ≡ false) × NotAmong w os

unfoldable pub DistinctTops : List MaybeRun → Type 0
DistinctTops [] = Unit {0}
DistinctTops (absent ∷ os) = DistinctTops os
DistinctTops (given v ∷ os) = NotAmong v os × DistinctTops os

fresh_at : (v w : List ℕ) (T : List MaybeRun) (t : ℕ) → NotAmong v T → nth_run T t ≡ given w → same_bytes v w ≡ false
unfolding nth_run NotAmong is_named
fresh_at v w [] t f e = cc
fresh_at v w (absent ∷ T) zero f e = cc
fresh_at v w (given x ∷ T) zero f e = let y : x ≡ w = cc in rw (← y) (turn x v f.0)
  where
    turn : (x v : List ℕ) → same_bytes x v ≡ false → same_bytes v x ≡ false
    turn x v e = by (same_bytes v x) refl
      where
        by : (b : Bool) → same_bytes v x ≡ b → b ≡ false
        by false q = refl
        by true q = let z = same_true v x q in let y : same_bytes x v ≡ true = rw z (bytes_self x) in cc
fresh_at v w (o ∷ T) (suc t) f e = fresh_at v w T t f.1 e

pub find_at : (T : List MaybeRun) (i t : ℕ) (w : List ℕ) → DistinctTops T → nth_run T t ≡ given w → find_top T i w ≡ number (i + t)
unfolding nth_run DistinctTops find_top is_named pick
find_at [] i t w f e = cc
find_at (absent ∷ T) i zero w f e = cc
find_at (given v ∷ T) i zero w f e = let y : v ≡ w = cc in rw (y, bytes_self w) (ap number (omega arith))
find_at (absent ∷ T) i (suc t) w f e = find_at T (suc i) t w f e ∙ ap number (omega arith)
find_at (given v ∷ T) i (suc t) w f e = rw (fresh_at v w T t f.0 e) (find_at T (suc i) t w f.1 e ∙ ap number (omega arith))

ranged_3 : kind_takes_range 3 ≡ true
unfolding kind_takes_range
ranged_3 = refl

ranged_5 : kind_takes_range 5 ≡ true
unfolding kind_takes_range
ranged_5 = refl

unranged : (k m : ℕ) → kind_takes_range k ≡ false → kind_takes_range m ≡ true → eqb k m ≡ false
unranged k m e f = ne_eqb k m (λ q. clash_bool (sym e ∙ (ap kind_takes_range q ∙ f)))

pub most_lt : (k : ℕ) → kind_most k < bias + bias
unfolding kind_most
most_lt k = by (eqb k 3) (kind_takes_range k)
  where
    by : (x y : Bool) → pick x 4294967295 (pick y (bias + 1024) bias) < bias + bias
    by true y = unfold pick in omega arith
    by false true = unfold pick in omega arith
    by false false = unfold pick in omega arith

no_range_lem : (k : ℕ) → kind_takes_range k ≡ false → (kind_least k ≡ bias) × (kind_most k ≡ bias)
unfolding kind_least kind_most pick
no_range_lem k e = rw (unranged k 3 e ranged_3, unranged k 5 e ranged_5, e) (refl, refl)

module _ (T : List MaybeRun) (A : ℕ → Bool) (k : ℕ) (u : Up) (n : Bool) (c d a b t : ℕ) (l : List ℕ) (o : DistinctTops T) (s : RecordSound T A k u n c d a b t l) where
  pub kind_is : kind_of_run (type_for T k t) ≡ k
  unfolding type_for
  kind_is = by (eqb k 10) refl
    where
      by : (b : Bool) → eqb k 10 ≡ b → kind_of_run (pick b (run_bytes (nth_run T t)) (keyword_of k)) ≡ k
      by true e = unfold pick run_bytes in (let x = s.to e in rw x.1 (name_kind x.0 x.2 ∙ sym (eqb-true k 10 e)))
      by false e = unfold pick in keyword_kind k s.kind_lo (let x = eqb-false k 10 e in let y = s.kind_hi in omega arith)

  target_is : target_of T k (type_for T k t) ≡ t
  unfolding target_of type_for
  target_is = by (eqb k 10) refl
    where
      by : (b : Bool) → eqb k 10 ≡ b → pick b (or_none (find_top T 0 (pick b (run_bytes (nth_run T t)) (keyword_of k)))) 65535 ≡ t
      by true e = unfold pick run_bytes or_none in (let x = s.to e in rw (x.1, find_at T 0 t x.0 o x.1) (omega arith))
      by false e = unfold pick in sym (s.to_none e)

  pub count_is : count_range_of (card_for (is_single_value A u) c d) ≡ range c d
  count_is = by (is_single_value A u) refl
    where
      by : (b : Bool) → is_single_value A u ≡ b → count_range_of (card_for b c d) ≡ range c d
      by true e = unfold count_range_of card_for in (rw (s.single_lo e, s.single_hi e))
      by false e = unfold count_range_of card_for in (count_back c d s.count_lo s.count_hi)

  pub range_is : limits_of k (range_for k a b) ≡ range a b
  unfolding range_for
  range_is = by (kind_takes_range k) refl
    where
      by : (r : Bool) → kind_takes_range k ≡ r → limits_of k (pick r (given (write_range a b)) absent) ≡ range a b
      by true e = unfold pick limits_of in (let x = most_lt k in range_back a b (omega (arith, s.range_mid, s.range_hi)) (omega (arith, s.range_hi)))
      by false e = unfold pick limits_of kind_least kind_most in (let x = no_range_lem k e in let y : a ≡ bias = omega (arith, s.range_lo, s.range_mid, s.range_hi) in let z : b ≡ bias = omega (arith, s.range_lo, s.range_mid, s.range_hi) in rw (y, z, unranged k 3 e ranged_3, unranged k 5 e ranged_5, e))

label_is : (u : Up) (n : Bool) (l m : List ℕ) → label_of (pick (shows u n) l m) (tag_for u n l) ≡ l
unfolding label_of tag_for shows is_top pick
label_is top n l m = refl
label_is (under p) true l m = refl
label_is (under p) false l m = refl

abbrev pub TopTagged : Up → Bool → Type 0
TopTagged u n = u ≡ top → n ≡ false

tagless_is : (u : Up) (n : Bool) (l : List ℕ) → TopTagged u n → is_tagless (tag_for u n l) ≡ n
unfolding is_tagless tag_for
tagless_is top n l f = sym (f refl)
tagless_is (under p) true l f = refl
tagless_is (under p) false l f = refl

-- ---- the declaration made of a record: explicit tags, a fresh name where the table shows none

unfoldable pub declaration_for : List MaybeRun → (ℕ → Bool) → ℕ → ℕ → Record → Declaration
declaration_for T A q i r = declaration r.parent r.extension (heading (type_for T r.kind r.target) (range_for r.kind r.least r.most) (pick (shows r.parent r.untagged) r.label (fresh q i)) (card_for (is_single_value A r.parent) r.lo_count r.hi_count) (tag_for r.parent r.untagged r.label) r.plugin)

abbrev pub SoundRecord : List MaybeRun → (ℕ → Bool) → Record → Type 0
SoundRecord T A r = RecordSound T A r.kind r.parent r.untagged r.lo_count r.hi_count r.least r.most r.target r.label

-- the rules for one record of the table
abbrev pub RecordOk : List MaybeRun → (ℕ → Bool) → Record → Type 0
RecordOk T A r = SoundRecord T A r × TopTagged r.parent r.untagged

pub type_kind_lem : (T : List MaybeRun) (A : ℕ → Bool) (r : Record) → DistinctTops T → SoundRecord T A r → kind_of_run (type_for T r.kind r.target) ≡ r.kind
type_kind_lem T A r o s = kind_is T A r.kind r.parent r.untagged r.lo_count r.hi_count r.least r.most r.target r.label o s

record_back : (T : List MaybeRun) (A : ℕ → Bool) (q i : ℕ) (r : Record) → DistinctTops T → RecordOk T A r → record_for T (declaration_for T A q i r) ≡ r
unfolding record_for declaration_for low_of high_of
record_back T A q i r o s =
    rw (type_kind_lem T A r o s.0, target_is T A r.kind r.parent r.untagged r.lo_count r.hi_count r.least r.most r.target r.label o s.0, count_is T A r.kind r.parent r.untagged r.lo_count r.hi_count r.least r.most r.target r.label o s.0, range_is T A r.kind r.parent r.untagged r.lo_count r.hi_count r.least r.most r.target r.label o s.0, tagless_is r.parent r.untagged r.label s.1, label_is r.parent r.untagged r.label (fresh q i))

-- ---- whole tables

unfoldable pub top_if : Up → List ℕ → MaybeRun
top_if top l = given l
top_if (under x) l = absent

unfoldable pub record_tops : List Record → List MaybeRun
record_tops [] = []
record_tops (r ∷ rs) = top_if r.parent r.label ∷ record_tops rs

unfoldable pub declarations_for : List MaybeRun → (ℕ → Bool) → ℕ → ℕ → List Record → List Declaration
declarations_for T A q i [] = []
declarations_for T A q i (r ∷ rs) = declaration_for T A q i r ∷ declarations_for T A q (suc i) rs

pub tops_made : (T : List MaybeRun) (A : ℕ → Bool) (q i : ℕ) (rs : List Record) → top_names (declarations_for T A q i rs) ≡ record_tops rs
unfolding top_names declarations_for record_tops declaration_for
tops_made T A q i [] = refl
tops_made T A q i (r ∷ rs) = rw (tops_made T A q (suc i) rs) (by r.parent r.untagged r.extension)
  where
    by : (u : Up) (n e : Bool) → top_name (declaration u e (heading (type_for T r.kind r.target) (range_for r.kind r.least r.most) (pick (shows u n) r.label (fresh q i)) (card_for (is_single_value A u) r.lo_count r.hi_count) (tag_for u n r.label) r.plugin)) ∷ record_tops rs ≡ top_if u r.label ∷ record_tops rs
    by top n e = unfold top_name top_if shows is_top pick in refl
    by (under x) n e = unfold top_name top_if in refl

pub records_made : (T : List MaybeRun) (A : ℕ → Bool) (q i : ℕ) (rs : List Record) → DistinctTops T → All (RecordOk T A) rs → records_for T (declarations_for T A q i rs) ≡ rs
unfolding records_for declarations_for All
records_made T A q i [] o h = refl
records_made T A q i (r ∷ rs) o h = rw (record_back T A q i r o h.0, records_made T A q (suc i) rs o h.1)
