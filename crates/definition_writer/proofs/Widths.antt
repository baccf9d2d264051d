-- The numbers of a declaration's record fit the widths that the table gives them. Assumes nothing.
use Rattle.std.specs.Prelude.{None}
use mathlib.Core.Path.{◌≡◌, refl, ap}
use mathlib.Core.Bool.{Bool, true, false, not, ◌&&◌}
use mathlib.Core.List.{List, [], ◌∷◌, ◌++◌}
use Prim.Native.Nat.{ℕ, zero, suc, ◌+◌, ◌<◌, ◌≤◌}
use native.Mathlib.Nat.{zero-add, add-zero}
use native.Mathlib.Omega.{arith}
use lib.Dec.{eqb, leb}
use lib.ListN.{length}
use borrow.Author.Tests.{eqb-false, leb-true, not-false}
use Rattle.classes.specs.Lists.{pick, every, not_empty, same_bytes, All}
use Rattle.classes.proofs.Rows.{both_nil}
use Rattle.classes.specs.Bytes.{is_name_byte, is_tag_byte}
use Rattle.numbers.specs.Limits.{none16, label_limit, bias, int_most, count_limit}
use Rattle.numbers.specs.Decimal.{is_int, is_natural, int_within, biased_int, number_of}
use Rattle.numbers.specs.Range.{MaybeNumber, unread, number, number_when, read_int, read_count, read_upper, Sides, uncut, sides, on_sides, cut_range, MaybeRange, no_range, low_of, high_of, both_read, read_int_range, read_count_range}
use Rattle.numbers.proofs.Digits.{and_right, within_most}
use Rattle.reading_rules.specs.Record.{Record, top, under}
use Rattle.definition_rules.specs.Words.{kind_takes_range, name_form, tag_form, is_keyword, starts_with_letter}
use Rattle.definition_rules.specs.Forms.{MaybeRun, absent, given, Tag, own_name, tagless, explicit}
use Rattle.definition_rules.specs.Declarations.{Declaration, Spots, Noted, noted, declarations_of}
use Rattle.definition_rules.specs.Records.{kind_least, kind_most, limits_of, count_range_of, top_names, is_named, find_top, or_none, target_of, label_of, record_for, records_for, records_of}
use Rattle.definition_rules.specs.Table.{up_number, number_up, Storable}
use Rattle.definition_rules.specs.Faults.{spots_where, name_broken, tag_broken, tag_broken_in, reference_broken, faults5}
use Rattle.definition_cells.specs.Cells.{cell_at, run_at, tag_at, maybe_run_at, noted_at, noted_from}
use Rattle.definition_cells.specs.Places.{least_place}
use Rattle.definition_headings.specs.Heads.{declared_kind, label_at, names_from}
use Rattle.definition_writer.specs.Written.{declaration_in, record_written, records_written}
use Rattle.definition_rules.proofs.RunLaws.{kind_le}
use Rattle.definition_rules.proofs.ScanLaws.{place_none}
use Rattle.definition_cells.proofs.PlaceLaws.{least_none}

-- ---- numbers that were read

Within : ℕ → MaybeNumber → Type 0
Within b unread = Unit {0}
Within b (number n) = n ≤ b

abbrev pub Both : ℕ → MaybeRange → Type 0
Both b x = (low_of x ≤ b) × (high_of x ≤ b)

when_within : (b : ℕ) (c : Bool) (n : ℕ) → (c ≡ true → n ≤ b) → Within b (number_when c n)
unfolding number_when Within
when_within b true n h = h refl
when_within b false n h = tt

both_within : (b : ℕ) (x y : MaybeNumber) → Within b x → Within b y → Both b (both_read x y)
unfolding both_read Within low_of high_of
both_within b unread y h g = (omega arith, omega arith)
both_within b (number n) unread h g = (omega arith, omega arith)
both_within b (number n) (number m) h g = (h, g)

sides_within : (b : ℕ) (x : Sides) (f : List ℕ → List ℕ → MaybeRange) → ((u v : List ℕ) → Both b (f u v)) → Both b (on_sides x no_range f)
unfolding on_sides low_of high_of
sides_within b uncut f h = (omega arith, omega arith)
sides_within b (sides u v) f h = h u v

int_within_lem : (w : List ℕ) → Within int_most (read_int w)
unfolding read_int
int_within_lem w = when_within int_most (is_int w && int_within 0 int_most w) (biased_int w) (λ e. within_most w (and_right (is_int w) (int_within 0 int_most w) e))

count_within : (w : List ℕ) → Within none16 (read_count w)
unfolding read_count
count_within w = when_within none16 (is_natural w && leb (number_of w) count_limit) (number_of w) (λ e. omega (arith, leb-true (number_of w) count_limit (and_right (is_natural w) (leb (number_of w) count_limit) e)))

upper_within : (w : List ℕ) → Within none16 (read_upper w)
unfolding read_upper
upper_within w = by (same_bytes w (42 ∷ []))
  where
    by : (b : Bool) → Within none16 (pick b (number none16) (read_count w))
    by true = unfold pick Within in omega arith
    by false = unfold pick in count_within w

int_range : (w : List ℕ) → Both int_most (read_int_range w)
unfolding read_int_range
int_range w = sides_within int_most (cut_range w) (λ u v. both_read (read_int u) (read_int v)) (λ u v. both_within int_most (read_int u) (read_int v) (int_within_lem u) (int_within_lem v))

count_range : (w : List ℕ) → Both none16 (read_count_range w)
unfolding read_count_range
count_range w = sides_within none16 (cut_range w) (λ u v. both_read (read_count u) (read_upper v)) (λ u v. both_within none16 (read_count u) (read_upper v) (count_within u) (upper_within v))

-- ---- of a declaration

limits_within : (k : ℕ) (g : MaybeRun) → Both int_most (limits_of k g)
unfolding limits_of kind_least kind_most low_of high_of
limits_within k absent = (low (eqb k 3) (eqb k 5), high (eqb k 3) (kind_takes_range k))
  where
    low : (a b : Bool) → pick a 0 (pick b (bias + 1) bias) ≤ int_most
    low true b = unfold pick in omega arith
    low false true = unfold pick in omega arith
    low false false = unfold pick in omega arith

    high : (a b : Bool) → pick a int_most (pick b (bias + 1024) bias) ≤ int_most
    high true b = unfold pick in omega arith
    high false true = unfold pick in omega arith
    high false false = unfold pick in omega arith
limits_within k (given w) = int_range w

counts_within : (c : MaybeRun) → Both none16 (count_range_of c)
unfolding count_range_of low_of high_of
counts_within absent = (omega arith, omega arith)
counts_within (given w) = count_range w

find_within : (T : List MaybeRun) (i b : ℕ) (w : List ℕ) → i + length T ≤ b → Within b (find_top T i w)
unfolding find_top Within
find_within [] i b w h = tt
find_within (o ∷ T) i b w h = by (is_named o w) (find_within T (suc i) b w (omega arith))
  where
    by : (c : Bool) → Within b (find_top T (suc i) w) → Within b (pick c (number i) (find_top T (suc i) w))
    by true g = unfold pick Within in omega arith
    by false g = unfold pick in g

target_within : (T : List MaybeRun) (k : ℕ) (w : List ℕ) → length T ≤ none16 → target_of T k w ≤ none16
unfolding target_of
target_within T k w h = by (eqb k 10)
  where
    or : (x : MaybeNumber) → Within none16 x → or_none x ≤ none16
    or unread h = unfold or_none in omega arith
    or (number n) h = unfold or_none Within in h

    by : (b : Bool) → pick b (or_none (find_top T 0 w)) none16 ≤ none16
    by true = unfold pick in or (find_top T 0 w) (find_within T 0 none16 w (omega arith))
    by false = unfold pick in omega arith

names_length : (t cs : List ℕ) (n i : ℕ) → length (names_from t cs n i) ≡ n
unfolding noted_from noted_at declarations_of top_names
names_length t cs zero i = refl
names_length t cs (suc n) i = ap suc (names_length t cs n (suc i))

up_narrow : (x : ℕ) → x ≤ none16 → up_number (number_up x) ≤ none16
unfolding number_up
up_narrow x h = by (eqb x none16)
  where
    by : (b : Bool) → up_number (pick b top (under x)) ≤ none16
    by true = unfold pick up_number in omega arith
    by false = unfold pick up_number in h

-- only a top has the number 65,535
up_storable : (x : ℕ) → up_number (number_up x) ≡ none16 → number_up x ≡ top
unfolding number_up
up_storable x = by (eqb x none16) refl
  where
    by : (b : Bool) → eqb x none16 ≡ b → up_number (pick b top (under x)) ≡ none16 → pick b top (under x) ≡ top
    by true e h = unfold pick in refl
    by false e h = absurd (eqb-false x none16 e (unfold pick up_number in h))

-- ---- the records

-- the sizes that the first refusals leave: at most 256 declarations, parents as u16, labels of at most 63 bytes
pub record Fit (t cs : List ℕ) (n : ℕ) : Type 0 where
  pub few : n ≤ 256
  pub parents : (i : ℕ) → i < n → cell_at cs i 15 ≤ none16
  pub labels : (i : ℕ) → i < n → length (label_at t cs i) ≤ label_limit

pub record Narrow (r : Record) : Type 0 where
  pub kinds : r.kind ≤ none16
  pub parents : up_number r.parent ≤ none16
  pub los : r.lo_count ≤ none16
  pub his : r.hi_count ≤ none16
  pub targets : r.target ≤ none16
  pub labels : length r.label ≤ label_limit

module _ (t cs : List ℕ) (n i : ℕ) where
  narrow : Fit t cs n → i < n → Narrow (record_written t cs n i)
  unfolding record_written record_for noted_at declaration_in
  narrow f h = record {
    kinds = omega (arith, kind_le (run_at t cs i 0));
    parents = up_narrow (cell_at cs i 15) (f.parents i h);
    los = (counts_within (maybe_run_at t cs i 11 6)).0;
    his = (counts_within (maybe_run_at t cs i 11 6)).1;
    targets = target_within (names_from t cs n 0) (declared_kind t cs i) (run_at t cs i 0) (omega (arith, names_length t cs n 0, f.few));
    labels = f.labels i h;
  }

  storable : Storable (record_written t cs n i)
  unfolding record_written record_for noted_at declaration_in
  storable =
      (up_storable (cell_at cs i 15), omega (arith, (limits_within (declared_kind t cs i) (maybe_run_at t cs i 10 2)).0), omega (arith, (limits_within (declared_kind t cs i) (maybe_run_at t cs i 10 2)).1))

-- what holds of each declaration's record holds of all
all_from : (P : Record → Type 0) (t cs : List ℕ) (n m i : ℕ) → ((j : ℕ) → j < i + m → P (record_written t cs n j)) → All P (records_for (names_from t cs n 0) (declarations_of (noted_from t cs m i)))
unfolding All record_written noted_from
all_from P t cs n zero i h = unfold declarations_of records_for in tt
all_from P t cs n (suc m) i h = one (noted_at t cs i) (h i (omega arith)) (all_from P t cs n m (suc i) (λ j l. h j (omega arith)))
  where
    one : (x : Noted) → P (record_for (names_from t cs n 0) (declaration_in x)) → All P (records_for (names_from t cs n 0) (declarations_of (noted_from t cs m (suc i))))
        → All P (records_for (names_from t cs n 0) (declarations_of (x ∷ noted_from t cs m (suc i))))
    one (noted s d) p q = unfold declarations_of records_for declaration_in in (p, q)

module _ (t cs : List ℕ) (n : ℕ) where
  pub all_narrow : Fit t cs n → All Narrow (records_written t cs n)
  unfolding records_of
  all_narrow f = all_from Narrow t cs n n 0 (λ j h. narrow t cs n j f (omega arith))

  pub all_storable : All Storable (records_written t cs n)
  unfolding records_of
  all_storable = all_from Storable t cs n n 0 (λ j h. storable t cs n j)

-- ---- labels, where number 5 finds nothing

spot_none : (f : Declaration → Bool) (at : Spots → ℕ) (x : Noted) (ns : List Noted) → spots_where f at (x ∷ ns) ≡ [] → (f (declaration_in x) ≡ false) × (spots_where f at ns ≡ [])
unfolding spots_where declaration_in
spot_none f at (noted s d) ns e = place_none (f d) (at s) (spots_where f at ns) e

spots_none : (f : Declaration → Bool) (at : Spots → ℕ) (t cs : List ℕ) (n i j : ℕ) → spots_where f at (noted_from t cs n i) ≡ [] → j < n → f (declaration_in (noted_at t cs (i + j))) ≡ false
unfolding noted_from
spots_none f at t cs zero i j e h = absurd (omega arith)
spots_none f at t cs (suc n) i zero e h = rw (add-zero i) (spot_none f at (noted_at t cs i) (noted_from t cs n (suc i)) e).0
spots_none f at t cs (suc n) i (suc j) e h =
    let z : i + suc j ≡ suc i + j = omega arith in
    rw z (spots_none f at t cs n (suc i) j (spot_none f at (noted_at t cs i) (noted_from t cs n (suc i)) e).1 (omega arith))

and_left : (p q : Bool) → p && q ≡ true → p ≡ true
and_left true q e = refl
and_left false q e = e

name_short : (w : List ℕ) → name_form w ≡ true → length w ≤ label_limit
unfolding name_form
name_short w e =
    leb-true (length w) label_limit (and_right (starts_with_letter w && every is_name_byte w) (leb (length w) label_limit)
    (and_left (starts_with_letter w && every is_name_byte w && leb (length w) label_limit) (not (is_keyword w)) e))

tag_short : (w : List ℕ) → tag_form w ≡ true → length w ≤ label_limit
unfolding tag_form
tag_short w e = leb-true (length w) label_limit (and_right (not_empty w && every is_tag_byte w) (leb (length w) label_limit) e)

label_short : (n : List ℕ) (g : Tag) → name_form n ≡ true → tag_broken_in g ≡ false → length (label_of n g) ≤ label_limit
unfolding label_of tag_broken_in
label_short n own_name h e = name_short n h
label_short n tagless h e = name_short n h
label_short n (explicit v) h e = tag_short v (not-false (tag_form v) e)

pub labels_short : (t cs : List ℕ) (n : ℕ) → least_place (faults5 (noted_from t cs n 0)) ≡ None → (i : ℕ) → i < n → length (label_at t cs i) ≤ label_limit
labels_short t cs n e i h =
    label_short (run_at t cs i 4) (tag_at t cs i)
    (not-false (name_form (run_at t cs i 4)) (name (both_nil A (B ++ C) (least_none (A ++ (B ++ C)) e)).0))
    (tag (both_nil B C (both_nil A (B ++ C) (least_none (A ++ (B ++ C)) e)).1).1)
  where
    A : List ℕ
    A = spots_where name_broken (λ s. s.name_at) (noted_from t cs n 0)

    B : List ℕ
    B = spots_where reference_broken (λ s. s.type_at) (noted_from t cs n 0)

    C : List ℕ
    C = spots_where tag_broken (λ s. s.tag_at) (noted_from t cs n 0)

    name : A ≡ [] → not (name_form (run_at t cs i 4)) ≡ false
    name q = unfold name_broken noted_at declaration_in in (rw (zero-add i) at (spots_none name_broken (λ s. s.name_at) t cs n 0 i q h))

    tag : C ≡ [] → tag_broken_in (tag_at t cs i) ≡ false
    tag q = unfold tag_broken noted_at declaration_in in (rw (zero-add i) at (spots_none tag_broken (λ s. s.tag_at) t cs n 0 i q h))
