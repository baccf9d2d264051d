-- The checks over plain lists: one declaration, then all. Assumes nothing.
use Rattle.std.specs.Prelude.{Option}
use mathlib.Core.Path.{◌≡◌, refl, sym, ap, ◌∙◌}
use mathlib.Core.Bool.{Bool, true, false, not, ◌&&◌, ◌||◌}
use mathlib.Core.List.{List, [], ◌∷◌, ◌++◌}
use Prim.Native.Nat.{ℕ, zero, suc, ◌+◌, ◌-◌, ◌<◌, ◌≤◌}
use native.Mathlib.Nat.{zero-add, add-zero}
use native.Mathlib.Omega.{arith}
use lib.Dec.{eqb, ltb}
use borrow.Author.Tests.{eq-eqb, ne_eqb, eqb-true, eqb-false, ltb-true, ltb-false, lt-ltb, le-ltb}
use Rattle.classes.specs.Lists.{pick}
use Rattle.numbers.specs.Limits.{none16}
use Rattle.numbers.specs.Range.{high_of}
use Rattle.reading_rules.specs.Record.{top, under, same_up}
use Rattle.definition_rules.specs.Words.{is_reference}
use Rattle.definition_rules.specs.Scan.{place_if}
use Rattle.definition_rules.specs.Forms.{MaybeRun, absent, given}
use Rattle.definition_rules.specs.Declarations.{Declaration, Spots, Noted, noted, declarations_of}
use Rattle.definition_rules.specs.Records.{record_for, records_for, records_of, find_top, or_none, target_of}
use Rattle.definition_rules.specs.Table.{number_up}
use Rattle.definition_rules.specs.Faults.{spots_where, record_spots, name_broken, reference_broken, tag_broken, range_broken, count_broken, count_fine, kind_of_declaration, kinds_of, is_union_at, is_alternative, is_given, count_on_alternative, void_many, same_key, is_new_key, name_key, repeated_names, dangling, faults5, faults6}
use Rattle.definition_cells.specs.Cells.{cell_at, run_at, tag_at, maybe_run_at, noted_at, noted_from}
use Rattle.definition_cells.specs.Places.{least_place, lesser, at_if, least_from, spot_of}
use Rattle.definition_cells.proofs.PlaceLaws.{lesser_same, least_if, least_append, from_both, from_same, spots_from}
use Rattle.definition_headings.specs.Heads.{declared_kind, counts_at, names_from, target_at}
use Rattle.definition_checks.specs.Checks.{form_fault, on_alternative, card_broken, range_fault, key_at, keys_below, same_key_at, repeat_fault, dangling_fault}

-- ---- 5

pub form_all : (t cs : List ℕ) (n : ℕ) → least_place (faults5 (noted_from t cs n 0)) ≡ least_from (form_fault t cs) n 0
unfolding form_fault
form_all t cs n =
    least_append A (B ++ C)
    ∙ (rw (least_append B C, spots_from name_broken (λ s. s.name_at) t cs n 0, spots_from reference_broken (λ s. s.type_at) t cs n 0, spots_from tag_broken (λ s. s.tag_at) t cs n 0)
    (ap (lesser (least_from f n 0)) (from_both g h n 0) ∙ from_both f (λ j. lesser (g j) (h j)) n 0))
  where
    A : List ℕ
    A = spots_where name_broken (λ s. s.name_at) (noted_from t cs n 0)

    B : List ℕ
    B = spots_where reference_broken (λ s. s.type_at) (noted_from t cs n 0)

    C : List ℕ
    C = spots_where tag_broken (λ s. s.tag_at) (noted_from t cs n 0)

    f : ℕ → Option ℕ
    f j = spot_of name_broken (λ s. s.name_at) (noted_at t cs j)

    g : ℕ → Option ℕ
    g j = spot_of reference_broken (λ s. s.type_at) (noted_at t cs j)

    h : ℕ → Option ℕ
    h j = spot_of tag_broken (λ s. s.tag_at) (noted_at t cs j)

-- ---- 8

-- two parents as numbers
up_same : (x y : ℕ) → same_up (number_up x) (number_up y) ≡ eqb x y
unfolding number_up
up_same x y = by (eqb x none16) (eqb y none16) refl refl
  where
    by : (a b : Bool) → eqb x none16 ≡ a → eqb y none16 ≡ b → same_up (pick a top (under x)) (pick b top (under y)) ≡ eqb x y
    by true true p q = unfold pick same_up in sym (eq-eqb x y (eqb-true x none16 p ∙ sym (eqb-true y none16 q)))
    by true false p q = unfold pick same_up in sym (ne_eqb x y (λ e. eqb-false y none16 q (sym e ∙ eqb-true x none16 p)))
    by false true p q = unfold pick same_up in sym (ne_eqb x y (λ e. eqb-false x none16 p (e ∙ eqb-true y none16 q)))
    by false false p q = unfold pick same_up in refl

pub key_same : (t cs : List ℕ) (i j : ℕ) → same_key (key_at t cs i) (key_at t cs j) ≡ same_key_at t cs i j
unfolding same_key
key_same t cs i j = rw (up_same (cell_at cs i 15) (cell_at cs j 15))

module _ (t cs : List ℕ) (i j : ℕ) where
  below : 0 < j → is_new_key (key_at t cs i) (keys_below t cs j) ≡ (not (same_key_at t cs i (j - 1)) && is_new_key (key_at t cs i) (keys_below t cs (j - 1)))
  unfolding keys_below is_new_key
  below h = let p : j ≡ suc (j - 1) = omega arith in ap (λ x. is_new_key (key_at t cs i) (keys_below t cs x)) p ∙ rw (key_same t cs i (j - 1))

  pub below_same : 0 < j → same_key_at t cs i (j - 1) ≡ true → not (is_new_key (key_at t cs i) (keys_below t cs j)) ≡ true
  below_same h e = ap not (below h) ∙ rw e

  pub below_other : 0 < j → same_key_at t cs i (j - 1) ≡ false → not (is_new_key (key_at t cs i) (keys_below t cs j)) ≡ not (is_new_key (key_at t cs i) (keys_below t cs (j - 1)))
  below_other h e = ap not (below h) ∙ rw e

  pub below_end : j ≤ 0 → not (is_new_key (key_at t cs i) (keys_below t cs j)) ≡ false
  unfolding keys_below is_new_key
  below_end h = let p : j ≡ 0 = omega arith in rw p

repeat_from : (t cs : List ℕ) (n i : ℕ) → least_place (repeated_names (keys_below t cs i) (noted_from t cs n i)) ≡ least_from (repeat_fault t cs) n i
unfolding repeated_names noted_from least_place least_from
repeat_from t cs zero i = refl
repeat_from t cs (suc n) i = one ∙ ap (lesser (repeat_fault t cs i)) (repeat_from t cs n (suc i))
  where
    one : least_place (repeated_names (keys_below t cs i) (noted_at t cs i ∷ noted_from t cs n (suc i))) ≡ lesser (repeat_fault t cs i) (least_place (repeated_names (keys_below t cs (suc i)) (noted_from t cs n (suc i))))
    one = unfold noted_at name_key repeat_fault keys_below in least_if (not (is_new_key (key_at t cs i) (keys_below t cs i))) (cell_at cs i 4) (repeated_names (keys_below t cs (suc i)) (noted_from t cs n (suc i)))

pub repeat_all : (t cs : List ℕ) (n : ℕ) → least_place (repeated_names [] (noted_from t cs n 0)) ≡ least_from (repeat_fault t cs) n 0
unfolding keys_below
repeat_all t cs n = repeat_from t cs n 0

-- ---- 9

-- lost where it is a reference and its target is none
lost : (b : Bool) (x : ℕ) → (b && eqb (pick b x none16) none16) ≡ (b && eqb x none16)
unfolding pick
lost true x = refl
lost false x = refl

pub dangling_is : (t cs : List ℕ) (n i k x p : ℕ) (r : Option ℕ) → k ≡ declared_kind t cs i → x ≡ target_at t cs n i → p ≡ cell_at cs i 0 → r ≡ at_if (eqb k 10 && eqb x none16) p → r ≡ dangling_fault t cs n i
unfolding dangling_fault spot_of dangling noted_at is_reference target_of
dangling_is t cs n i k x p r ek ex ep er = er ∙ rw (ep, ex, ek) (ap (λ b. at_if b (cell_at cs i 0)) (lost (eqb (declared_kind t cs i) 10) (or_none (find_top (names_from t cs n 0) 0 (run_at t cs i 0)))))

pub dangling_all : (t cs : List ℕ) (n : ℕ) → least_place (spots_where (dangling (names_from t cs n 0)) (λ s. s.type_at) (noted_from t cs n 0)) ≡ least_from (dangling_fault t cs n) n 0
unfolding dangling_fault
dangling_all t cs n = spots_from (dangling (names_from t cs n 0)) (λ s. s.type_at) t cs n 0

-- ---- 6

suc_ltb : (p n : ℕ) → ltb (suc p) (suc n) ≡ ltb p n
suc_ltb p n = by (ltb p n) refl
  where
    by : (b : Bool) → ltb p n ≡ b → ltb (suc p) (suc n) ≡ b
    by true e = let h : p < n = ltb-true p n e in lt-ltb (suc p) (suc n) (omega arith)
    by false e = let h : n ≤ p = ltb-false p n e in le-ltb (suc p) (suc n) (omega arith)

-- unions by number
union_at_lem : (t cs : List ℕ) (n i p : ℕ) → is_union_at (kinds_of (declarations_of (noted_from t cs n i))) p ≡ (ltb p n && eqb (declared_kind t cs (i + p)) 9)
unfolding noted_from declarations_of kinds_of is_union_at noted_at kind_of_declaration
union_at_lem t cs zero i p = rw (le-ltb p 0 (omega arith))
union_at_lem t cs (suc n) i zero = rw (lt-ltb 0 (suc n) (omega arith), add-zero i)
union_at_lem t cs (suc n) i (suc p) = let q : i + suc p ≡ suc i + p = omega arith in union_at_lem t cs n (suc i) p ∙ rw (q, suc_ltb p n)

up_alternative : (f : ℕ → Bool) (x : ℕ) → is_alternative f (number_up x) ≡ (not (eqb x none16) && f x)
unfolding number_up
up_alternative f x = by (eqb x none16)
  where
    by : (b : Bool) → is_alternative f (pick b top (under x)) ≡ (not b && f x)
    by true = unfold pick is_alternative in refl
    by false = unfold pick is_alternative in refl

is_given_lem : (b : Bool) (w : List ℕ) → is_given (pick b (given w) absent) ≡ b
unfolding pick is_given
is_given_lem true w = refl
is_given_lem false w = refl

on_alternative_lem : (t cs : List ℕ) (n i : ℕ)
    → (is_alternative (is_union_at (kinds_of (declarations_of (noted_from t cs n 0)))) (number_up (cell_at cs i 15)) && is_given (maybe_run_at t cs i 11 6)) ≡ on_alternative t cs n i
unfolding maybe_run_at
on_alternative_lem t cs n i =
    rw (up_alternative (is_union_at (kinds_of (declarations_of (noted_from t cs n 0)))) (cell_at cs i 15), union_at_lem t cs n 0 (cell_at cs i 15), is_given_lem (eqb (cell_at cs i 11) 1) (run_at t cs i 6), zero-add (cell_at cs i 15))

abbrev many_in : List MaybeRun → Declaration → Bool
many_in T d = void_many 0 (record_for T d)

many_spots : (T : List MaybeRun) (at : Spots → ℕ) (k : ℕ) (ns : List Noted) → record_spots void_many at k (records_for T (declarations_of ns)) ns ≡ spots_where (many_in T) at ns
unfolding record_spots records_for declarations_of spots_where void_many
many_spots T at k [] = refl
many_spots T at k (noted s d ∷ ns) = ap (place_if (void_many k (record_for T d)) (at s)) (many_spots T at (suc k) ns)

card_one : (t cs : List ℕ) (n i : ℕ)
    → lesser (spot_of count_broken (λ s. s.card_at) (noted_at t cs i)) (lesser (spot_of (many_in (names_from t cs n 0)) (λ s. s.card_at) (noted_at t cs i))
    (spot_of (count_on_alternative (kinds_of (declarations_of (noted_from t cs n 0)))) (λ s. s.card_at) (noted_at t cs i))) ≡ at_if (card_broken t cs n i) (cell_at cs i 6)
unfolding spot_of count_broken void_many record_for count_on_alternative noted_at
card_one t cs n i =
    ap (lesser (at_if a p)) (lesser_same b c p) ∙ (lesser_same a (b || c) p ∙ rw (on_alternative_lem t cs n i))
  where
    p : ℕ
    p = cell_at cs i 6

    a : Bool
    a = not (count_fine (counts_at t cs i))

    b : Bool
    b = eqb (declared_kind t cs i) 1 && ltb 1 (high_of (counts_at t cs i))

    c : Bool
    c = is_alternative (is_union_at (kinds_of (declarations_of (noted_from t cs n 0)))) (number_up (cell_at cs i 15)) && is_given (maybe_run_at t cs i 11 6)

pub range_all : (t cs : List ℕ) (n : ℕ) → least_place (faults6 (records_of (declarations_of (noted_from t cs n 0))) (noted_from t cs n 0)) ≡ least_from (range_fault t cs n) n 0
unfolding records_of range_fault
range_all t cs n =
    rw (many_spots T (λ s. s.card_at) 0 (noted_from t cs n 0))
    (least_append (spots range_broken (λ s. s.range_at)) (spots count_broken (λ s. s.card_at) ++ (spots (many_in T) (λ s. s.card_at) ++ spots (count_on_alternative ks) (λ s. s.card_at)))
    ∙ (rw (
      least_append (spots count_broken (λ s. s.card_at)) (spots (many_in T) (λ s. s.card_at) ++ spots (count_on_alternative ks) (λ s. s.card_at)),
      least_append (spots (many_in T) (λ s. s.card_at)) (spots (count_on_alternative ks) (λ s. s.card_at)),
      spots_from range_broken (λ s. s.range_at) t cs n 0,
      spots_from count_broken (λ s. s.card_at) t cs n 0,
      spots_from (many_in T) (λ s. s.card_at) t cs n 0,
      spots_from (count_on_alternative ks) (λ s. s.card_at) t cs n 0,
    )
    (ap (λ x. lesser (least_from f n 0) (lesser (least_from g n 0) x)) (from_both h k n 0)
    ∙ (ap (lesser (least_from f n 0)) (from_both g (λ j. lesser (h j) (k j)) n 0)
    ∙ (from_both f (λ j. lesser (g j) (lesser (h j) (k j))) n 0
    ∙ from_same (λ j. lesser (f j) (lesser (g j) (lesser (h j) (k j)))) (λ j. lesser (f j) (at_if (card_broken t cs n j) (cell_at cs j 6))) (λ j. ap (lesser (f j)) (card_one t cs n j)) n 0)))))
  where
    T : List MaybeRun
    T = names_from t cs n 0

    ks : List ℕ
    ks = kinds_of (declarations_of (noted_from t cs n 0))

    spots : (Declaration → Bool) → (Spots → ℕ) → List ℕ
    spots z at = spots_where z at (noted_from t cs n 0)

    f : ℕ → Option ℕ
    f j = spot_of range_broken (λ s. s.range_at) (noted_at t cs j)

    g : ℕ → Option ℕ
    g j = spot_of count_broken (λ s. s.card_at) (noted_at t cs j)

    h : ℕ → Option ℕ
    h j = spot_of (many_in T) (λ s. s.card_at) (noted_at t cs j)

    k : ℕ → Option ℕ
    k j = spot_of (count_on_alternative ks) (λ s. s.card_at) (noted_at t cs j)
