-- The tests of RecordRules as facts.
use mathlib.Core.Path.{◌≡◌, refl, ap, sym}
use mathlib.Core.Bool.{Bool, true, false, not, ◌&&◌, ◌||◌}
use mathlib.Core.List.{List, [], ◌∷◌}
use Prim.Native.Nat.{ℕ, zero, suc, ◌≤◌, ◌<◌}
use native.Mathlib.Omega.{arith}
use lib.Dec.{leb, eqb}
use lib.ListN.{length}
use borrow.Author.Tests.{eqb-true, not-true, le-leb, leb-true}
use Rattle.classes.proofs.Rows.{same_true}
use Rattle.classes.proofs.Bools.{clash_bool, both_true}
use Rattle.numbers.specs.Limits.{count_limit, no_limit, none16}
use Rattle.classes.specs.Lists.{same_bytes, pick, All}
use Rattle.definition_rules.specs.Words.{name_form}
use Rattle.definition_rules.specs.Forms.{MaybeRun, given}
use Rattle.reading_rules.specs.Record.{Up, top, under, Record, is_top}
use Rattle.definition_rules.specs.Records.{kind_least, kind_most, is_named}
use Rattle.definition_rules.specs.Faults.{Key, key}
use Rattle.table_rules.specs.RecordRules.{is_single_value, counts_fine, range_fine, is_top_at, target_fine, shows_name, label_fine, top_fine, record_fine, every_record, key_if, shown_names}
use Rattle.table_rules.proofs.Witness.{nth_run, NotAmong, DistinctTops, RecordOk, top_if, record_tops}
use Rattle.table_rules.proofs.ShownNames.{Off, Uniq}

-- ---- what the test of one record says

pub record FineRecord (rs : List Record) (A : ℕ → Bool) (r : Record) : Type 0 where
  pub kind_lo : 1 ≤ r.kind
  pub kind_hi : r.kind ≤ 10
  pub count_lo : r.lo_count ≤ count_limit
  pub count_pos : 1 ≤ r.hi_count
  pub count_mid : r.lo_count ≤ r.hi_count
  pub count_hi : r.hi_count ≤ no_limit
  pub alone : is_single_value A r.parent ≡ true → (r.lo_count ≡ 1) × (r.hi_count ≡ 1)
  pub range_lo : kind_least r.kind ≤ r.least
  pub range_mid : r.least ≤ r.most
  pub range_hi : r.most ≤ kind_most r.kind
  pub aim : target_fine rs r ≡ true
  pub named : label_fine r ≡ true
  pub topped : top_fine r ≡ true

not_or : (a b : Bool) → not a || b ≡ true → a ≡ true → b ≡ true
not_or true b e q = e
not_or false b e q = clash_bool q

pub fine_of : (rs : List Record) (A : ℕ → Bool) (r : Record) → record_fine rs A r ≡ true → FineRecord rs A r
unfolding record_fine counts_fine range_fine
fine_of rs A r e =
    let x1 = both_true (leb 1 r.kind) _ e in
    let x2 = both_true (leb r.kind 10) _ x1.1 in
    let x3 = both_true (leb r.lo_count count_limit && (leb 1 r.hi_count && (leb r.lo_count r.hi_count && (leb r.hi_count no_limit && (not (is_single_value A r.parent) || (eqb r.lo_count 1 && eqb r.hi_count 1)))))) _ x2.1 in
    let c1 = both_true (leb r.lo_count count_limit) _ x3.0 in
    let c2 = both_true (leb 1 r.hi_count) _ c1.1 in
    let c3 = both_true (leb r.lo_count r.hi_count) _ c2.1 in
    let c4 = both_true (leb r.hi_count no_limit) _ c3.1 in
    let x4 = both_true (leb (kind_least r.kind) r.least && (leb r.least r.most && leb r.most (kind_most r.kind))) _ x3.1 in
    let g1 = both_true (leb (kind_least r.kind) r.least) _ x4.0 in
    let g2 = both_true (leb r.least r.most) _ g1.1 in
    let x5 = both_true (target_fine rs r) _ x4.1 in
    let x6 = both_true (label_fine r) _ x5.1 in
    record {
      kind_lo = leb-true 1 r.kind x1.0;
      kind_hi = leb-true r.kind 10 x2.0;
      count_lo = leb-true r.lo_count count_limit c1.0;
      count_pos = leb-true 1 r.hi_count c2.0;
      count_mid = leb-true r.lo_count r.hi_count c3.0;
      count_hi = leb-true r.hi_count no_limit c4.0;
      alone = λ s. (let y = both_true (eqb r.lo_count 1) (eqb r.hi_count 1) (not_or (is_single_value A r.parent) _ c4.1 s) in (eqb-true r.lo_count 1 y.0, eqb-true r.hi_count 1 y.1));
      range_lo = leb-true (kind_least r.kind) r.least g1.0;
      range_mid = leb-true r.least r.most g2.0;
      range_hi = leb-true r.most (kind_most r.kind) g2.1;
      aim = x5.0;
      named = x6.0;
      topped = x6.1;
    }

pub of_fine : (rs : List Record) (A : ℕ → Bool) (r : Record) → FineRecord rs A r → record_fine rs A r ≡ true
unfolding record_fine counts_fine range_fine
of_fine rs A r f =
    rw (le-leb 1 r.kind f.kind_lo, le-leb r.kind 10 f.kind_hi, le-leb r.lo_count count_limit f.count_lo, le-leb 1 r.hi_count f.count_pos, le-leb r.lo_count r.hi_count f.count_mid, le-leb r.hi_count no_limit f.count_hi, le-leb (kind_least r.kind) r.least f.range_lo, le-leb r.least r.most f.range_mid, le-leb r.most (kind_most r.kind) f.range_hi, f.aim, f.named, f.topped) (by (is_single_value A r.parent) f.alone)
  where
    by : (b : Bool) → (b ≡ true → (r.lo_count ≡ 1) × (r.hi_count ≡ 1)) → (not b || (eqb r.lo_count 1 && eqb r.hi_count 1)) && true ≡ true
    by true g = let x = g refl in rw (x.0, x.1)
    by false g = refl

pub every_all : (f : Record → Bool) (rs : List Record) → every_record f rs ≡ true → All (λ r. f r ≡ true) rs
unfolding every_record All
every_all f [] e = tt
every_all f (r ∷ rs) e = let x = both_true (f r) (every_record f rs) e in (x.0, every_all f rs x.1)

pub all_every : (f : Record → Bool) (rs : List Record) → All (λ r. f r ≡ true) rs → every_record f rs ≡ true
unfolding every_record All
all_every f [] h = refl
all_every f (r ∷ rs) h = rw h.0 (all_every f rs h.1)

pub all_map : {A : Type 0} (P Q : A → Type 0) (l : List A) → ((a : A) → P a → Q a) → All P l → All Q l
unfolding All
all_map P Q [] f h = tt
all_map P Q (a ∷ l) f h = (f a h.0, all_map P Q l f h.1)

-- ---- tops

top_shows : (r : Record) → is_top r.parent ≡ true → label_fine r ≡ true → name_form r.label ≡ true
unfolding label_fine shows_name
top_shows r e f = unfold pick in (rw e at f)

pub top_at_lem : (rs : List Record) (t : ℕ) → All (λ r. label_fine r ≡ true) rs → is_top_at rs t ≡ true → (w : List ℕ) × (nth_run (record_tops rs) t ≡ given w) × (name_form w ≡ true)
unfolding is_top_at nth_run record_tops All
top_at_lem [] t h e = clash_bool e
top_at_lem (r ∷ rs) zero h e = (r.label, by r.parent e, top_shows r e h.0)
  where
    by : (u : Up) → is_top u ≡ true → top_if u r.label ≡ given r.label
    by top e = unfold top_if in refl
    by (under p) e = unfold is_top in (clash_bool e)
top_at_lem (r ∷ rs) (suc t) h e = top_at_lem rs t h.1 e

pub top_lt : (rs : List Record) (t : ℕ) → is_top_at rs t ≡ true → t < length rs
unfolding is_top_at
top_lt [] t e = clash_bool e
top_lt (r ∷ rs) zero e = omega arith
top_lt (r ∷ rs) (suc t) e = omega (arith, top_lt rs t e)

fresh_step : (l m : List ℕ) (u : Up) (n : Bool) (ks : List Key) → Off (key top l) (key_if (is_top u || n) (key u m) ks) → (is_named (top_if u m) l ≡ false) × Off (key top l) ks
unfolding is_top key_if Off top_if is_named
fresh_step l m top n ks h = (by (same_bytes m l) refl, h.1)
  where
    by : (b : Bool) → same_bytes m l ≡ b → b ≡ false
    by true e = absurd (h.0 (ap (key top) (sym (same_true m l e))))
    by false e = refl
fresh_step l m (under p) true ks h = (refl, h.1)
fresh_step l m (under p) false ks h = (refl, h)

fresh_tops : (l : List ℕ) (rs : List Record) → Off (key top l) (shown_names rs) → NotAmong l (record_tops rs)
unfolding NotAmong record_tops shown_names shows_name
fresh_tops l [] h = tt
fresh_tops l (r ∷ rs) h = let x = fresh_step l r.label r.parent r.untagged (shown_names rs) h in (x.0, fresh_tops l rs x.1)

tops_step : (u : Up) (n : Bool) (m : List ℕ) (ks : List Key) (os : List MaybeRun) → Uniq (key_if (is_top u || n) (key u m) ks) → (Off (key top m) ks → NotAmong m os) → (Uniq ks → DistinctTops os) → DistinctTops (top_if u m ∷ os)
unfolding is_top key_if Uniq top_if DistinctTops
tops_step top n m ks os h f g = (f h.0, g h.1)
tops_step (under p) true m ks os h f g = g h.1
tops_step (under p) false m ks os h f g = g h

pub tops_of : (rs : List Record) → Uniq (shown_names rs) → DistinctTops (record_tops rs)
unfolding record_tops shown_names shows_name
tops_of [] h = unfold DistinctTops in tt
tops_of (r ∷ rs) h = tops_step r.parent r.untagged r.label (shown_names rs) (record_tops rs) h (fresh_tops r.label rs) (λ u. tops_of rs u)

pub flag_of : (r : Record) → top_fine r ≡ true → r.parent ≡ top → (r.untagged ≡ false) × (r.plugin ≡ false) × (eqb r.kind 10 ≡ false)
unfolding top_fine
flag_of r e q =
    let x = not_or (is_top r.parent) _ e (unfold is_top in (rw q)) in
    let y = both_true (not r.untagged) _ x in
    let z = both_true (not r.plugin) _ y.1 in
    (not-true r.untagged y.0, not-true r.plugin z.0, not-true (eqb r.kind 10) z.1)

pub ok_of : (rs : List Record) (A : ℕ → Bool) (r : Record) → All (λ r. label_fine r ≡ true) rs → FineRecord rs A r → RecordOk (record_tops rs) A r
ok_of rs A r h f = (
  record {
    kind_lo = f.kind_lo;
    kind_hi = f.kind_hi;
    single_lo = λ s. (f.alone s).0;
    single_hi = λ s. (f.alone s).1;
    count_lo = f.count_lo;
    count_mid = f.count_mid;
    count_pos = f.count_pos;
    count_hi = f.count_hi;
    range_lo = f.range_lo;
    range_mid = f.range_mid;
    range_hi = f.range_hi;
    to = λ e. top_at_lem rs r.target h (aimed e f.aim);
    to_none = λ e. eqb-true r.target none16 (aimless e f.aim);
  },
  λ e. (flag_of r f.topped e).0,
)
  where
    aimed : eqb r.kind 10 ≡ true → target_fine rs r ≡ true → is_top_at rs r.target ≡ true
    aimed e q = unfold target_fine pick in (rw e at q)

    aimless : eqb r.kind 10 ≡ false → target_fine rs r ≡ true → eqb r.target none16 ≡ true
    aimless e q = unfold target_fine pick in (rw e at q)
