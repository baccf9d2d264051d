-- What the bodies come to, as the records are joined from the last to the first.
use mathlib.Core.Path.{◌≡◌, refl, ap, subst, sym, ◌∙◌}
use mathlib.Core.Bool.{Bool, true, false, not, ◌&&◌, ◌||◌}
use mathlib.Core.List.{List, [], ◌∷◌}
use Prim.Native.Nat.{ℕ, zero, suc, ◌+◌, ◌-◌, ◌≤◌, ◌<◌}
use native.Mathlib.Numerals.{add-one}
use native.Mathlib.Omega.{arith}
use lib.Dec.{eqb}
use lib.ListN.{length, get_or, set, replicate}
use lib.Seq.{get_or-set_same, get_or-set_other}
use borrow.Author.Tests.{eqb-true, eqb-false, ne_eqb}
use Rattle.classes.specs.Lists.{pick}
use Rattle.reading_rules.specs.Record.{Record, Up, top, under, record_at, Before, AfterParents}
use Rattle.reading_rules.specs.Schema.{is_under}
use Rattle.definition_rules.specs.Finite.{can_do_without, ends_needs, struct_step, union_step, finite_step}
use Rattle.table_records.specs.Stored.{record_in, records_from, records_at}
use Rattle.table_records.proofs.Laws.{length_records, record_at_lem, records_more, records_end, records_all}
use Rattle.table_checks.specs.Sweeps.{step_by, body_over, step_with, gathered, Over, NoneMarked}

-- ---- a place that is written

module _ (s : List Bool) (i : ℕ) (b : Bool) (h : i < length s) where
  -- what holds below i, and of b, holds below i + 1
  pub set_below : (P : ℕ → Bool → Type 0) → ((k : ℕ) → k < i → P k (get_or s k false)) → P i b → (k : ℕ) → k < i + 1 → P k (get_or (set s i b) k false)
  set_below P below here k l = go (eqb k i) refl
    where
      go : (x : Bool) → eqb k i ≡ x → P k (get_or (set s i b) k false)
      go true z = rw (eqb-true k i z, get_or-set_same s i b false h) here
      go false z = let q = eqb-false k i z in rw (get_or-set_other s i k b false q) (below k (omega arith))

pub none_marked : (n : ℕ) → NoneMarked (replicate n false)
none_marked zero i = refl
none_marked (suc n) zero = refl
none_marked (suc n) (suc i) = none_marked n i

-- ---- a body over the records from one on

body_by : (a b u e c h s t : Bool) → pick a (pick u (pick e true ((c || h) && s)) s) (pick b ((u && h) || t) true) ≡ pick u (pick a (e || ((c || h) && pick a s (pick b t true))) (pick b (h || pick a s (pick b t true)) (pick a s (pick b t true)))) (pick a s (pick b t true))
unfolding pick
body_by true b false e c h s t = refl
body_by true b true true c h s t = refl
body_by true b true false c h s t = refl
body_by false true false e c h s t = refl
body_by false true true e c h s t = refl
body_by false false false e c h s t = refl
body_by false false true e c h s t = refl

module _ (have : List Bool) (k : ℕ) (r : Record) where
  body_cons : (i : ℕ) (q : Record) (qs : List Record) → body_over have k r i (q ∷ qs) ≡ pick (is_under k q.parent) (step_with have r.kind i q (body_over have k r (suc i) qs)) (body_over have k r (suc i) qs)
  unfolding body_over step_with struct_step union_step
  body_cons i q qs = body_by (eqb r.kind 8) (eqb r.kind 9) (is_under k q.parent) (ends_needs q) (can_do_without q) (get_or have i false) (struct_step have k (suc i) qs) (union_step have k (suc i) qs)

  body_none : (i j : ℕ) → body_over have k r i [] ≡ body_over have k r j []
  unfolding body_over struct_step union_step
  body_none i j = refl

-- before any of its records is met
pub body_empty : (have : List Bool) (k : ℕ) (r : Record) → not (eqb r.kind 9) ≡ body_over have k r k []
unfolding body_over struct_step union_step
body_empty have k r = go (eqb r.kind 8) (eqb r.kind 9) refl refl
  where
    go : (a b : Bool) → eqb r.kind 8 ≡ a → eqb r.kind 9 ≡ b → not b ≡ pick a true (pick b false true)
    go true true e f = absurd (omega (arith, eqb-true r.kind 8 e, eqb-true r.kind 9 f))
    go true false e f = unfold pick in refl
    go false true e f = unfold pick in refl
    go false false e f = unfold pick in refl

module _ (t unpacked : List ℕ) (n : ℕ) (have : List Bool) where
  pub over_start : (i : ℕ) (rest : List Bool) → n ≤ i → ((k : ℕ) → k < i → get_or rest k false ≡ body_over have k (record_in t unpacked k) k []) → Over t unpacked n have n rest
  over_start i rest h below k l = below k (omega arith) ∙ (body_none have k (record_in t unpacked k) k n ∙ rw (records_end t unpacked n n (omega arith)))

  gathered_at : (i : ℕ) (rest : List Bool) (u : Up) (k : ℕ) → k < length rest → get_or (gathered t unpacked have i u rest) k false ≡ pick (is_under k u) (step_with have (record_in t unpacked k).kind i (record_in t unpacked i) (get_or rest k false)) (get_or rest k false)
  unfolding gathered is_under
  gathered_at i rest top k h = unfold pick in refl
  gathered_at i rest (under p) k h = go (eqb p k) refl
    where
      go : (b : Bool) → eqb p k ≡ b → get_or (set rest p (step_with have (record_in t unpacked p).kind i (record_in t unpacked i) (get_or rest p false))) k false ≡ pick b (step_with have (record_in t unpacked k).kind i (record_in t unpacked i) (get_or rest k false)) (get_or rest k false)
      go true z = unfold pick in (rw (eqb-true p k z) (get_or-set_same rest k _ false h))
      go false z = unfold pick in (get_or-set_other rest p k _ false (λ e. eqb-false p k z (sym e)))

  over_by : (j : ℕ) (rest : List Bool) → j < n → n ≤ length rest → Over t unpacked n have (j + 1) rest → Over t unpacked n have j (gathered t unpacked have j (record_in t unpacked j).parent rest)
  over_by j rest h l o k m =
      gathered_at j rest _ k (omega arith) ∙
      rw (o k m, records_more t unpacked n j h, add-one j) (sym (body_cons have k (record_in t unpacked k) j (record_in t unpacked j) _))

  -- the record before the i-th is joined
  pub over_more : (i : ℕ) (rest after : List Bool) → 0 < i → i ≤ n → n ≤ length rest → after ≡ gathered t unpacked have (i - 1) (record_in t unpacked (i - 1)).parent rest → Over t unpacked n have i rest → Over t unpacked n have (i - 1) after
  over_more i rest after p h l e o =
      let s : i ≡ i - 1 + 1 = omega arith in
      rw e (over_by (i - 1) rest (omega arith) l (subst (λ (j : ℕ). Over t unpacked n have j rest) s o))

-- ---- marks that differ below the i-th record only

module _ (s t : List Bool) where
  struct_same : (p i : ℕ) (rs : List Record) → ((m : ℕ) → i ≤ m → get_or s m false ≡ get_or t m false) → struct_step s p i rs ≡ struct_step t p i rs
  unfolding struct_step
  struct_same p i [] e = refl
  struct_same p i (r ∷ rs) e = rw (e i (omega arith), struct_same p (suc i) rs (λ m h. e m (omega arith)))

  union_same : (p i : ℕ) (rs : List Record) → ((m : ℕ) → i ≤ m → get_or s m false ≡ get_or t m false) → union_step s p i rs ≡ union_step t p i rs
  unfolding union_step
  union_same p i [] e = refl
  union_same p i (r ∷ rs) e = rw (e i (omega arith), union_same p (suc i) rs (λ m h. e m (omega arith)))

pub over_marks : (t unpacked : List ℕ) (n : ℕ) (have have' : List Bool) (i : ℕ) (rest : List Bool) → ((m : ℕ) → i ≤ m → get_or have m false ≡ get_or have' m false) → Over t unpacked n have i rest → Over t unpacked n have' i rest
unfolding body_over
over_marks t unpacked n have have' i rest e o k h = o k h ∙ rw (struct_same have have' k i (records_from t unpacked (n - i) i) e, union_same have have' k i (records_from t unpacked (n - i) i) e)

-- ---- a body is whole once its own record is met

pub not_under : (p i : ℕ) (u : Up) → Before i u → i ≤ p → is_under p u ≡ false
unfolding Before is_under
not_under p i top b h = refl
not_under p i (under q) b h = ne_eqb q p (λ e. absurd (omega arith))

step_of : (a b s u x : Bool) → pick a (pick a s (pick b u true)) (pick b (pick a s (pick b u true)) x) ≡ pick a s (pick b u x)
unfolding pick
step_of true b s u x = refl
step_of false true s u x = refl
step_of false false s u x = refl

module _ (t unpacked : List ℕ) (n : ℕ) (w : AfterParents (records_at t unpacked n)) where
  abbrev rs : List Record
  rs = records_at t unpacked n

  above : (m : ℕ) → m < n → Before m (record_in t unpacked m).parent
  unfolding AfterParents
  above m h = subst (λ q. Before m q.parent) (record_at_lem t unpacked n m h) (w m (rw (length_records t unpacked n 0) h))

  skipped : (have : List Bool) (j : ℕ) (r : Record) → j < n → (m : ℕ) → m ≤ j + 1 → body_over have j r 0 rs ≡ body_over have j r m (records_from t unpacked (n - m) m)
  skipped have j r h zero l = rw (records_all t unpacked n)
  skipped have j r h (suc m) l = skipped have j r h m (omega arith) ∙ (ap (body_over have j r m) (records_more t unpacked n m (omega arith)) ∙ (body_cons have j r m (record_in t unpacked m) _ ∙ unfold pick in (rw (not_under j m (record_in t unpacked m).parent (above m (omega arith)) (omega arith), add-one m))))

  -- the step by what is gathered is number 10's
  pub step_is : (have rest : List Bool) (i : ℕ) → 0 < i → i ≤ n → Over t unpacked n have i rest → step_by have (get_or rest (i - 1) false) (record_in t unpacked (i - 1)) ≡ finite_step rs have (i - 1) (record_at rs (i - 1))
  unfolding step_by finite_step
  step_is have rest i p h o =
      let e : get_or rest (i - 1) false ≡ body_over have (i - 1) (record_in t unpacked (i - 1)) 0 rs = o (i - 1) (omega arith) ∙ sym (skipped have (i - 1) (record_in t unpacked (i - 1)) (omega arith) i (omega arith)) in
      rw (record_at_lem t unpacked n (i - 1) (omega arith), e) (unfold body_over in (step_of (eqb (record_in t unpacked (i - 1)).kind 8) (eqb (record_in t unpacked (i - 1)).kind 9) (struct_step have (i - 1) 0 rs) (union_step have (i - 1) 0 rs) _))
