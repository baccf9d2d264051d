-- Sweeps in place reach number 10's outcome: what they add lies in it, and they go as far as its rounds.
use mathlib.Core.Path.{◌≡◌, refl, ap, sym, ◌∙◌}
use mathlib.Core.Bool.{Bool, true, false, ◌||◌}
use mathlib.Core.List.{List, [], ◌∷◌}
use Prim.Native.Nat.{ℕ, zero, suc, ◌+◌, ◌-◌, ◌≤◌, ◌<◌}
use native.Mathlib.Numerals.{add-one}
use native.Mathlib.Omega.{arith}
use lib.Dec.{eqb}
use lib.ListN.{length, get_or, set, replicate, length-set}
use lib.Seq.{get_or-set_same, get_or-set_other}
use borrow.Author.Tests.{eqb-true, eqb-false}
use Rattle.classes.proofs.Rows.{no_mark}
use Rattle.classes.specs.Lists.{pick}
use Rattle.reading_rules.specs.Record.{Record, record_at, blank, AfterParents}
use Rattle.reading_rules.proofs.CountLaws.{clash_bool}
use Rattle.definition_rules.specs.Finite.{finite_step, round, rounds, finites}
use mathlib.Core.Logic.{◌⊎◌, inl, inr}
use Rattle.definition_rules.proofs.FiniteLaws.{sub_at, step_grows, finites_closed}
use Rattle.table_records.specs.Stored.{record_in, records_at}
use Rattle.table_records.proofs.Laws.{length_records}
use Rattle.table_checks.specs.Sweeps.{is_newly_finite, add_if, gathered, Over, is_added, added, swept, sweep_adds, Swept, NoneMarked, HasFinites}
use Rattle.table_checks.proofs.Bodies.{over_more, over_marks, step_is}

-- ---- sets of parameters

abbrev pub MarksIn : List Bool → List Bool → Type 0
MarksIn s t = (i : ℕ) → get_or s i false ≡ true → get_or t i false ≡ true

abbrev MarkImplies : Bool → Bool → Type 0
MarkImplies a b = a ≡ true → b ≡ true

set_keeps : (s : List Bool) (k : ℕ) → MarksIn s (set s k true)
set_keeps [] k i e = e
set_keeps (a ∷ s) zero zero e = refl
set_keeps (a ∷ s) zero (suc i) e = e
set_keeps (a ∷ s) (suc k) zero e = e
set_keeps (a ∷ s) (suc k) (suc i) e = set_keeps s k i e

set_case : (s : List Bool) (k i : ℕ) → get_or (set s k true) i false ≡ true → ◌⊎◌ (i ≡ k) (get_or s i false ≡ true)
set_case s k i e = go (eqb i k) refl
  where
    go : (b : Bool) → eqb i k ≡ b → ◌⊎◌ (i ≡ k) (get_or s i false ≡ true)
    go true z = inl (eqb-true i k z)
    go false z = inr (sym (get_or-set_other s k i true false (eqb-false i k z)) ∙ e)

-- ---- a round, place by place

round_at : (all : List Record) (have : List Bool) (i : ℕ) (rs : List Record) (k : ℕ) → k < length rs → get_or (round all have i rs) k false ≡ finite_step all have (i + k) (get_or rs k blank)
unfolding round
round_at all have i [] k h = absurd (omega arith)
round_at all have i (r ∷ rs) zero h = ap (λ (j : ℕ). finite_step all have j r) (omega arith)
round_at all have i (r ∷ rs) (suc k) h = round_at all have (suc i) rs k (omega arith) ∙ ap (λ (j : ℕ). finite_step all have j (get_or rs k blank)) (omega arith)

round_in : (all : List Record) (have : List Bool) (i : ℕ) (rs : List Record) (k : ℕ) → get_or (round all have i rs) k false ≡ true → k < length rs
unfolding round
round_in all have i [] k e = clash_bool e
round_in all have i (r ∷ rs) zero e = omega arith
round_in all have i (r ∷ rs) (suc k) e = omega (arith, round_in all have (suc i) rs k e)

rounds_more : (m : ℕ) (rs : List Record) (have : List Bool) → rounds (suc m) rs have ≡ round rs (rounds m rs have) 0 rs
unfolding rounds
rounds_more zero rs have = refl
rounds_more (suc m) rs have = rounds_more m rs (round rs have 0 rs)

module _ (rs : List Record) where
  abbrev step_at : List Bool → ℕ → Bool
  step_at have k = finite_step rs have k (record_at rs k)

  round_step : (have : List Bool) (k : ℕ) → k < length rs → get_or (round rs have 0 rs) k false ≡ step_at have k
  unfolding record_at
  round_step have k h = round_at rs have 0 rs k h ∙ ap (λ (j : ℕ). finite_step rs have j (get_or rs k blank)) (omega arith)

  pub closed_at : (k : ℕ) → k < length rs → MarkImplies (step_at (finites rs) k) (get_or (finites rs) k false)
  closed_at k h e = sub_at _ _ (finites_closed rs) k (round_step (finites rs) k h ∙ e)

  -- ---- one parameter

  module _ (have : List Bool) (i : ℕ) where
    not_added : is_added rs have i ≡ false → (added rs have i ≡ have) × MarkImplies (step_at have i) (get_or have i false)
    unfolding added add_if
    not_added e = (unfold pick in (rw e), unfold is_added in (go (get_or have i false) e))
      where
        go : (b : Bool) → pick b false (step_at have i) ≡ false → MarkImplies (step_at have i) b
        go true z s = refl
        go false z s = unfold pick in (clash_bool (sym z ∙ s))

    added_length : length (added rs have i) ≡ length have
    unfolding added add_if
    added_length = go (is_added rs have i)
      where
        go : (b : Bool) → length (pick b (set have i true) have) ≡ length have
        go true = unfold pick in (length-set have i true)
        go false = unfold pick in refl

    added_grows : MarksIn have (added rs have i)
    unfolding added add_if
    added_grows = go (is_added rs have i)
      where
        go : (b : Bool) → MarksIn have (pick b (set have i true) have)
        go true = unfold pick in (set_keeps have i)
        go false = unfold pick in (λ k e. e)

    added_got : i < length have → MarkImplies (step_at have i) (get_or (added rs have i) i false)
    unfolding added add_if is_added
    added_got h e = go (get_or have i false) (step_at have i) refl e
      where
        go : (b d : Bool) → get_or have i false ≡ b → d ≡ true → get_or (pick (pick b false d) (set have i true) have) i false ≡ true
        go true d z f = unfold pick in z
        go false true z f = unfold pick in (get_or-set_same have i true false h)
        go false false z f = clash_bool f

    added_within : i < length rs → MarksIn have (finites rs) → MarksIn (added rs have i) (finites rs)
    unfolding added add_if is_added
    added_within h w = go (get_or have i false) (step_at have i) refl
      where
        new : step_at have i ≡ true → (k : ℕ) → ◌⊎◌ (k ≡ i) (get_or have k false ≡ true) → get_or (finites rs) k false ≡ true
        new e k (inl z) = rw z (closed_at i h (step_grows have (finites rs) w rs i (record_at rs i) e))
        new e k (inr z) = w k z

        go : (b d : Bool) → step_at have i ≡ d → MarksIn (pick (pick b false d) (set have i true) have) (finites rs)
        go true d e = unfold pick in w
        go false true e = unfold pick in (λ k z. new e k (set_case have i k z))
        go false false e = unfold pick in w

  -- ---- a sweep

  swept_grows : (i : ℕ) (have : List Bool) → MarksIn have (swept rs i have)
  unfolding swept
  swept_grows zero have k e = e
  swept_grows (suc i) have k e = swept_grows i (added rs have i) k (added_grows have i k e)

  swept_got : (i : ℕ) (have : List Bool) (k : ℕ) → k < i → i ≤ length have → MarkImplies (step_at have k) (get_or (swept rs i have) k false)
  unfolding swept
  swept_got zero have k h l e = absurd (omega arith)
  swept_got (suc i) have k h l e = go (eqb k i) refl (λ m. swept_got i (added rs have i) k m (rw (added_length have i) (omega arith)) (step_grows have (added rs have i) (added_grows have i) rs k (record_at rs k) e))
    where
      go : (b : Bool) → eqb k i ≡ b → (k < i → get_or (swept rs i (added rs have i)) k false ≡ true) → get_or (swept rs i (added rs have i)) k false ≡ true
      go true z f = let q = eqb-true k i z in swept_grows i (added rs have i) k (rw q (added_got have i (omega arith) (rw q at e)))
      go false z f = let q = eqb-false k i z in f (omega arith)

  swept_within : (i : ℕ) (have : List Bool) → i ≤ length rs → MarksIn have (finites rs) → MarksIn (swept rs i have) (finites rs)
  unfolding swept
  swept_within zero have h w = w
  swept_within (suc i) have h w = swept_within i (added rs have i) (omega arith) (added_within have i (omega arith) w)

  abbrev none : List Bool
  none = replicate (length rs) false

  -- as far as one round more
  swept_ahead : (m : ℕ) (have : List Bool) → length rs ≤ length have → MarksIn (rounds m rs none) have → MarksIn (rounds (suc m) rs none) (swept rs (length rs) have)
  swept_ahead m have l w k e =
      let z = rw (rounds_more m rs none) at e in
      let h = round_in rs (rounds m rs none) 0 rs k z in
      swept_got (length rs) have k h l (step_grows (rounds m rs none) have w rs k (record_at rs k) (sym (round_step (rounds m rs none) k h) ∙ z))

  -- where a sweep adds nothing, no step does
  swept_still : (i : ℕ) (have : List Bool) → sweep_adds rs i have ≡ false → (swept rs i have ≡ have) × ((k : ℕ) → k < i → MarkImplies (step_at have k) (get_or have k false))
  unfolding swept sweep_adds
  swept_still zero have e = (refl, λ k h s. absurd (omega arith))
  swept_still (suc i) have e = go (is_added rs have i) refl e (swept_still i have)
    where
      one : (k : ℕ) (b : Bool) → eqb k i ≡ b → step_at have k ≡ true → (k < i → get_or have k false ≡ true) → MarkImplies (step_at have i) (get_or have i false) → k < suc i → get_or have k false ≡ true
      one k true z s f g h = let q = eqb-true k i z in rw q (g (rw q at s))
      one k false z s f g h = let q = eqb-false k i z in f (omega arith)

      go : (b : Bool) → is_added rs have i ≡ b → b || sweep_adds rs i (added rs have i) ≡ false → (sweep_adds rs i have ≡ false → (swept rs i have ≡ have) × ((k : ℕ) → k < i → MarkImplies (step_at have k) (get_or have k false))) → (swept rs i (added rs have i) ≡ have) × ((k : ℕ) → k < suc i → MarkImplies (step_at have k) (get_or have k false))
      go true z e r = clash_bool (sym e)
      go false z e r =
          let q = not_added have i z in
          let y = r (rw q.0 at e) in
          (rw q.0 y.0, λ k h s. one k (eqb k i) refl s (λ l. y.1 k l s) q.1 h)

  rounds_closed : (have : List Bool) → ((k : ℕ) → k < length rs → MarkImplies (step_at have k) (get_or have k false)) → (m : ℕ) → MarksIn (rounds m rs none) have
  rounds_closed have c zero k e = unfold rounds in (clash_bool (sym (no_mark (length rs) k) ∙ e))
  rounds_closed have c (suc m) k e =
      let z = rw (rounds_more m rs none) at e in
      let h = round_in rs (rounds m rs none) 0 rs k z in
      c k h (step_grows (rounds m rs none) have (rounds_closed have c m) rs k (record_at rs k) (sym (round_step (rounds m rs none) k h) ∙ z))

  both_in : (s t : List Bool) → MarksIn s t → MarksIn t s → (i : ℕ) → get_or s i false ≡ get_or t i false
  both_in s t f g i = go (get_or s i false) (get_or t i false) (f i) (g i)
    where
      go : (a b : Bool) → MarkImplies a b → MarkImplies b a → a ≡ b
      go true b f g = sym (f refl)
      go false true f g = g refl
      go false false f g = refl

  -- ---- the sweeps

  -- after k of them
  pub record SweptSoFar (k : ℕ) (have : List Bool) : Type 0 where
    pub room : length rs ≤ length have
    pub within : MarksIn have (finites rs)
    pub ahead : MarksIn (rounds k rs none) have

  pub going_start : (have : List Bool) → length rs ≤ length have → NoneMarked have → SweptSoFar 0 have
  unfolding rounds
  going_start have r e = record {
    room = r;
    within = λ i z. clash_bool (sym (e i) ∙ z);
    ahead = λ i z. clash_bool (sym (no_mark (length rs) i) ∙ z);
  }

  module _ (k : ℕ) (have after : List Bool) (more : Bool) (s : length after ≡ length have) (w : Swept rs have after more) (g : SweptSoFar k have) where
    pub going_more : SweptSoFar (k + 1) after
    going_more = record {
      room = omega (arith, g.room);
      within = rw w.marks (swept_within (length rs) have (omega arith) g.within);
      ahead = rw (w.marks, add-one k) (swept_ahead k have g.room g.ahead);
    }

    pub going_still : more ≡ false → HasFinites rs after
    unfolding finites
    going_still z =
        let q = swept_still (length rs) have (sym w.adds ∙ z) in
        rw (w.marks ∙ q.0) (both_in have (rounds (length rs) rs none) g.within (rounds_closed have (λ i h. q.1 i h) (length rs)))

  pub going_end : (k : ℕ) (have : List Bool) → k ≡ length rs → SweptSoFar k have → HasFinites rs have
  unfolding finites
  going_end k have e g = both_in have (rounds (length rs) rs none) g.within (go (length rs) (sym e))
    where
      go : (m : ℕ) → m ≡ k → MarksIn (rounds m rs none) have
      go m z = rw z g.ahead

-- ---- a sweep as it is worked out

new_off : (b : Bool) (have : List Bool) (i m : ℕ) → i < m → get_or have m false ≡ get_or (add_if b have i) m false
unfolding add_if pick
new_off true have i m h = sym (get_or-set_other have i m true false (λ e. absurd (omega arith)))
new_off false have i m h = refl

module _ (t unpacked : List ℕ) (n : ℕ) (w : AfterParents (records_at t unpacked n)) (have₀ : List Bool) where
  abbrev all : List Record
  all = records_at t unpacked n

  -- the i-th record and those after it are met
  pub record Part (i : ℕ) (have rest : List Bool) (more : Bool) : Type 0 where
    pub adds : sweep_adds all n have₀ ≡ more || sweep_adds all i have
    pub marks : swept all n have₀ ≡ swept all i have
    pub over : Over t unpacked n have i rest

  pub part_start : (rest : List Bool) → Over t unpacked n have₀ n rest → Part n have₀ rest false
  part_start rest o = record { adds = refl; marks = refl; over = o }

  module _ (i : ℕ) (have rest have' rest' : List Bool) (more x : Bool) (h : 0 < i) (l : i ≤ n) (r : n ≤ length rest) (e : x ≡ is_newly_finite have (get_or rest (i - 1) false) (i - 1) (record_in t unpacked (i - 1))) (f : have' ≡ add_if (is_newly_finite have (get_or rest (i - 1) false) (i - 1) (record_in t unpacked (i - 1))) have (i - 1)) (g : rest' ≡ gathered t unpacked have' (i - 1) (record_in t unpacked (i - 1)).parent rest) (p : Part i have rest more) where
    new_is : is_newly_finite have (get_or rest (i - 1) false) (i - 1) (record_in t unpacked (i - 1)) ≡ is_added all have (i - 1)
    unfolding is_newly_finite is_added
    new_is = rw (step_is t unpacked n w have rest i h l p.over)

    one : i ≡ suc (i - 1)
    one = omega arith

    adds_more : (m : Bool) → m || sweep_adds all (suc (i - 1)) have ≡ (m || x) || sweep_adds all (i - 1) have'
    unfolding sweep_adds added
    adds_more true = refl
    adds_more false = rw (e, f, new_is)

    marks_more : swept all (suc (i - 1)) have ≡ swept all (i - 1) have'
    unfolding swept added
    marks_more = rw (f, new_is)

    pub part_more : Part (i - 1) have' rest' (more || x)
    part_more = record {
      adds = p.adds ∙ (ap (λ (j : ℕ). more || sweep_adds all j have) one ∙ adds_more more);
      marks = p.marks ∙ (ap (λ (j : ℕ). swept all j have) one ∙ marks_more);
      over = over_more t unpacked n have' i rest rest' h l r g (over_marks t unpacked n have have' i rest (λ m k. rw f (new_off (is_newly_finite have (get_or rest (i - 1) false) (i - 1) (record_in t unpacked (i - 1))) have (i - 1) m (omega arith))) p.over);
    }

  pub part_end : (i : ℕ) (have rest : List Bool) (more : Bool) → i ≤ 0 → Part i have rest more → Swept all have₀ have more
  part_end i have rest more h p = record {
    marks = sym (ap (λ (j : ℕ). swept all j have₀) long ∙ (p.marks ∙ (ap (λ (j : ℕ). swept all j have) z ∙ unfold swept in refl)));
    adds = sym (ap (λ (j : ℕ). sweep_adds all j have₀) long ∙ (p.adds ∙ (ap (λ (j : ℕ). more || sweep_adds all j have) z ∙ none_more more)));
  }
    where
      long : length all ≡ n
      long = length_records t unpacked n 0

      z : i ≡ 0
      z = omega arith

      none_more : (m : Bool) → m || sweep_adds all 0 have ≡ m
      none_more true = refl
      none_more false = unfold sweep_adds in refl
