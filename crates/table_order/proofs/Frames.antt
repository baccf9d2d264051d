-- Open bodies as cells: what is asked of them, and what a store does.
use mathlib.Core.Path.{◌≡◌, refl, ap, ◌∙◌}
use mathlib.Core.Bool.{Bool, true, false, not, ◌&&◌}
use mathlib.Core.List.{List, [], ◌∷◌}
use Prim.Native.Nat.{ℕ, zero, suc, ◌+◌, ◌-◌, ◌≤◌, ◌<◌}
use native.Mathlib.Omega.{arith}
use lib.Dec.{eqb}
use lib.ListN.{length, get_or, set}
use lib.Seq.{get_or-set_same, get_or-set_other}
use Rattle.classes.specs.Lists.{pick}
use Rattle.numbers.specs.Limits.{none16}
use Rattle.reading_rules.specs.Record.{Up, top, under, same_up}
use Rattle.definition_rules.specs.Table.{number_up}
use Rattle.definition_rules.specs.Declarations.{Frame, parent_of}
use Rattle.table_rules.specs.RecordRules.{is_open, closed_to, in_extension, push_if, may_stand}
use Rattle.table_order.specs.Open.{frame_of, empty_body, frames_of}
use Rattle.table_order.specs.declared.Body.{Body}

-- ---- a parent's number

pub open_is : (p q : ℕ) → not (eqb p none16) && eqb q p ≡ is_open (number_up p) q
unfolding is_open number_up pick
open_is p q = go (eqb p none16)
  where
    go : (b : Bool) → not b && eqb q p ≡ is_open (pick b top (under p)) q
    go true = refl
    go false = refl

none_is : (p : ℕ) → eqb p none16 ≡ same_up top (number_up p)
unfolding same_up number_up pick
none_is p = go (eqb p none16)
  where
    go : (b : Bool) → b ≡ same_up top (pick b top (under p))
    go true = refl
    go false = refl

under_is : (u : Up) (q : ℕ) → is_open u q ≡ same_up (under q) u
unfolding is_open same_up
under_is top q = refl
under_is (under p) q = refl

-- ---- the cells

pub length_frames : (bodies : List Body) (d : ℕ) → length (frames_of bodies d) ≡ d
unfolding frames_of
length_frames bodies zero = refl
length_frames bodies (suc d) = ap suc (length_frames bodies d)

-- a cell further out is stored
frames_set : (bodies : List Body) (k : ℕ) (v : Body) (d : ℕ) → d ≤ k → frames_of (set bodies k v) d ≡ frames_of bodies d
unfolding frames_of
frames_set bodies k v zero h = refl
frames_set bodies k v (suc d) h = rw (get_or-set_other bodies k d v empty_body (omega arith), frames_set bodies k v d (omega arith))

-- the innermost cell is stored
frames_stored : (bodies : List Body) (k : ℕ) (v : Body) (d : ℕ) → d ≡ suc k → k < length bodies → frames_of (set bodies k v) d ≡ frame_of v ∷ frames_of bodies k
unfolding frames_of
frames_stored bodies k v d e h = rw (e, get_or-set_same bodies k v empty_body h, frames_set bodies k v k (omega arith))

module _ (bodies : List Body) (d : ℕ) where
  frames_none : d ≤ 0 → frames_of bodies d ≡ []
  unfolding frames_of
  frames_none h = let e : d ≡ 0 = omega arith in rw e

  frames_more : 0 < d → frames_of bodies d ≡ frame_of (get_or bodies (d - 1) empty_body) ∷ frames_of bodies (d - 1)
  unfolding frames_of
  frames_more h = ap (frames_of bodies) e
    where
      e : d ≡ suc (d - 1)
      e = omega arith

  -- ---- closing

  pub closed_here : (u : Up) → 0 < d → is_open u ((get_or bodies (d - 1) empty_body).number) ≡ true → frames_of bodies d ≡ closed_to u (frames_of bodies d)
  unfolding closed_to pick
  closed_here u h e = rw (frames_more h, e)

  pub closed_more : (u : Up) → 0 < d → is_open u ((get_or bodies (d - 1) empty_body).number) ≡ false → closed_to u (frames_of bodies d) ≡ closed_to u (frames_of bodies (d - 1))
  unfolding closed_to pick
  closed_more u h e = rw (frames_more h, e)

  pub closed_end : (u : Up) → d ≤ 0 → frames_of bodies 0 ≡ closed_to u (frames_of bodies d)
  unfolding closed_to frames_of
  closed_end u h = rw (frames_none h)

  -- ---- what may stand

  pub parent_none : (p : ℕ) → d ≡ 0 → eqb p none16 ≡ same_up (parent_of (frames_of bodies d)) (number_up p)
  unfolding parent_of
  parent_none p h = rw (frames_none (omega arith)) (none_is p)

  pub parent_some : (p : ℕ) → (d ≡ 0 → ⊥) → is_open (number_up p) ((get_or bodies (d - 1) empty_body).number) ≡ same_up (parent_of (frames_of bodies d)) (number_up p)
  unfolding parent_of
  parent_some p h = rw (frames_more (omega arith)) (under_is (number_up p) ((get_or bodies (d - 1) empty_body).number))

  pub stand_none : (e : Bool) → d ≡ 0 → not e ≡ may_stand (frames_of bodies d) e
  unfolding may_stand
  stand_none e h = rw (frames_none (omega arith))

  pub stand_group : (e : Bool) → (d ≡ 0 → ⊥) → (get_or bodies (d - 1) empty_body).extended ≡ true → e ≡ may_stand (frames_of bodies d) e
  unfolding may_stand pick
  stand_group e h z = rw (frames_more (omega arith), z)

  pub stand_fields : (e : Bool) → (d ≡ 0 → ⊥) → ((get_or bodies (d - 1) empty_body).extended ≡ false) → true ≡ may_stand (frames_of bodies d) e
  unfolding may_stand pick
  stand_fields e h z = rw (frames_more (omega arith), z)

  -- ---- a field in an extension

  pub extension_none : (e : Bool) → d ≡ 0 → frames_of bodies d ≡ in_extension e (frames_of bodies d)
  unfolding in_extension
  extension_none e h = rw (frames_none (omega arith))

  pub extension_no : (e : Bool) → (d ≡ 0 → ⊥) → e ≡ false → frames_of bodies d ≡ in_extension e (frames_of bodies d)
  unfolding in_extension
  extension_no e h z = rw (z, frames_more (omega arith))

  pub extension_yes : (e : Bool) → (d ≡ 0 → ⊥) → d ≤ length bodies → e ≡ true → frames_of (set bodies (d - 1) (record { number = (get_or bodies (d - 1) empty_body).number; extended = true })) d ≡ in_extension e (frames_of bodies d)
  unfolding in_extension pick
  extension_yes e h l z = rw (z, frames_more (omega arith)) (frames_stored bodies (d - 1) (record { number = (get_or bodies (d - 1) empty_body).number; extended = true }) d (omega arith) (omega arith))

-- ---- a body is opened, or none is

module _ (bodies : List Body) (d i : ℕ) (σ : List Frame) (k : Bool) (e : frames_of bodies d ≡ σ) where
  pub opened_yes : d < length bodies → k ≡ true → frames_of (set bodies d (record { number = i; extended = false })) (d + 1) ≡ push_if k i σ
  unfolding push_if pick
  opened_yes h z = frames_stored bodies d (record { number = i; extended = false }) (d + 1) (omega arith) h ∙ rw (z, e)

  pub opened_no : k ≡ false → frames_of bodies d ≡ push_if k i σ
  unfolding push_if
  opened_no z = rw (z, e)
