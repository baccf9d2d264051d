-- Without unions and references every record has a finite value: the records of a struct's body stand after it, so that one goes
-- from the last record to the first.
use mathlib.Core.Path.{◌≡◌, refl, sym, ◌∙◌}
use mathlib.Core.Bool.{Bool, true, false, ◌&&◌, ◌||◌}
use mathlib.Core.List.{List, [], ◌∷◌}
use Prim.Native.Nat.{ℕ, zero, suc, ◌+◌, ◌≤◌, ◌<◌}
use native.Mathlib.Omega.{arith}
use lib.Dec.{eqb, ltb}
use lib.ListN.{length, get_or}
use borrow.Author.Tests.{ne_eqb, ltb-true, ltb-false}
use Rattle.classes.specs.Lists.{pick}
use Rattle.reading_rules.specs.Record.{Record, record_at, Before, AfterParents}
use Rattle.reading_rules.specs.Schema.{is_under}
use Rattle.reading_rules.proofs.CountLaws.{clash_bool}
use Rattle.definition_rules.specs.Finite.{can_do_without, ends_needs, struct_step, finite_step, finites}
use Rattle.table_records.specs.Stored.{record_in, records_at}
use Rattle.table_records.proofs.Laws.{length_records, record_at_lem}
use Rattle.table_checks.specs.Sweeps.{AllFinite}
use Rattle.table_checks.proofs.Bodies.{not_under}
use Rattle.table_checks.proofs.Sweeping.{closed_at}

field_has : (u n d h x : Bool) → (u ≡ true → h ≡ true) → x ≡ true → pick u (pick n true ((d || h) && x)) x ≡ true
unfolding pick
field_has true true d h x f e = refl
field_has true false true h x f e = e
field_has true false false h x f e = rw (f refl) e
field_has false n d h x f e = e

-- a struct's step, where each record of its body has a value
struct_has : (have : List Bool) (p i : ℕ) (rs : List Record) → ((k : ℕ) → k < length rs → is_under p (record_at rs k).parent ≡ true → get_or have (i + k) false ≡ true) → struct_step have p i rs ≡ true
unfolding struct_step record_at
struct_has have p i [] f = refl
struct_has have p i (r ∷ rs) f =
    field_has (is_under p r.parent) (ends_needs r) (can_do_without r) (get_or have i false) _
    (λ u. let z : i ≡ i + 0 = omega arith in rw z (f 0 (omega arith) u))
    (struct_has have p (suc i) rs (λ k h u. let z : suc i + k ≡ i + suc k = omega arith in rw z (f (suc k) (omega arith) u)))

step_by_lem : (a b c s u t : Bool) → s ≡ true → b ≡ false → c ≡ false → pick a s (pick b u (pick c t true)) ≡ true
unfolding pick
step_by_lem true b c s u t e f g = e
step_by_lem false b c s u t e f g = rw (f, g)

module _ (rs : List Record) (w : AfterParents rs) (s : (k : ℕ) → k < length rs → (record_at rs k).kind < 9) where
  -- the step of any record, where those after it have a value
  step_has : (j : ℕ) → j < length rs → ((k : ℕ) → j < k → k < length rs → get_or (finites rs) k false ≡ true) → finite_step rs (finites rs) j (record_at rs j) ≡ true
  unfolding finite_step AfterParents
  step_has j h f =
      let l = s j h in
      step_by_lem (eqb (record_at rs j).kind 8) (eqb (record_at rs j).kind 9) (eqb (record_at rs j).kind 10) _ _ _
      (struct_has (finites rs) j 0 rs (λ k m u. let z : 0 + k ≡ k = omega arith in rw z (after k m (w k m) u (ltb j k) refl)))
      (ne_eqb (record_at rs j).kind 9 (λ e. omega arith))
      (ne_eqb (record_at rs j).kind 10 (λ e. omega arith))
    where
      after : (k : ℕ) → k < length rs → Before k (record_at rs k).parent → is_under j (record_at rs k).parent ≡ true → (b : Bool) → ltb j k ≡ b → get_or (finites rs) k false ≡ true
      after k m p u true z = f k (ltb-true j k z) m
      after k m p u false z = clash_bool (sym (not_under j k (record_at rs k).parent p (ltb-false j k z)) ∙ u)

  from_last : (d j : ℕ) → length rs ≤ j + d → j < length rs → get_or (finites rs) j false ≡ true
  from_last zero j l h = absurd (omega arith)
  from_last (suc d) j l h = closed_at rs j h (step_has j h (λ k g m. from_last d k (omega arith) m))

  structs_finite : AllFinite rs
  structs_finite j h = from_last (length rs) j (omega arith) h

-- the same, over the records as they are kept
pub kept_finite : (t unpacked : List ℕ) (n : ℕ) → AfterParents (records_at t unpacked n) → ((k : ℕ) → k < n → (record_in t unpacked k).kind < 9) → AllFinite (records_at t unpacked n)
kept_finite t unpacked n w s =
    structs_finite (records_at t unpacked n) w (λ k h.
    let m : k < n = rw (length_records t unpacked n 0) at h in
    rw (record_at_lem t unpacked n k m) (s k m))
