-- The least place: of a join, of a list built place by place, of a loop's rest. Assumes nothing.
use mathlib.Core.Path.{◌≡◌, refl, sym, ap, ◌∙◌}
use mathlib.Core.Bool.{Bool, true, false, ◌||◌}
use Rattle.std.specs.Prelude.{Option, Some, None}
use mathlib.Core.List.{List, [], ◌∷◌, ◌++◌}
use Prim.Native.Nat.{ℕ, zero, suc, ◌+◌, ◌-◌, ◌<◌, ◌≤◌, min}
use native.Mathlib.Numerals.{add-one}
use native.Mathlib.Omega.{arith}
use Rattle.classes.specs.Lists.{pick}
use Rattle.definition_rules.specs.Scan.{place_if}
use Rattle.definition_rules.specs.Declarations.{Declaration, Spots, Noted, noted}
use Rattle.definition_rules.specs.Faults.{spots_where}
use Rattle.definition_rules.specs.Compile.{least_of}
use Rattle.definition_cells.specs.Cells.{noted_at, noted_from}
use Rattle.definition_cells.specs.Places.{least_place, lesser, at_if, least_from, spot_of}

-- ---- the lesser of two

pub lesser_none : (x : Option ℕ) → lesser x None ≡ x
unfolding lesser
lesser_none None = refl
lesser_none (Some p) = refl

pub lesser_assoc : (x y z : Option ℕ) → lesser (lesser x y) z ≡ lesser x (lesser y z)
unfolding lesser
lesser_assoc None y z = refl
lesser_assoc (Some p) None z = refl
lesser_assoc (Some p) (Some q) None = refl
lesser_assoc (Some p) (Some q) (Some r) = ap Some (omega arith)

pub lesser_comm : (x y : Option ℕ) → lesser x y ≡ lesser y x
unfolding lesser
lesser_comm None y = sym (lesser_none y)
lesser_comm (Some p) None = refl
lesser_comm (Some p) (Some q) = ap Some (omega arith)

-- two pairs, taken crosswise
pub lesser_cross : (a b x y : Option ℕ) → lesser (lesser a x) (lesser b y) ≡ lesser (lesser a b) (lesser x y)
lesser_cross a b x y =
    lesser_assoc a x (lesser b y)
    ∙ (ap (lesser a) (sym (lesser_assoc x b y) ∙ (ap (λ z. lesser z y) (lesser_comm x b) ∙ lesser_assoc b x y))
    ∙ sym (lesser_assoc a b (lesser x y)))

-- two faults at one place
pub lesser_same : (a b : Bool) (p : ℕ) → lesser (at_if a p) (at_if b p) ≡ at_if (a || b) p
unfolding lesser pick
lesser_same true true p = ap Some (omega arith)
lesser_same true false p = refl
lesser_same false b p = refl

-- ---- the least of a list

least_of_lem : (p : ℕ) (r : List ℕ) → Some (least_of p r) ≡ lesser (Some p) (least_place r)
unfolding least_of least_place lesser
least_of_lem p [] = refl
least_of_lem p (q ∷ r) = least_of_lem (min p q) r ∙ (lesser_assoc (Some p) (Some q) (least_place r) ∙ ap (lesser (Some p)) (sym (least_of_lem q r)))

pub least_cons : (p : ℕ) (r : List ℕ) → least_place (p ∷ r) ≡ lesser (Some p) (least_place r)
unfolding least_place
least_cons p r = least_of_lem p r

pub least_if : (b : Bool) (p : ℕ) (r : List ℕ) → least_place (place_if b p r) ≡ lesser (at_if b p) (least_place r)
unfolding place_if pick lesser
least_if true p r = least_cons p r
least_if false p r = refl

pub least_append : (x y : List ℕ) → least_place (x ++ y) ≡ lesser (least_place x) (least_place y)
unfolding lesser least_place
least_append [] y = refl
least_append (p ∷ x) y =
    least_of_lem p (x ++ y)
    ∙ (rw (least_append x y)
    (sym (lesser_assoc (Some p) (least_place x) (least_place y)) ∙ ap (λ z. lesser z (least_place y)) (sym (least_of_lem p x))))

-- ---- the least of a row

module _ (f g : ℕ → Option ℕ) where
  pub from_both : (n i : ℕ) → lesser (least_from f n i) (least_from g n i) ≡ least_from (λ j. lesser (f j) (g j)) n i
  unfolding least_from lesser
  from_both zero i = refl
  from_both (suc n) i = lesser_cross (f i) (g i) (least_from f n (suc i)) (least_from g n (suc i)) ∙ ap (lesser (lesser (f i) (g i))) (from_both n (suc i))

  pub from_same : ((j : ℕ) → f j ≡ g j) → (n i : ℕ) → least_from f n i ≡ least_from g n i
  unfolding least_from
  from_same h zero i = refl
  from_same h (suc n) i = rw (h i, from_same h n (suc i))

pub spots_from : (f : Declaration → Bool) (at : Spots → ℕ) (t cs : List ℕ) (n i : ℕ)
    → least_place (spots_where f at (noted_from t cs n i)) ≡ least_from (λ j. spot_of f at (noted_at t cs j)) n i
unfolding least_from spots_where noted_from least_place
spots_from f at t cs zero i = refl
spots_from f at t cs (suc n) i = one (noted_at t cs i) ∙ ap (lesser (spot_of f at (noted_at t cs i))) (spots_from f at t cs n (suc i))
  where
    one : (x : Noted) → least_place (spots_where f at (x ∷ noted_from t cs n (suc i))) ≡ lesser (spot_of f at x) (least_place (spots_where f at (noted_from t cs n (suc i))))
    one (noted s d) = unfold spot_of in least_if (f d) (at s) (spots_where f at (noted_from t cs n (suc i)))

-- ---- a loop over a row: best is the least so far

module _ (f : ℕ → Option ℕ) (n i : ℕ) (all best x : Option ℕ) (inv : all ≡ lesser best (least_from f (n - i) i)) where
  pub loop_more : i < n → x ≡ f i → all ≡ lesser (lesser best x) (least_from f (n - (i + 1)) (i + 1))
  unfolding least_from
  loop_more h e =
      let p : n - i ≡ suc (n - (i + 1)) = omega arith in
      inv ∙ (rw (p, e, add-one i) (sym (lesser_assoc best (f i) (least_from f (n - suc i) (suc i)))))

  pub loop_end : n ≤ i → best ≡ all
  unfolding least_from
  loop_end h = let p : n - i ≡ 0 = omega arith in sym (inv ∙ rw p (lesser_none best))

pub loop_start : (f : ℕ → Option ℕ) (n : ℕ) → least_from f n 0 ≡ lesser None (least_from f (n - 0) 0)
unfolding lesser
loop_start f n = let p : n - 0 ≡ n = omega arith in rw p

-- no place, no fault
pub least_none : (l : List ℕ) → least_place l ≡ None → l ≡ []
unfolding least_place
least_none [] e = refl
least_none (p ∷ l) e = let z : ◌≡◌ {A = ℕ} 0 1 = cc in absurd (omega arith)
