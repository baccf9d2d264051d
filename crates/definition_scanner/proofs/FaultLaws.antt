-- Refusal 2: the first fault in the text is the least, a law for each answer.
use mathlib.Core.Path.{◌≡◌, refl, ap, sym, ◌∙◌}
use mathlib.Core.Bool.{Bool, true, false, ◌&&◌}
use Rattle.std.specs.Prelude.{Some, None}
use mathlib.Core.List.{List, [], ◌∷◌, ◌++◌}
use Prim.Native.Nat.{ℕ, suc, ◌-◌, ◌≤◌, min}
use native.Mathlib.Omega.{arith}
use lib.Dec.{eqb, leb}
use borrow.Author.Tests.{leb-false}
use Rattle.numbers.specs.Limits.{depth_limit}
use Rattle.classes.specs.Lists.{pick, All}
use Rattle.definition_rules.specs.Scan.{bad_places, deep_places, place_if, is_deep_brace, braces_after, items_of}
use Rattle.definition_rules.specs.Compile.{least_of, faults2}
use Rattle.definition_scanner.specs.Live.{live_from}
use Rattle.definition_scanner.specs.Lexed.{RunAt, MarkAt, BadAt}
use Rattle.definition_scanner.specs.First.{faults_from}
use Rattle.definition_cells.specs.Places.{least_place}
use Rattle.definition_scanner.proofs.LiveLaws.{bad_live, deep_live, live_ahead, AtLeast, ahead_bad, ahead_deep}

pub least_same : (p : ℕ) (r : List ℕ) → AtLeast p r → least_of p r ≡ p
unfolding least_of All
least_same p [] a = refl
least_same p (q ∷ r) a = let e : min p q ≡ p = omega (arith, a.0) in rw e (least_same p r a.1)

least_later : (x p : ℕ) (xs ys : List ℕ) → p ≤ x → AtLeast p xs → AtLeast p ys → least_of x (xs ++ p ∷ ys) ≡ p
unfolding least_of All
least_later x p [] ys h a b = let e : min x p ≡ p = omega arith in ap (λ m. least_of m ys) e ∙ least_same p ys b
least_later x p (q ∷ xs) ys h a b = least_later (min x q) p xs ys (omega (arith, a.0)) a.1 b

-- a place that none of the others comes before
pub first_there : (p : ℕ) (xs ys : List ℕ) → AtLeast p xs → AtLeast p ys → least_place (xs ++ p ∷ ys) ≡ Some p
unfolding least_place All
first_there p [] ys a b = ap Some (least_same p ys b)
first_there p (x ∷ xs) ys a b = ap Some (least_later x p xs ys a.0 a.1 b)

all_append : (P : ℕ → Type 0) (xs ys : List ℕ) → All P xs → All P ys → All P (xs ++ ys)
unfolding All
all_append P [] ys a b = b
all_append P (x ∷ xs) ys a b = (a.0, all_append P xs ys a.1 b)

pub all_faults : (text : List ℕ) → faults2 (items_of text) ≡ faults_from text 0 0
unfolding faults2 faults_from
all_faults text = sym (rw (bad_live (items_of text), deep_live 0 (items_of text)))

module _ (text : List ℕ) (at d : ℕ) where
  pub fault_end : live_from text at ≡ [] → None ≡ least_place (faults_from text at d)
  unfolding faults_from bad_places deep_places least_place
  fault_end e = rw e

  pub fault_bad : {p : ℕ} → BadAt text at p → Some p ≡ least_place (faults_from text at d)
  unfolding faults_from bad_places deep_places
  fault_bad {p} b = rw b.cut (sym (first_there p [] (bad_places b.rest ++ deep_places d b.rest) (unfold All in tt) (all_append (λ q. p ≤ q) _ _ (ahead_bad p b.rest b.later) (ahead_deep p d b.rest b.later))))

  pub fault_run : {a e : ℕ} → RunAt text at a e → faults_from text at d ≡ faults_from text e d
  unfolding faults_from bad_places deep_places
  fault_run r = rw r.cut

  pub fault_mark : {b a e : ℕ} → MarkAt text at b a e → is_deep_brace d b ≡ false → faults_from text at d ≡ faults_from text e (braces_after d b)
  unfolding faults_from bad_places deep_places place_if
  fault_mark m t = rw (m.cut, t)

  pub fault_deep : {b a e : ℕ} → MarkAt text at b a e → is_deep_brace d b ≡ true → Some a ≡ least_place (faults_from text at d)
  unfolding faults_from bad_places deep_places place_if
  fault_deep {b} {a} {e} m t =
      let l = live_ahead a text e (omega (arith, m.next)) in
      rw (m.cut, t) (sym (first_there a (bad_places (live_from text e)) (deep_places (braces_after d b) (live_from text e)) (ahead_bad a _ l) (ahead_deep a (braces_after d b) _ l)))

pub open_few : (d b : ℕ) → is_deep_brace d b ≡ false → d ≤ depth_limit → braces_after d b ≤ depth_limit
unfolding is_deep_brace braces_after pick
open_few d b t h = go (eqb b 123) (eqb b 125) (leb 8 d) refl t
  where
    go : (x y z : Bool) → leb 8 d ≡ z → (x && z) ≡ false → pick x (suc d) (pick y (d - 1) d) ≤ 8
    go true y true q r = absurd (let z : ◌≡◌ {A = ℕ} 0 1 = cc in omega arith)
    go true y false q r = omega (arith, leb-false 8 d q)
    go false true z q r = omega arith
    go false false z q r = h
