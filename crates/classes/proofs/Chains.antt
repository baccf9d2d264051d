-- What std's chains over a row of bytes answer, in the words of `Lists`: `search (rules, every_of)` and the like prove it.
use Prim.Native.Nat.{ℕ, suc, ◌+◌}
use mathlib.Core.Bool.{Bool, true, false, cond}
use mathlib.Core.List.{List, [], ◌∷◌}
use mathlib.Core.Path.{◌≡◌, refl, ◌∙◌}
use native.Mathlib.Omega.{arith}
use denote.Param.Members.{Mut}
use denote.Ref.{Bor}
use lib.ListN.{length}
use Rattle.std.proofs.Common.{Option, Iter}
use Rattle.std.specs.declared.iter.TakeWhile.{TakeWhile}
use Rattle.std.proofs.iter.Yields.{fronts}
use Rattle.std.proofs.lemmas.List.Folds.{length-prefix_len}
use Rattle.std.proofs.lemmas.Iterator.{YieldsList-from_slice}
use Rattle.std.proofs.lemmas.Iterator.Consumers.{count_from_yields_List}
use Rattle.std.proofs.lemmas.Iterator.Search.{all_from_yields_List, any_from_yields_List, YieldsList-from_take_while}
use Rattle.std.specs.Fn.{Called, CalledAt}
use Rattle.std.specs.Iterator.{YieldsThen, Drains}
use Rattle.std.specs.Iterator.Adapters.{take_while_source, take_while_done, take_while_callee, take_while_steps}
use Rattle.std.specs.List.{FoldsTo, list_all, list_any, prefix_len}
use Rattle.std.specs.Option.{MatchOption}
use Rattle.std.specs.Slice.Iter.{iter_rest}
use Rattle.classes.specs.Lists.{every, some, run_of}

module _ (f : ℕ → Bool) where
  pub every_all : (l : List ℕ) → list_all f l ≡ every f l
  unfolding every
  every_all [] = refl
  every_all (b ∷ l) = rw (every_all l)

  pub some_any : (l : List ℕ) → list_any f l ≡ some f l
  unfolding some
  some_any [] = refl
  some_any (b ∷ l) = rw (some_any l)

  pub run_prefix : (l : List ℕ) → prefix_len f l ≡ run_of f l
  unfolding run_of
  run_prefix [] = refl
  run_prefix (b ∷ l) = one_more (f b) (run_prefix l)
    where
      one_more : (t : Bool) {m n : ℕ} → m ≡ n → cond t (1 + m) 0 ≡ elim t [ true ↦ suc n | false ↦ 0 ]
      one_more true e = rw e (omega arith)
      one_more false e = refl

-- A chain from a slice, whose closure f computes a test and leaves itself as it was: `s.iter().all(f)`,
pub every_from_all : {F : Type 0} {g : Mut F (Bor ℕ × Unit {0}) Bool} {s : Iter ℕ} (test : ℕ → Bool) (l : List ℕ) (u : Iter ℕ) (f : F) (r : Bool) → (xs : List (Bor ℕ)) × (o : Option (Bor ℕ)) × (j : F) × YieldsThen fronts s xs o u × FoldsTo (λ p x q. Called g p (x, tt) true q) f xs j × MatchOption o (r ≡ true) (λ x. (r ≡ false) × ((h : F) × Called g j (x, tt) false h)) → iter_rest s ≡ l → ((x : Bor ℕ) (b : Bool) (q : F) → Called g f (x, tt) b q → (q ≡ f) × (b ≡ test x.now)) → r ≡ every test l
every_from_all test l u f r ran rest calls = all_from_yields_List test u f r ran (YieldsList-from_slice l rest) calls ∙ every_all test l

-- `s.iter().any(f)`
pub some_from_any : {F : Type 0} {g : Mut F (Bor ℕ × Unit {0}) Bool} {s : Iter ℕ} (test : ℕ → Bool) (l : List ℕ) (u : Iter ℕ) (f : F) (r : Bool) → (xs : List (Bor ℕ)) × (o : Option (Bor ℕ)) × (j : F) × YieldsThen fronts s xs o u × FoldsTo (λ p x q. Called g p (x, tt) false q) f xs j × MatchOption o (r ≡ false) (λ x. (r ≡ true) × ((h : F) × Called g j (x, tt) true h)) → iter_rest s ≡ l → ((x : Bor ℕ) (b : Bool) (q : F) → Called g f (x, tt) b q → (q ≡ f) × (b ≡ test x.now)) → r ≡ some test l
some_from_any test l u f r ran rest calls = any_from_yields_List test u f r ran (YieldsList-from_slice l rest) calls ∙ some_any test l

-- and `s.iter().take_while(f).count()`
pub run_from_count : {F : Type 0} {g : Mut F (Bor (Bor ℕ) × Unit {0}) Bool} (test : ℕ → Bool) (l : List ℕ) (s : TakeWhile (Iter ℕ) F) (f : F) (n : ℕ) → ((xs : List (Bor ℕ)) × Drains (take_while_steps fronts g) s xs × (n ≡ length xs)) → iter_rest (take_while_source s) ≡ l → take_while_callee s ≡ f → take_while_done s ≡ false → ((x : Bor ℕ) (b : Bool) (q : F) → CalledAt g f x b q → (q ≡ f) × (b ≡ test x.now)) → n ≡ run_of test l
run_from_count {g = g} test l s f n ran rest callee done calls = count_from_yields_List s n ran (YieldsList-from_take_while g test (YieldsList-from_slice l rest) callee done calls) ∙ length-prefix_len test l ∙ run_prefix test l
