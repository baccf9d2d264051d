-- The scan, a law for each path that code takes: where a token, a gap or a bad byte stands first.
use mathlib.Core.Path.{◌≡◌, refl, ap, ◌∙◌}
use mathlib.Core.Bool.{Bool, true, false}
use mathlib.Core.List.{List, [], ◌∷◌, ◌++◌}
use Prim.Native.Nat.{ℕ, suc, ◌+◌}
use native.Mathlib.Omega.{arith}
use lib.ListN.{length}
use Rattle.classes.specs.Lists.{pick, All}
use Rattle.classes.specs.Bytes.{is_run_byte}
use Rattle.definition_rules.specs.Words.{ByteClass, in_run, blank, single, slash, other, class_of}
use Rattle.definition_rules.specs.Scan.{run, mark, Item, gap, item, bad, outside, line_comment, opening, join_run, starts_with, scan, place_if}

pub at_blank : (b p : ℕ) (s : List ℕ) → class_of b ≡ blank → scan outside p (b ∷ s) ≡ gap ∷ scan outside (suc p) s
unfolding scan
at_blank b p s e = rw (e, scan)

pub at_single : (b p : ℕ) (s : List ℕ) → class_of b ≡ single → scan outside p (b ∷ s) ≡ item p (mark b) ∷ scan outside (suc p) s
unfolding scan
at_single b p s e = rw (e, scan)

pub at_other : (b p : ℕ) (s : List ℕ) → class_of b ≡ other → scan outside p (b ∷ s) ≡ bad p ∷ scan outside (suc p) s
unfolding scan
at_other b p s e = rw (e, scan)

pub at_slash : (b p : ℕ) (s : List ℕ) → class_of b ≡ slash → scan outside p (b ∷ s) ≡ pick (starts_with 47 s) (gap ∷ scan line_comment (suc p) s) (pick (starts_with 42 s) (gap ∷ scan (opening p) (suc p) s) (bad p ∷ scan outside (suc p) s))
unfolding scan
at_slash b p s e = rw (e, scan)

pub at_run : (b p : ℕ) (s : List ℕ) → class_of b ≡ in_run → scan outside p (b ∷ s) ≡ join_run b p (scan outside (suc p) s)
unfolding scan
at_run b p s e = rw (e, scan)

pub class_run : (b : ℕ) → is_run_byte b ≡ true → class_of b ≡ in_run
unfolding class_of
class_run b r = rw (r, class_of)

-- no place where none is found
pub place_none : (b : Bool) (p : ℕ) (r : List ℕ) → place_if b p r ≡ [] → (b ≡ false) × (r ≡ [])
unfolding place_if
place_none true p r e = let z : ◌≡◌ {A = ℕ} 0 1 = cc in absurd (omega arith)
place_none false p r e = (refl, e)

-- no run begins there
unfoldable pub StartsNoRun : List ℕ → Type 0
StartsNoRun [] = Unit {0}
StartsNoRun (c ∷ s) = class_of c ≡ in_run → ⊥

abbrev Stops : ℕ → ℕ → List Item → Type 0
Stops b p is = join_run b p is ≡ item p (run (b ∷ [])) ∷ is

stops_slash : (b p q : ℕ) (s : List ℕ) (x y : Bool) → Stops b p (pick x (gap ∷ scan line_comment (suc q) s) (pick y (gap ∷ scan (opening q) (suc q) s) (bad q ∷ scan outside (suc q) s)))
unfolding pick join_run
stops_slash b p q s true y = refl
stops_slash b p q s false true = refl
stops_slash b p q s false false = refl

run_stops : (b p q : ℕ) (r : List ℕ) → StartsNoRun r → Stops b p (scan outside q r)
unfolding StartsNoRun join_run
run_stops b p q [] h = unfold scan in refl
run_stops b p q (c ∷ s) h = by (class_of c) refl
  where
    by : (k : ByteClass) → class_of c ≡ k → Stops b p (scan outside q (c ∷ s))
    by in_run e = absurd (h e)
    by blank e = rw (at_blank c q s e)
    by single e = rw (at_single c q s e)
    by slash e = rw (at_slash c q s e) (stops_slash b p q s (starts_with 47 s) (starts_with 42 s))
    by other e = rw (at_other c q s e)

-- "A run is the longest row of letters, digits, `-`, `_`, `.`, `*`."
pub at_longest_run : (b : ℕ) (w : List ℕ) (p : ℕ) (r : List ℕ) → All (λ c. class_of c ≡ in_run) (b ∷ w) → StartsNoRun r → scan outside p ((b ∷ w) ++ r) ≡ item p (run (b ∷ w)) ∷ scan outside (p + length (b ∷ w)) r
unfolding All join_run
at_longest_run b [] p r a h = at_run b p r a.0 ∙ (run_stops b p (suc p) r h ∙ ap (λ q. item p (run (b ∷ [])) ∷ scan outside q r) (omega arith))
at_longest_run b (c ∷ w) p r a h = at_run b p ((c ∷ w) ++ r) a.0 ∙ (rw (at_longest_run c w (suc p) r a.1 h) (ap (λ q. item p (run (b ∷ c ∷ w)) ∷ scan outside q r) (omega arith)))
