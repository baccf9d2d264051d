-- A row of tokens printed as text, and scanned back.
use mathlib.Core.Path.{◌≡◌, refl, ap, ◌∙◌}
use mathlib.Core.Bool.{Bool, true, false, not, ◌&&◌, ◌||◌}
use mathlib.Core.List.{List, [], ◌∷◌, ◌++◌}
use Prim.Native.Nat.{ℕ, suc}
use native.Mathlib.Omega.{arith}
use lib.Dec.{leb, eqb, ltb}
use borrow.Author.Tests.{lt-leb, leb-false, ltb-true, lt-ltb}
use Rattle.classes.specs.Lists.{All}
use Rattle.classes.proofs.Bools.{both_true}
use Rattle.numbers.specs.Limits.{depth_limit}
use Rattle.definition_rules.specs.Words.{class_of, in_run, single}
use Rattle.definition_rules.specs.Scan.{join_run, scan, text_tokens_of, bad_places, braces_after, is_deep_brace, place_if, deep_places, TextToken, run, mark, Item, gap, item, bad, outside}
use Rattle.definition_rules.proofs.ScanLaws.{place_none, at_run, at_single}

-- ---- tokens with a blank after each

unfoldable pub print_token : TextToken → List ℕ → List ℕ
print_token (run w) r = w ++ r
print_token (mark n) r = n ∷ r

unfoldable pub print_tokens : List TextToken → List ℕ
print_tokens [] = []
print_tokens (t ∷ ts) = print_token t (32 ∷ print_tokens ts)

unfoldable pub RunBytes : List ℕ → Type 0
RunBytes [] = ⊥
RunBytes (b ∷ w) = All (λ c. class_of c ≡ in_run) (b ∷ w)

unfoldable pub GoodToken : TextToken → Type 0
GoodToken (run w) = RunBytes w
GoodToken (mark n) = class_of n ≡ single

unfoldable pub place_after : List ℕ → ℕ → ℕ
place_after [] p = suc p
place_after (b ∷ w) p = place_after w (suc p)

-- the items of what is printed
unfoldable pub spelled : ℕ → List TextToken → List Item
spelled p [] = []
spelled p (run w ∷ ts) = item p (run w) ∷ gap ∷ spelled (place_after w p) ts
spelled p (mark n ∷ ts) = item p (mark n) ∷ gap ∷ spelled (suc (suc p)) ts

scan_space : (p : ℕ) (s : List ℕ) → scan outside p (32 ∷ s) ≡ gap ∷ scan outside (suc p) s
unfolding scan class_of
scan_space p s = refl

scan_run : (b : ℕ) (w : List ℕ) (p : ℕ) (r : List ℕ) → All (λ c. class_of c ≡ in_run) (b ∷ w) → scan outside p ((b ∷ w) ++ (32 ∷ r)) ≡ item p (run (b ∷ w)) ∷ gap ∷ scan outside (place_after (b ∷ w) p) r
unfolding All place_after join_run
scan_run b [] p r h = at_run b p _ h.0 ∙ rw (scan_space (suc p) r)
scan_run b (c ∷ w) p r h = at_run b p _ h.0 ∙ rw (scan_run c w (suc p) r h.1)

pub scan_printed : (ts : List TextToken) (p : ℕ) → All GoodToken ts → scan outside p (print_tokens ts) ≡ spelled p ts
unfolding spelled print_tokens print_token All GoodToken RunBytes place_after
scan_printed [] p h = unfold scan in refl
scan_printed (run [] ∷ ts) p h = absurd h.0
scan_printed (run (b ∷ w) ∷ ts) p h = scan_run b w p (print_tokens ts) h.0 ∙ ap (λ q. item p (run (b ∷ w)) ∷ gap ∷ q) (scan_printed ts (place_after w (suc p)) h.1)
scan_printed (mark n ∷ ts) p h = at_single n p (32 ∷ print_tokens ts) h.0 ∙ (ap (λ q. item p (mark n) ∷ q) (scan_space (suc p) (print_tokens ts)) ∙ ap (λ q. item p (mark n) ∷ gap ∷ q) (scan_printed ts (suc (suc p)) h.1))

pub spelled_tokens : (ts : List TextToken) (p : ℕ) → text_tokens_of (spelled p ts) ≡ ts
unfolding spelled text_tokens_of
spelled_tokens [] p = refl
spelled_tokens (run w ∷ ts) p = ap (λ q. run w ∷ q) (spelled_tokens ts (place_after w p))
spelled_tokens (mark n ∷ ts) p = ap (λ q. mark n ∷ q) (spelled_tokens ts (suc (suc p)))

pub spelled_bad : (ts : List TextToken) (p : ℕ) → bad_places (spelled p ts) ≡ []
unfolding spelled bad_places
spelled_bad [] p = refl
spelled_bad (run w ∷ ts) p = spelled_bad ts (place_after w p)
spelled_bad (mark n ∷ ts) p = spelled_bad ts (suc (suc p))

-- ---- depth, on tokens

unfoldable pub roomy : ℕ → ℕ → Bool
roomy d n = not (eqb n 123) || ltb d depth_limit

unfoldable pub nest : ℕ → List TextToken → Bool
nest d [] = true
nest d (run w ∷ r) = nest d r
nest d (mark n ∷ r) = roomy d n && nest (braces_after d n) r

roomy_deep : (d n : ℕ) → roomy d n ≡ true → is_deep_brace d n ≡ false
unfolding roomy is_deep_brace
roomy_deep d n = by (eqb n 123)
  where
    by : (b : Bool) → not b || ltb d depth_limit ≡ true → b && leb depth_limit d ≡ false
    by true e = lt-leb depth_limit d (ltb-true d depth_limit e)
    by false e = refl

deep_roomy : (d n : ℕ) → is_deep_brace d n ≡ false → roomy d n ≡ true
unfolding roomy is_deep_brace
deep_roomy d n = by (eqb n 123)
  where
    by : (b : Bool) → b && leb depth_limit d ≡ false → not b || ltb d depth_limit ≡ true
    by true e = lt-ltb d depth_limit (omega (arith, leb-false depth_limit d e))
    by false e = refl

pub nest_deep : (ts : List TextToken) (d p : ℕ) → nest d ts ≡ true → deep_places d (spelled p ts) ≡ []
unfolding spelled deep_places nest place_if
nest_deep [] d p e = refl
nest_deep (run w ∷ ts) d p e = nest_deep ts d (place_after w p) e
nest_deep (mark n ∷ ts) d p e = let x = both_true (roomy d n) (nest (braces_after d n) ts) e in rw (roomy_deep d n x.0) (nest_deep ts (braces_after d n) (suc (suc p)) x.1)

pub deep_nest : (is : List Item) (d : ℕ) → deep_places d is ≡ [] → nest d (text_tokens_of is) ≡ true
unfolding deep_places nest text_tokens_of
deep_nest [] d e = refl
deep_nest (gap ∷ r) d e = deep_nest r d e
deep_nest (bad p ∷ r) d e = deep_nest r d e
deep_nest (item p (run w) ∷ r) d e = deep_nest r d e
deep_nest (item p (mark n) ∷ r) d e = let x = place_none (is_deep_brace d n) p (deep_places (braces_after d n) r) e in rw (deep_roomy d n x.0) (deep_nest r (braces_after d n) x.1)
