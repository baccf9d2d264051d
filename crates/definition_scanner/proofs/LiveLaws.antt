-- What the items keep when the gaps go, and that places only rise.
use mathlib.Core.Path.{◌≡◌, refl, ap}
use mathlib.Core.Bool.{Bool, true, false}
use mathlib.Core.List.{List, [], ◌∷◌}
use Prim.Native.Nat.{ℕ, suc, ◌≤◌}
use native.Mathlib.Omega.{arith}
use lib.Dec.{eqb}
use lib.ListN.{drop}
use Rattle.classes.specs.Lists.{pick, All}
use Rattle.definition_rules.specs.Words.{ByteClass, in_run, blank, single, slash, other, class_of}
use Rattle.definition_rules.specs.Scan.{run, mark, Item, gap, item, bad, ScanState, outside, line_comment, opening, comment, star, join_run, starts_with, scan, bad_places, is_deep_brace, braces_after, place_if, deep_places, text_tokens_of, places_of}
use Rattle.definition_rules.proofs.ScanLaws.{at_blank, at_single, at_other, at_slash, at_run}
use Rattle.definition_scanner.specs.Live.{live, live_from, Ahead}

pub tokens_live : (is : List Item) → text_tokens_of (live is) ≡ text_tokens_of is
unfolding live text_tokens_of
tokens_live [] = refl
tokens_live (gap ∷ r) = tokens_live r
tokens_live (bad p ∷ r) = tokens_live r
tokens_live (item p t ∷ r) = ap (λ l. t ∷ l) (tokens_live r)

pub places_live : (is : List Item) → places_of (live is) ≡ places_of is
unfolding live places_of
places_live [] = refl
places_live (gap ∷ r) = places_live r
places_live (bad p ∷ r) = places_live r
places_live (item p t ∷ r) = ap (λ l. p ∷ l) (places_live r)

pub bad_live : (is : List Item) → bad_places (live is) ≡ bad_places is
unfolding live bad_places
bad_live [] = refl
bad_live (gap ∷ r) = bad_live r
bad_live (bad p ∷ r) = ap (λ l. p ∷ l) (bad_live r)
bad_live (item p t ∷ r) = bad_live r

pub deep_live : (d : ℕ) (is : List Item) → deep_places d (live is) ≡ deep_places d is
unfolding live deep_places
deep_live d [] = refl
deep_live d (gap ∷ r) = deep_live d r
deep_live d (bad p ∷ r) = deep_live d r
deep_live d (item p (run w) ∷ r) = deep_live d r
deep_live d (item p (mark n) ∷ r) = ap (place_if (is_deep_brace d n) p) (deep_live (braces_after d n) r)

-- ---- places only rise

unfoldable OpensFrom : ℕ → ScanState → Type 0
OpensFrom k outside = Unit {0}
OpensFrom k line_comment = Unit {0}
OpensFrom k (opening q) = k ≤ q
OpensFrom k (comment q) = k ≤ q
OpensFrom k (star q) = k ≤ q

ahead_join : (k b p : ℕ) (is : List Item) → k ≤ p → Ahead k is → Ahead k (join_run b p is)
unfolding join_run Ahead
ahead_join k b p [] h a = (h, tt)
ahead_join k b p (gap ∷ r) h a = (h, a)
ahead_join k b p (bad q ∷ r) h a = (h, a)
ahead_join k b p (item q (run w) ∷ r) h a = (h, a.1)
ahead_join k b p (item q (mark n) ∷ r) h a = (h, a)

ahead_pick : (k : ℕ) (t : Bool) (x y : List Item) → Ahead k x → Ahead k y → Ahead k (pick t x y)
unfolding pick
ahead_pick k true x y a b = a
ahead_pick k false x y a b = b

ahead : (k : ℕ) (st : ScanState) (p : ℕ) (s : List ℕ) → k ≤ p → OpensFrom k st → Ahead k (scan st p s)
unfolding scan Ahead OpensFrom
ahead k outside p [] h c = tt
ahead k outside p (b ∷ s) h c = by (class_of b) refl (λ st g. ahead k st (suc p) s (omega arith) g)
  where
    by : (x : ByteClass) → class_of b ≡ x → ((st : ScanState) → OpensFrom k st → Ahead k (scan st (suc p) s)) → Ahead k (scan outside p (b ∷ s))
    by in_run e f = rw (at_run b p s e) (ahead_join k b p (scan outside (suc p) s) h (f outside tt))
    by blank e f = rw (at_blank b p s e) (f outside tt)
    by single e f = rw (at_single b p s e) (h, f outside tt)
    by slash e f = rw (at_slash b p s e) (ahead_pick k (starts_with 47 s) _ _ (f line_comment tt) (ahead_pick k (starts_with 42 s) _ _ (f (opening p) h) (h, f outside tt)))
    by other e f = rw (at_other b p s e) (h, f outside tt)
ahead k line_comment p [] h c = tt
ahead k line_comment p (b ∷ s) h c = ahead_pick k (eqb b 10) _ _ (ahead k outside (suc p) s (omega arith) tt) (ahead k line_comment (suc p) s (omega arith) tt)
ahead k (opening q) p [] h c = (c, tt)
ahead k (opening q) p (b ∷ s) h c = ahead k (comment q) (suc p) s (omega arith) c
ahead k (comment q) p [] h c = (c, tt)
ahead k (comment q) p (b ∷ s) h c = ahead_pick k (eqb b 42) _ _ (ahead k (star q) (suc p) s (omega arith) c) (ahead k (comment q) (suc p) s (omega arith) c)
ahead k (star q) p [] h c = (c, tt)
ahead k (star q) p (b ∷ s) h c = ahead_pick k (eqb b 47) _ _ (ahead k outside (suc p) s (omega arith) tt) (ahead_pick k (eqb b 42) _ _ (ahead k (star q) (suc p) s (omega arith) c) (ahead k (comment q) (suc p) s (omega arith) c))

ahead_live : (k : ℕ) (is : List Item) → Ahead k is → Ahead k (live is)
unfolding live Ahead
ahead_live k [] a = tt
ahead_live k (gap ∷ r) a = ahead_live k r a
ahead_live k (bad p ∷ r) a = (a.0, ahead_live k r a.1)
ahead_live k (item p t ∷ r) a = (a.0, ahead_live k r a.1)

-- "items of a scan from p have places ≥ p"
pub live_ahead : (k : ℕ) (text : List ℕ) (at : ℕ) → k ≤ at → Ahead k (live_from text at)
live_ahead k text at h = ahead_live k (scan outside at (drop at text)) (ahead k outside at (drop at text) h (unfold OpensFrom in tt))

abbrev pub AtLeast : ℕ → List ℕ → Type 0
AtLeast k = All (λ q. k ≤ q)

pub ahead_bad : (k : ℕ) (is : List Item) → Ahead k is → AtLeast k (bad_places is)
unfolding bad_places Ahead All
ahead_bad k [] a = tt
ahead_bad k (gap ∷ r) a = ahead_bad k r a
ahead_bad k (bad p ∷ r) a = (a.0, ahead_bad k r a.1)
ahead_bad k (item p t ∷ r) a = ahead_bad k r a.1

least_if : (k : ℕ) (t : Bool) (p : ℕ) (r : List ℕ) → k ≤ p → AtLeast k r → AtLeast k (place_if t p r)
unfolding place_if All
least_if k true p r h a = (h, a)
least_if k false p r h a = a

pub ahead_deep : (k d : ℕ) (is : List Item) → Ahead k is → AtLeast k (deep_places d is)
unfolding deep_places Ahead
ahead_deep k d [] a = unfold All in tt
ahead_deep k d (gap ∷ r) a = ahead_deep k d r a
ahead_deep k d (bad p ∷ r) a = ahead_deep k d r a.1
ahead_deep k d (item p (run w) ∷ r) a = ahead_deep k d r a.1
ahead_deep k d (item p (mark n) ∷ r) a = least_if k (is_deep_brace d n) p (deep_places (braces_after d n) r) a.0 (ahead_deep k (braces_after d n) r a.1)
