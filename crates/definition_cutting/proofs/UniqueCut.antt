-- T1. Every text is cut into items in exactly one way: the scan's.
use mathlib.Core.Path.{◌≡◌, refl, ap, sym, subst, ◌∙◌}
use mathlib.Core.Bool.{Bool, true, false, not, ◌&&◌, ◌||◌}
use mathlib.Core.List.{List, [], ◌∷◌, ◌++◌}
use Prim.Native.Nat.{ℕ, zero, suc, ◌+◌, ◌≤◌, ◌<◌}
use native.Mathlib.Omega.{arith}
use lib.Dec.{eqb}
use lib.ListN.{length, take, drop, length-drop, take-append-drop}
use borrow.Author.Tests.{eqb-true, eqb-false, not-true}
use Rattle.classes.specs.Lists.{pick, every, run_of, All}
use Rattle.classes.specs.Bytes.{is_run_byte, is_blank, is_mark}
use Rattle.definition_rules.specs.Words.{ByteClass, in_run, class_of}
use Rattle.definition_rules.specs.Words as words
use Rattle.definition_rules.specs.Scan.{run, mark, Item, gap, item, bad, outside, line_comment, opening, comment, starts_with, scan, items_of}
use mathlib.Core.Logic.{◌⊎◌, inl, inr}
use Rattle.definition_rules.proofs.ScanLaws.{at_blank, at_single, at_other, at_slash, at_longest_run, StartsNoRun, class_run}
use Rattle.definition_scanner.specs.Live.{live, live_from}
use Rattle.definition_scanner.proofs.Steps.{not_run, class_other, class_slash, comment_step, comment_stop}
use Rattle.definition_rules.specs.Cut.{StopsRun, NoLf, NoClose, Stray, Cut, ends, blank, line, last_line, block, endless, longest, single, other}

-- ---- the scan of each part

and_true : (a b : Bool) → (a && b) ≡ true → (a ≡ true) × (b ≡ true)
and_true true b e = (refl, e)
and_true false b e = absurd (let n : ◌≡◌ {A = ℕ} 0 1 = cc in omega arith)

module _ (s : List ℕ) where
  line_skip : (w : List ℕ) (p : ℕ) → NoLf w → scan line_comment p (w ++ 10 ∷ s) ≡ scan outside (suc (p + length w)) s
  unfolding every scan pick
  line_skip [] p h = ap (λ q. scan outside q s) (omega arith)
  line_skip (b ∷ w) p h =
      let a = and_true (not (eqb b 10)) (every (λ b. not (eqb b 10)) w) h in
      rw (not-true (eqb b 10) a.0) (line_skip w (suc p) a.1 ∙ ap (λ q. scan outside q s) (omega arith))

  block_skip : (q : ℕ) (w : List ℕ) (p : ℕ) → NoClose w → scan (comment q) p (w ++ 42 ∷ 47 ∷ s) ≡ scan outside (p + length w + 2) s
  unfolding NoClose
  block_skip q [] p h = comment_stop q p 42 47 s refl ∙ ap (λ r. scan outside r s) (omega arith)
  block_skip q (b ∷ []) p h = comment_step q p b 42 (47 ∷ s) (and_no (eqb b 42)) ∙ (block_skip q [] (suc p) tt ∙ ap (λ r. scan outside r s) (omega arith))
    where
      and_no : (t : Bool) → (t && false) ≡ false
      and_no true = refl
      and_no false = refl
  block_skip q (b ∷ c ∷ w) p h = comment_step q p b c (w ++ 42 ∷ 47 ∷ s) h.0 ∙ (block_skip q (c ∷ w) (suc p) h.1 ∙ ap (λ r. scan outside r s) (omega arith))

line_last : (w : List ℕ) (p : ℕ) → NoLf w → scan line_comment p w ≡ []
unfolding every scan pick
line_last [] p h = refl
line_last (b ∷ w) p h =
    let a = and_true (not (eqb b 10)) (every (λ b. not (eqb b 10)) w) h in
    rw (not-true (eqb b 10) a.0) (line_last w (suc p) a.1)

block_never : (q : ℕ) (w : List ℕ) (p : ℕ) → NoClose w → scan (comment q) p w ≡ bad q ∷ []
unfolding NoClose scan pick
block_never q [] p h = refl
block_never q (b ∷ []) p h = by (eqb b 42)
  where
    by : (t : Bool) → pick t (bad q ∷ []) (bad q ∷ []) ≡ bad q ∷ []
    by true = refl
    by false = refl
block_never q (b ∷ c ∷ w) p h = comment_step q p b c w h.0 ∙ block_never q (c ∷ w) (suc p) h.1

run_bytes_lem : (w : List ℕ) → every is_run_byte w ≡ true → All (λ c. class_of c ≡ in_run) w
unfolding every All
run_bytes_lem [] h = tt
run_bytes_lem (b ∷ w) h = let a = and_true (is_run_byte b) (every is_run_byte w) h in (class_run b a.0, run_bytes_lem w a.1)

run_stops : (s : List ℕ) → StopsRun s → StartsNoRun s
unfolding StopsRun StartsNoRun
run_stops [] h = tt
run_stops (c ∷ s) h = not_run c h

at_comment : (x : ℕ) (at : ℕ) (s : List ℕ) → scan outside at (47 ∷ x ∷ s) ≡ pick (eqb x 47) (gap ∷ scan line_comment (suc at) (x ∷ s)) (pick (eqb x 42) (gap ∷ scan (opening at) (suc at) (x ∷ s)) (bad at ∷ scan outside (suc at) (x ∷ s)))
unfolding starts_with
at_comment x at s = at_slash 47 at (x ∷ s) (class_slash 47 refl)

stray_scan : (at : ℕ) (s : List ℕ) → Stray s → scan outside at (47 ∷ s) ≡ bad at ∷ scan outside (suc at) s
unfolding Stray starts_with pick
stray_scan at [] h = at_slash 47 at [] (class_slash 47 refl)
stray_scan at (c ∷ s) h = at_comment c at s ∙ rw (h.0, h.1)

-- ---- a blank or a mark is of no other class

or_cases : (b n : ℕ) (rest : Bool) (k : ByteClass) → (eqb b n || rest) ≡ true → class_of n ≡ k → (rest ≡ true → class_of b ≡ k) → class_of b ≡ k
or_cases b n rest k h e f = by (eqb b n) refl h
  where
    by : (t : Bool) → eqb b n ≡ t → (t || rest) ≡ true → class_of b ≡ k
    by true q r = rw (eqb-true b n q) e
    by false q r = f r

blank_class : (b : ℕ) → is_blank b ≡ true → class_of b ≡ words.blank
unfolding is_blank class_of is_run_byte is_mark
blank_class b h = or_cases b 32 _ _ h refl (λ h. or_cases b 9 _ _ h refl (λ h. or_cases b 13 _ _ h refl (λ h. rw (eqb-true b 10 h))))

mark_class : (b : ℕ) → is_mark b ≡ true → class_of b ≡ words.single
unfolding is_blank class_of is_run_byte is_mark
mark_class b h = or_cases b 60 _ _ h refl (λ h. or_cases b 62 _ _ h refl (λ h. or_cases b 91 _ _ h refl (λ h. or_cases b 93 _ _ h refl (λ h. or_cases b 123 _ _ h refl (λ h. or_cases b 125 _ _ h refl (λ h. or_cases b 59 _ _ h refl (λ h. rw (eqb-true b 63 h))))))))

-- ---- one cut only

scan_line : (at : ℕ) (w s : List ℕ) → NoLf w → live (scan outside at (47 ∷ 47 ∷ (w ++ 10 ∷ s))) ≡ live (scan outside (at + 3 + length w) s)
unfolding live pick
scan_line at w s h = ap live (at_comment 47 at (w ++ 10 ∷ s) ∙ ap (λ l. gap ∷ l) (line_from at w s h))
  where
    line_from : (at : ℕ) (w s : List ℕ) → NoLf w → scan line_comment (suc at) (47 ∷ (w ++ 10 ∷ s)) ≡ scan outside (at + 3 + length w) s
    line_from at w s h = unfold scan pick in (line_skip s w (suc (suc at)) h ∙ ap (λ q. scan outside q s) (omega arith))

last_from : (at : ℕ) (w : List ℕ) → NoLf w → scan line_comment (suc at) (47 ∷ w) ≡ []
unfolding scan pick
last_from at w h = line_last w (suc (suc at)) h

scan_last : (at : ℕ) (w : List ℕ) → NoLf w → live (scan outside at (47 ∷ 47 ∷ w)) ≡ []
unfolding live pick
scan_last at w h = ap live (at_comment 47 at w ∙ ap (λ l. gap ∷ l) (last_from at w h))

block_from : (at : ℕ) (w s : List ℕ) → NoClose w → scan (opening at) (suc at) (42 ∷ (w ++ 42 ∷ 47 ∷ s)) ≡ scan outside (at + 4 + length w) s
unfolding scan
block_from at w s h = block_skip s at w (suc (suc at)) h ∙ ap (λ q. scan outside q s) (omega arith)

scan_block : (at : ℕ) (w s : List ℕ) → NoClose w → live (scan outside at (47 ∷ 42 ∷ (w ++ 42 ∷ 47 ∷ s))) ≡ live (scan outside (at + 4 + length w) s)
unfolding live pick
scan_block at w s h = ap live (at_comment 42 at (w ++ 42 ∷ 47 ∷ s) ∙ ap (λ l. gap ∷ l) (block_from at w s h))

endless_from : (at : ℕ) (w : List ℕ) → NoClose w → scan (opening at) (suc at) (42 ∷ w) ≡ bad at ∷ []
unfolding scan
endless_from at w h = block_never at w (suc (suc at)) h

scan_endless : (at : ℕ) (w : List ℕ) → NoClose w → live (scan outside at (47 ∷ 42 ∷ w)) ≡ bad at ∷ []
unfolding live pick
scan_endless at w h = ap live (at_comment 42 at w ∙ ap (λ l. gap ∷ l) (endless_from at w h))

scan_run : (at b : ℕ) (w s : List ℕ) → every is_run_byte (b ∷ w) ≡ true → StopsRun s → live (scan outside at ((b ∷ w) ++ s)) ≡ item at (run (b ∷ w)) ∷ live (scan outside (at + length (b ∷ w)) s)
unfolding live
scan_run at b w s h r = ap live (at_longest_run b w at s (run_bytes_lem (b ∷ w) h) (run_stops s r))

scan_blank : (at b : ℕ) (s : List ℕ) → is_blank b ≡ true → live (scan outside at (b ∷ s)) ≡ live (scan outside (suc at) s)
unfolding live
scan_blank at b s h = ap live (at_blank b at s (blank_class b h))

scan_mark : (at b : ℕ) (s : List ℕ) → is_mark b ≡ true → live (scan outside at (b ∷ s)) ≡ item at (mark b) ∷ live (scan outside (suc at) s)
unfolding live
scan_mark at b s h = ap live (at_single b at s (mark_class b h))

scan_bad : (at b : ℕ) (s : List ℕ) → is_run_byte b ≡ false → is_blank b ≡ false → is_mark b ≡ false → (b ≡ 47 → Stray s) → live (scan outside at (b ∷ s)) ≡ bad at ∷ live (scan outside (suc at) s)
unfolding live
scan_bad at b s r k m f = by (eqb b 47) refl
  where
    by : (t : Bool) → eqb b 47 ≡ t → live (scan outside at (b ∷ s)) ≡ bad at ∷ live (scan outside (suc at) s)
    by true e = let q = eqb-true b 47 e in rw q (ap live (stray_scan at s (f q)))
    by false e = ap live (at_other b at s (class_other b r k m (eqb-false b 47 e)))

scan_none : (at : ℕ) → live (scan outside at []) ≡ []
unfolding live scan
scan_none at = refl

-- "the only one": whatever cut a text has, it is the scan's
pub cut_is : {at : ℕ} {t : List ℕ} {is : List Item} → Cut at t is → is ≡ live (scan outside at t)
cut_is (ends {at}) = sym (scan_none at)
cut_is (blank {at} {b} {s} h c) = cut_is c ∙ sym (scan_blank at b s h)
cut_is (line {at} w s e h c) = rw e (cut_is c ∙ sym (scan_line at w s h))
cut_is (last_line {at} w e h) = rw e (sym (scan_last at w h))
cut_is (block {at} w s e h c) = rw e (cut_is c ∙ sym (scan_block at w s h))
cut_is (endless {at} w e h) = rw e (sym (scan_endless at w h))
cut_is (longest {at} b w s e h r c) = rw e (ap (λ l. item at (run (b ∷ w)) ∷ l) (cut_is c) ∙ sym (scan_run at b w s h r))
cut_is (single {at} {b} {s} h c) = ap (λ l. item at (mark b) ∷ l) (cut_is c) ∙ sym (scan_mark at b s h)
cut_is (other {at} {b} {s} r k m f c) = ap (λ l. bad at ∷ l) (cut_is c) ∙ sym (scan_bad at b s r k m f)

-- ---- there is a cut

record LineSplit (s : List ℕ) : Type 0 where
  front : List ℕ
  rest : List ℕ
  is : s ≡ front ++ 10 ∷ rest
  none : NoLf front
  less : length rest < length s

split_line : (s : List ℕ) → ◌⊎◌ (NoLf s) (LineSplit s)
unfolding every
split_line [] = inl refl
split_line (b ∷ s) = by (eqb b 10) refl (split_line s)
  where
    by : (t : Bool) → eqb b 10 ≡ t → ◌⊎◌ (NoLf s) (LineSplit s) → ◌⊎◌ (NoLf (b ∷ s)) (LineSplit (b ∷ s))
    by true e x = let q = eqb-true b 10 e in inr (record { front = []; rest = s; is = rw q; none = refl; less = omega arith })
    by false e (inl n) = inl (rw e n)
    by false e (inr x) = inr (record { front = b ∷ x.front; rest = x.rest; is = ap (λ l. b ∷ l) x.is; none = rw e x.none; less = omega (arith, x.less) })

record BlockSplit (s : List ℕ) : Type 0 where
  front : List ℕ
  rest : List ℕ
  is : s ≡ front ++ 42 ∷ 47 ∷ rest
  none : NoClose front
  less : length rest < length s

pair_is : (b c : ℕ) → (eqb b 42 && eqb c 47) ≡ true → (b ≡ 42) × (c ≡ 47)
pair_is b c h = let a = and_true (eqb b 42) (eqb c 47) h in (eqb-true b 42 a.0, eqb-true c 47 a.1)

more_close : (b c : ℕ) (s w r : List ℕ) → (eqb b 42 && eqb c 47) ≡ false → c ∷ s ≡ w ++ 42 ∷ 47 ∷ r → NoClose w → NoClose (b ∷ w)
unfolding NoClose
more_close b c s [] r h e n = tt
more_close b c s (d ∷ w) r h e n = let q : c ≡ d = cc in (rw q at h, n)

split_block : (s : List ℕ) → ◌⊎◌ (NoClose s) (BlockSplit s)
unfolding NoClose
split_block [] = inl tt
split_block (b ∷ []) = inl tt
split_block (b ∷ c ∷ s) = by (eqb b 42 && eqb c 47) refl (split_block (c ∷ s))
  where
    by : (t : Bool) → (eqb b 42 && eqb c 47) ≡ t → ◌⊎◌ (NoClose (c ∷ s)) (BlockSplit (c ∷ s)) → ◌⊎◌ (NoClose (b ∷ c ∷ s)) (BlockSplit (b ∷ c ∷ s))
    by true e x = let q = pair_is b c e in inr (record { front = []; rest = s; is = rw (q.0, q.1); none = tt; less = omega arith })
    by false e (inl n) = inl (e, n)
    by false e (inr x) = inr (record { front = b ∷ x.front; rest = x.rest; is = ap (λ l. b ∷ l) x.is; none = more_close b c s x.front x.rest e x.is x.none; less = omega (arith, x.less) })

abbrev Cuts : ℕ → List ℕ → Type 0
Cuts at s = (is : List Item) × Cut at s is

run_all : (s : List ℕ) → every is_run_byte (take (run_of is_run_byte s) s) ≡ true
unfolding run_of every
run_all [] = refl
run_all (b ∷ s) = by (is_run_byte b) refl (run_all s)
  where
    by : (t : Bool) → is_run_byte b ≡ t → every is_run_byte (take (run_of is_run_byte s) s) ≡ true → every is_run_byte (take (elim t [ true ↦ suc (run_of is_run_byte s) | false ↦ 0 ]) (b ∷ s)) ≡ true
    by true e h = rw e h
    by false e h = refl

run_past : (s : List ℕ) → StopsRun (drop (run_of is_run_byte s) s)
unfolding run_of StopsRun
run_past [] = tt
run_past (b ∷ s) = by (is_run_byte b) refl (run_past s)
  where
    by : (t : Bool) → is_run_byte b ≡ t → StopsRun (drop (run_of is_run_byte s) s) → StopsRun (drop (elim t [ true ↦ suc (run_of is_run_byte s) | false ↦ 0 ]) (b ∷ s))
    by true e h = h
    by false e h = e

every_cons : (b : ℕ) (w : List ℕ) → is_run_byte b ≡ true → every is_run_byte w ≡ true → every is_run_byte (b ∷ w) ≡ true
unfolding every
every_cons b w e h = rw e h

module _ (n : ℕ) (f : (at : ℕ) (s : List ℕ) → length s ≤ n → Cuts at s) (at : ℕ) where
  cut_run : (b : ℕ) (s : List ℕ) → length s ≤ n → is_run_byte b ≡ true → Cuts at (b ∷ s)
  cut_run b s h r =
      let k : ℕ = run_of is_run_byte s in
      let c = f (at + length (b ∷ take k s)) (drop k s) (simp length-drop (omega arith)) in
      (item at (run (b ∷ take k s)) ∷ c.0, longest b (take k s) (drop k s) (ap (λ l. b ∷ l) (sym (take-append-drop k s))) (every_cons b (take k s) r (run_all s)) (run_past s) c.1)

  cut_other : (b : ℕ) (s : List ℕ) → length s ≤ n → is_run_byte b ≡ false → is_blank b ≡ false → is_mark b ≡ false → (b ≡ 47 → Stray s) → Cuts at (b ∷ s)
  cut_other b s h r k m g = let c = f (suc at) s h in (bad at ∷ c.0, other r k m g c.1)

  cut_line : (b c : ℕ) (s : List ℕ) → suc (length s) ≤ n → b ≡ 47 → c ≡ 47 → Cuts at (b ∷ c ∷ s)
  cut_line b c s h e g = by (split_line s)
    where
      by : ◌⊎◌ (NoLf s) (LineSplit s) → Cuts at (b ∷ c ∷ s)
      by (inl q) = ([], last_line {t = b ∷ c ∷ s} s (rw (e, g)) q)
      by (inr x) = let d = f (at + 3 + length x.front) x.rest (omega (arith, x.less)) in (d.0, line {t = b ∷ c ∷ s} x.front x.rest (rw (e, g) (ap (λ l. 47 ∷ 47 ∷ l) x.is)) x.none d.1)

  cut_block : (b c : ℕ) (s : List ℕ) → suc (length s) ≤ n → b ≡ 47 → c ≡ 42 → Cuts at (b ∷ c ∷ s)
  cut_block b c s h e g = by (split_block s)
    where
      by : ◌⊎◌ (NoClose s) (BlockSplit s) → Cuts at (b ∷ c ∷ s)
      by (inl q) = (bad at ∷ [], endless {t = b ∷ c ∷ s} s (rw (e, g)) q)
      by (inr x) = let d = f (at + 4 + length x.front) x.rest (omega (arith, x.less)) in (d.0, block {t = b ∷ c ∷ s} x.front x.rest (rw (e, g) (ap (λ l. 47 ∷ 42 ∷ l) x.is)) x.none d.1)

  cut_slash : (b : ℕ) (s : List ℕ) → length s ≤ n → is_run_byte b ≡ false → is_blank b ≡ false → is_mark b ≡ false → b ≡ 47 → Cuts at (b ∷ s)
  unfolding Stray
  cut_slash b [] h r k m e = cut_other b [] h r k m (λ _. tt)
  cut_slash b (c ∷ s) h r k m e = by (eqb c 47) (eqb c 42) refl refl
    where
      by : (x y : Bool) → eqb c 47 ≡ x → eqb c 42 ≡ y → Cuts at (b ∷ c ∷ s)
      by true y p q = cut_line b c s h e (eqb-true c 47 p)
      by false true p q = cut_block b c s h e (eqb-true c 42 q)
      by false false p q = cut_other b (c ∷ s) h r k m (λ _. (p, q))

  cut_step : (b : ℕ) (s : List ℕ) → length s ≤ n → Cuts at (b ∷ s)
  cut_step b s h = by (is_run_byte b) (is_blank b) (is_mark b) (eqb b 47) refl refl refl refl
    where
      by : (r k m e : Bool) → is_run_byte b ≡ r → is_blank b ≡ k → is_mark b ≡ m → eqb b 47 ≡ e → Cuts at (b ∷ s)
      by true k m e p q u v = cut_run b s h p
      by false true m e p q u v = let c = f (suc at) s h in (c.0, blank q c.1)
      by false false true e p q u v = let c = f (suc at) s h in (item at (mark b) ∷ c.0, single u c.1)
      by false false false true p q u v = cut_slash b s h p q u (eqb-true b 47 v)
      by false false false false p q u v = cut_other b s h p q u (λ z. absurd (eqb-false b 47 v z))

abbrev CutsWithin : ℕ → Type 0
CutsWithin n = (at : ℕ) (s : List ℕ) → length s ≤ n → Cuts at s

cuts_none : CutsWithin 0
cuts_none at [] h = ([], ends)
cuts_none at (b ∷ s) h = absurd (omega arith)

cuts_more : (n : ℕ) → CutsWithin n → CutsWithin (suc n)
cuts_more n f at [] h = ([], ends)
cuts_more n f at (b ∷ s) h = cut_step n f at b s (omega arith)

cuts : (n : ℕ) → CutsWithin n
cuts zero = cuts_none
cuts (suc n) = cuts_more n (cuts n)

-- T1. "the scan cuts every text uniquely": there is a cut, and every cut is the scan's
pub one_cut : (text : List ℕ) → Cut 0 text (live_from text 0)
one_cut text = let c = cuts (length text) 0 text (omega arith) in subst (Cut 0 text) (cut_is c.1) c.1

pub only_cut : (text : List ℕ) (is : List Item) → Cut 0 text is → is ≡ live (items_of text)
only_cut text is c = cut_is c
