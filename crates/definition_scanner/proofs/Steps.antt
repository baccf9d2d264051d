-- The scan at a place of a text, a law for each path of the cursor.
use mathlib.Core.Path.{◌≡◌, refl, ap, sym, ◌∙◌}
use mathlib.Core.Bool.{Bool, true, false, ◌&&◌}
use mathlib.Core.List.{List, [], ◌∷◌, ◌++◌}
use Prim.Native.Nat.{ℕ, suc, ◌+◌, ◌-◌, ◌≤◌, ◌<◌}
use native.Mathlib.Numerals.{add-one}
use native.Mathlib.Omega.{arith}
use lib.Dec.{eqb}
use lib.ListN.{length, get_or, take, drop, length-drop, drop_of_length-le, take-append-drop}
use lib.Seq.{drop-cons, drop-drop, length-take-le}
use borrow.Author.Tests.{eq-eqb, ne_eqb}
use Rattle.classes.specs.Lists.{pick, run_of, All, part}
use Rattle.classes.specs.Bytes.{is_run_byte, is_blank, is_mark}
use Rattle.classes.proofs.Rows.{run_within}
use Rattle.definition_rules.specs.Words.{in_run, blank, single, slash, other, class_of}
use Rattle.definition_rules.specs.Scan.{run, gap, item, bad, outside, line_comment, opening, comment, star, starts_with, scan}
use Rattle.definition_rules.proofs.ScanLaws.{at_blank, at_single, at_other, at_slash, at_longest_run, StartsNoRun, class_run}
use Rattle.definition_scanner.specs.Live.{live, live_from, Ahead}
use Rattle.definition_scanner.specs.Lexed.{LineEnded, CommentEnded, RunAt, MarkAt, BadAt, Lexed, Passed, LexTurned}
use Rattle.definition_scanner.specs.declared.Lexeme.{Lexeme}
use Rattle.definition_scanner.specs.declared.Lexeme.TheVariants.{Run, Mark, Bad, End}
use Rattle.std.specs.declared.ops.ControlFlow.{ControlFlow}
use Rattle.std.specs.declared.ops.ControlFlow.TheVariants.{Break}
use Rattle.definition_scanner.proofs.LiveLaws.{live_ahead}

-- ---- what a byte begins

pub not_run : (b : ℕ) → is_run_byte b ≡ false → class_of b ≡ in_run → ⊥
unfolding class_of
not_run b r e = by (is_blank b) (is_mark b) (eqb b 47) (rw (r, class_of) at e)
  where
    by : (x y z : Bool) → elim x [ true ↦ blank | false ↦ elim y [ true ↦ single | false ↦ elim z [ true ↦ slash | false ↦ other ] ] ] ≡ in_run → ⊥
    by true y z q = absurd (let n : ◌≡◌ {A = ℕ} 0 1 = cc in omega arith)
    by false true z q = absurd (let n : ◌≡◌ {A = ℕ} 0 1 = cc in omega arith)
    by false false true q = absurd (let n : ◌≡◌ {A = ℕ} 0 1 = cc in omega arith)
    by false false false q = absurd (let n : ◌≡◌ {A = ℕ} 0 1 = cc in omega arith)

pub class_blank : (b : ℕ) → is_run_byte b ≡ false → is_blank b ≡ true → class_of b ≡ blank
unfolding class_of
class_blank b r k = rw (r, k, class_of)

pub class_single : (b : ℕ) → is_run_byte b ≡ false → is_blank b ≡ false → is_mark b ≡ true → class_of b ≡ single
unfolding class_of
class_single b r k m = rw (r, k, m, class_of)

pub class_other : (b : ℕ) → is_run_byte b ≡ false → is_blank b ≡ false → is_mark b ≡ false → (b ≡ 47 → ⊥) → class_of b ≡ other
unfolding class_of
class_other b r k m s = rw (r, k, m, ne_eqb b 47 s, class_of)

pub class_slash : (b : ℕ) → b ≡ 47 → class_of b ≡ slash
unfolding class_of is_run_byte is_blank is_mark
class_slash b e = rw e

-- ---- a run

run_all : (s : List ℕ) → All (λ c. class_of c ≡ in_run) (take (run_of is_run_byte s) s)
unfolding run_of All
run_all [] = tt
run_all (b ∷ s) = by (is_run_byte b) refl (run_all s)
  where
    by : (t : Bool) → is_run_byte b ≡ t → All (λ c. class_of c ≡ in_run) (take (run_of is_run_byte s) s) → All (λ c. class_of c ≡ in_run) (take (elim t [ true ↦ suc (run_of is_run_byte s) | false ↦ 0 ]) (b ∷ s))
    by true e a = (class_run b e, a)
    by false e a = tt

run_past : (s : List ℕ) → StartsNoRun (drop (run_of is_run_byte s) s)
unfolding run_of StartsNoRun
run_past [] = tt
run_past (b ∷ s) = by (is_run_byte b) refl (run_past s)
  where
    by : (t : Bool) → is_run_byte b ≡ t → StartsNoRun (drop (run_of is_run_byte s) s) → StartsNoRun (drop (elim t [ true ↦ suc (run_of is_run_byte s) | false ↦ 0 ]) (b ∷ s))
    by true e a = a
    by false e a = not_run b e

all_cons : (b : ℕ) (w : List ℕ) → class_of b ≡ in_run → All (λ c. class_of c ≡ in_run) w → All (λ c. class_of c ≡ in_run) (b ∷ w)
unfolding All
all_cons b w e a = (e, a)

-- ---- the byte at a place

module _ (text : List ℕ) (at : ℕ) (h : at < length text) where
  pub run_here : {e : ℕ} → is_run_byte (get_or text at 0) ≡ true → e ≡ at + 1 + run_of is_run_byte (drop (at + 1) text) → RunAt text at at e
  unfolding live
  run_here {e} t q =
      let s : List ℕ = drop (suc at) text in
      let b : ℕ = get_or text at 0 in
      let n : ℕ = run_of is_run_byte s in
      let q2 : e ≡ suc at + n = q ∙ rw (add-one at) in
      let f : n ≤ length s = run_within is_run_byte s in
      let l : length s ≡ length text - suc at = length-drop (suc at) text in
      let m : length (take n s) ≡ n = length-take-le n s f in
      let w : part text at e ≡ b ∷ take n s = let z : e - at ≡ suc n = omega arith in rw (z, drop-cons text at 0 h) in
      let r : drop n s ≡ drop e text = drop-drop n (suc at) text ∙ ap (λ i. drop i text) (sym q2) in
      let c : scan outside at (b ∷ (take n s ++ drop n s)) ≡ item at (run (b ∷ take n s)) ∷ scan outside (at + suc (length (take n s))) (drop n s) = at_longest_run b (take n s) at (drop n s) (all_cons b (take n s) (class_run b t) (run_all s)) (run_past s) in
      let z : at + suc (length (take n s)) ≡ e = omega arith in
      let d : scan outside at (drop at text) ≡ item at (run (part text at e)) ∷ scan outside e (drop e text) = ap (scan outside at) (drop-cons text at 0 h ∙ ap (λ l. b ∷ l) (sym (take-append-drop n s))) ∙ (c ∙ rw (w, r, z)) in
      record { cut = ap live d; after = omega arith; some = omega arith; within = omega arith }

  module _ (r : is_run_byte (get_or text at 0) ≡ false) where
    pub blank_here : is_blank (get_or text at 0) ≡ true → Passed text at (at + 1)
    unfolding live
    blank_here k = record { same = rw (add-one at, drop-cons text at 0 h, at_blank (get_or text at 0) at (drop (suc at) text) (class_blank _ r k)); after = omega arith; within = omega arith }

    module _ (k : is_blank (get_or text at 0) ≡ false) where
      pub mark_here : is_mark (get_or text at 0) ≡ true → MarkAt text at (get_or text at 0) at (at + 1)
      unfolding live
      mark_here m = record { cut = rw (add-one at, drop-cons text at 0 h, at_single (get_or text at 0) at (drop (suc at) text) (class_single _ r k m)); byte = m; after = omega arith; next = omega arith; within = omega arith }

      pub bad_here : is_mark (get_or text at 0) ≡ false → (get_or text at 0 ≡ 47 → ⊥) → BadAt text at at
      unfolding live
      bad_here m s = record { rest = live_from text (suc at); cut = rw (drop-cons text at 0 h, at_other (get_or text at 0) at (drop (suc at) text) (class_other _ r k m s)); later = live_ahead at text (suc at) (omega arith); after = omega arith; within = h }

pub end_here : (text : List ℕ) (at : ℕ) → length text ≤ at → live_from text at ≡ []
unfolding live scan
end_here text at h = rw (drop_of_length-le text h)

-- ---- comments

module _ (text : List ℕ) (at : ℕ) where
  pub line_more : at < length text → (get_or text at 0 ≡ 10 → ⊥) → scan line_comment at (drop at text) ≡ scan line_comment (at + 1) (drop (at + 1) text)
  unfolding scan pick
  line_more h n = rw (add-one at, drop-cons text at 0 h, ne_eqb (get_or text at 0) 10 n)

  pub line_stop : at < length text → get_or text at 0 ≡ 10 → scan line_comment at (drop at text) ≡ scan outside (at + 1) (drop (at + 1) text)
  unfolding scan pick
  line_stop h n = rw (add-one at, drop-cons text at 0 h, eq-eqb (get_or text at 0) 10 n)

  pub line_ends : length text ≤ at → scan line_comment at (drop at text) ≡ scan outside at (drop at text)
  unfolding scan
  line_ends h = rw (drop_of_length-le text h)

pub comment_step : (q p b c : ℕ) (s : List ℕ) → (eqb b 42 && eqb c 47) ≡ false → scan (comment q) p (b ∷ c ∷ s) ≡ scan (comment q) (suc p) (c ∷ s)
unfolding scan pick
comment_step q p b c s t = by (eqb b 42) (eqb c 47) (eqb c 42) t
  where
    by : (x y z : Bool) → (x && y) ≡ false → pick x (pick y (scan outside (suc (suc p)) s) (pick z (scan (star q) (suc (suc p)) s) (scan (comment q) (suc (suc p)) s))) (pick z (scan (star q) (suc (suc p)) s) (scan (comment q) (suc (suc p)) s)) ≡ pick z (scan (star q) (suc (suc p)) s) (scan (comment q) (suc (suc p)) s)
    by true true z e = absurd (let n : ◌≡◌ {A = ℕ} 0 1 = cc in omega arith)
    by true false z e = refl
    by false y z e = refl

pub comment_stop : (q p b c : ℕ) (s : List ℕ) → (eqb b 42 && eqb c 47) ≡ true → scan (comment q) p (b ∷ c ∷ s) ≡ scan outside (suc (suc p)) s
unfolding scan pick
comment_stop q p b c s t = by (eqb b 42) (eqb c 47) (eqb c 42) t
  where
    by : (x y z : Bool) → (x && y) ≡ true → pick x (pick y (scan outside (suc (suc p)) s) (pick z (scan (star q) (suc (suc p)) s) (scan (comment q) (suc (suc p)) s))) (pick z (scan (star q) (suc (suc p)) s) (scan (comment q) (suc (suc p)) s)) ≡ scan outside (suc (suc p)) s
    by true true z e = refl
    by true false z e = absurd (let n : ◌≡◌ {A = ℕ} 0 1 = cc in omega arith)
    by false y z e = absurd (let n : ◌≡◌ {A = ℕ} 0 1 = cc in omega arith)

comment_last : (q p : ℕ) (s : List ℕ) → length s ≤ 1 → scan (comment q) p s ≡ bad q ∷ []
unfolding scan
comment_last q p [] h = refl
comment_last q p (b ∷ []) h = by (eqb b 42)
  where
    by : (x : Bool) → pick x (bad q ∷ []) (bad q ∷ []) ≡ bad q ∷ []
    by true = unfold pick in refl
    by false = unfold pick in refl
comment_last q p (b ∷ c ∷ s) h = absurd (omega arith)

module _ (q : ℕ) (text : List ℕ) (at : ℕ) where
  pub comment_more : at + 1 < length text → (eqb (get_or text at 0) 42 && eqb (get_or text (at + 1) 0) 47) ≡ false → scan (comment q) at (drop at text) ≡ scan (comment q) (at + 1) (drop (at + 1) text)
  comment_more h t =
      let g : at < length text = omega arith in
      let k : suc at < length text = omega arith in
      rw (add-one at, drop-cons text at 0 g, drop-cons text (suc at) 0 k) (comment_step q at (get_or text at 0) (get_or text (suc at) 0) (drop (suc (suc at)) text) (rw (add-one at) at t))

  pub comment_ends : at + 1 < length text → (eqb (get_or text at 0) 42 && eqb (get_or text (at + 1) 0) 47) ≡ true → scan (comment q) at (drop at text) ≡ scan outside (at + 2) (drop (at + 2) text)
  comment_ends h t =
      let g : at < length text = omega arith in
      let k : suc at < length text = omega arith in
      let z : at + 2 ≡ suc (suc at) = omega arith in
      rw (z, drop-cons text at 0 g, drop-cons text (suc at) 0 k) (comment_stop q at (get_or text at 0) (get_or text (suc at) 0) (drop (suc (suc at)) text) (rw (add-one at) at t))

  pub comment_never : length text ≤ at + 1 → scan (comment q) at (drop at text) ≡ bad q ∷ []
  comment_never h = comment_last q at (drop at text) (simp length-drop (omega arith))

-- ---- a slash

starts_none : (x : ℕ) → starts_with x [] ≡ false
unfolding starts_with
starts_none x = refl

starts_is : (x : ℕ) (text : List ℕ) (at : ℕ) → at < length text → starts_with x (drop at text) ≡ eqb (get_or text at 0) x
unfolding starts_with
starts_is x text at h = rw (drop-cons text at 0 h)

module _ (text : List ℕ) (at : ℕ) (h : at < length text) (b : get_or text at 0 ≡ 47) where
  slash_is : scan outside at (drop at text) ≡ pick (starts_with 47 (drop (suc at) text)) (gap ∷ scan line_comment (suc at) (drop (suc at) text)) (pick (starts_with 42 (drop (suc at) text)) (gap ∷ scan (opening at) (suc at) (drop (suc at) text)) (bad at ∷ scan outside (suc at) (drop (suc at) text)))
  slash_is = rw (drop-cons text at 0 h) (at_slash (get_or text at 0) at (drop (suc at) text) (class_slash _ b))

  stray : starts_with 47 (drop (suc at) text) ≡ false → starts_with 42 (drop (suc at) text) ≡ false → BadAt text at at
  unfolding live pick
  stray x y = record { rest = live_from text (suc at); cut = rw (slash_is, x, y); later = live_ahead at text (suc at) (omega arith); after = omega arith; within = h }

  pub slash_end : length text ≤ at + 1 → BadAt text at at
  slash_end e =
      let n : drop (suc at) text ≡ [] = (let k : length text ≤ suc at = omega arith in drop_of_length-le text k) in
      stray (rw n (starts_none 47)) (rw n (starts_none 42))

  module _ (n : at + 1 < length text) where
    starts_next : (x : ℕ) → starts_with x (drop (suc at) text) ≡ eqb (get_or text (at + 1) 0) x
    starts_next x = let k : suc at < length text = omega arith in starts_is x text (suc at) k ∙ rw (add-one at)

    pub slash_stray : (get_or text (at + 1) 0 ≡ 47 → ⊥) → (get_or text (at + 1) 0 ≡ 42 → ⊥) → BadAt text at at
    slash_stray x y = stray (starts_next 47 ∙ ne_eqb _ _ x) (starts_next 42 ∙ ne_eqb _ _ y)

    pub slash_line : {e : ℕ} → get_or text (at + 1) 0 ≡ 47 → LineEnded text (at + 1) e → Passed text at e
    unfolding live pick
    slash_line {e} x l = record { same = rw (slash_is, starts_next 47 ∙ eq-eqb _ _ x) (ap live (rw (add-one at) at l.same)); after = omega (arith, l.after); within = l.within }

    block : (get_or text (at + 1) 0 ≡ 47 → ⊥) → get_or text (at + 1) 0 ≡ 42 → scan outside at (drop at text) ≡ gap ∷ scan (comment at) (at + 1 + 1) (drop (at + 1 + 1) text)
    unfolding pick scan
    block x y =
        let k : suc at < length text = omega arith in
        rw (slash_is, starts_next 47 ∙ ne_eqb _ _ x, starts_next 42 ∙ eq-eqb _ _ y, drop-cons text (suc at) 0 k, add-one at, add-one (suc at))

    pub slash_block : {e : ℕ} → (get_or text (at + 1) 0 ≡ 47 → ⊥) → get_or text (at + 1) 0 ≡ 42 → CommentEnded text (at + 1 + 1) e → Passed text at e
    unfolding live
    slash_block {e} x y c = record { same = ap live (block x y) ∙ ap live (c.same at); after = omega (arith, c.after); within = c.within }

    pub slash_endless : (get_or text (at + 1) 0 ≡ 47 → ⊥) → get_or text (at + 1) 0 ≡ 42 → ((q : ℕ) → scan (comment q) (at + 1 + 1) (drop (at + 1 + 1) text) ≡ bad q ∷ []) → BadAt text at at
    unfolding live Ahead
    slash_endless x y c = record { rest = []; cut = ap live (block x y) ∙ ap live (c at); later = tt; after = omega arith; within = h }

-- ---- over blanks and comments

pub record Along (text : List ℕ) (from at : ℕ) : Type 0 where
  pub same : live_from text from ≡ live_from text at
  pub after : from ≤ at

pub along_start : (text : List ℕ) (at : ℕ) → Along text at at
along_start text at = record { same = refl; after = omega arith }

pub along_on : {text : List ℕ} {from at e : ℕ} → Along text from at → Passed text at e → Along text from e
along_on i p = record { same = i.same ∙ p.same; after = omega (arith, i.after, p.after) }

pub along_out : {text : List ℕ} {from at : ℕ} → Along text from at → (t : ControlFlow Lexeme ℕ) (x : Lexeme) → t ≡ Break x → LexTurned text at t → Lexed text from x
along_out {text} {from} {at} i t x e l = by x (rw e at l)
  where
    by : (x : Lexeme) → Lexed text at x → Lexed text from x
    by (Run a c) l = record { cut = i.same ∙ l.cut; after = omega (arith, i.after, l.after); some = l.some; within = l.within }
    by (Mark b a c) l = record { cut = i.same ∙ l.cut; byte = l.byte; after = omega (arith, i.after, l.after); next = l.next; within = l.within }
    by (Bad p) l = record { rest = l.rest; cut = i.same ∙ l.cut; later = l.later; after = omega (arith, i.after, l.after); within = l.within }
    by End l = i.same ∙ l
