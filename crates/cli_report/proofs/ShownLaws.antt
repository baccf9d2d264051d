-- What is shown of a place's line.
use Prim.Native.Nat.{ℕ, suc, ◌+◌, ◌-◌, ◌≤◌, min, max}
use mathlib.Core.Bool.{Bool, true, false, cond, ◌||◌}
use mathlib.Core.List.{List, [], ◌∷◌, ◌++◌}
use mathlib.Core.Path.{◌≡◌, refl, sym, ap, ◌∙◌}
use native.Mathlib.Omega.{arith}
use lib.Dec.{eqb}
use lib.ListN.{length, length-take, length-drop}
use Rattle.classes.specs.Bytes.{between}
use Rattle.classes.specs.Lists.{part}
use Rattle.text.specs.Text.{Added, each}
use Rattle.text.specs.declared.Page.{Page}
use Rattle.cli_places.specs.Lines.{line_start, line_end}
use Rattle.cli_wording.specs.Sayings.{bytes}
use Rattle.cli_report.specs.Shown.{shown_byte, blank_for, shown_text, blanks_for, mark_text, view_start, view_end, view_text}

module _ (s : List ℕ) (p : ℕ) where
  pub from_view : (start from : ℕ) → start ≡ line_start s p → from ≡ max start (p - 60) → from ≡ view_start s p
  unfolding view_start
  from_view start from e h = rw (← e) h

  pub to_view : (end from to : ℕ) → end ≡ line_end s p → from ≡ view_start s p → to ≡ min end (from + 78) → to ≡ view_end s p
  unfolding view_end
  to_view end from to e f h = rw (← e, ← f) h

  pub view : (last : Bool) (from to : ℕ) (line before : List ℕ) {a b : Page} → from ≡ view_start s p → to ≡ view_end s p
      → line ≡ part s from to → before ≡ part s from p
      → Added (shown_text line ++ bytes "\n" ++ blanks_for before ++ mark_text last) a b
      → Added (view_text s p last) a b
  unfolding view_text
  view last from to line before e f g h w = rw (← e, ← f, ← g, ← h) w

-- ---- the mark stands under its byte: as many blanks as bytes before it, and a tab just where the line has one

under_by : (b : ℕ) (t u v : Bool) → eqb b 9 ≡ t → eqb (cond t 9 32) 9 ≡ eqb (cond t 9 (cond u 32 (cond v b 63))) 9
under_by b true u v e = refl
under_by b false true v e = refl
under_by b false false true e = sym e
under_by b false false false e = refl

pub tab_under : (b : ℕ) → eqb (blank_for b) 9 ≡ eqb (shown_byte b) 9
unfolding blank_for shown_byte
tab_under b = under_by b (eqb b 9) (eqb b 10 || eqb b 13) (between 32 126 b) refl

one_each : (f : ℕ → ℕ) (l : List ℕ) → length (each (λ b. f b ∷ []) l) ≡ length l
unfolding each
one_each f [] = refl
one_each f (b ∷ l) = ap suc (one_each f l)

pub mark_under : (s : List ℕ) (p : ℕ) → p ≤ length s → length (blanks_for (part s (view_start s p) p)) ≡ p - view_start s p
mark_under s p h = one_each blank_for _ ∙ simp (length-take, length-drop) (omega arith)

pub line_wide : (s : List ℕ) (from to : ℕ) → length (shown_text (part s from to)) ≡ length (part s from to)
line_wide s from to = one_each shown_byte _
