-- What a heading says, by the numbers that are kept of it. Assumes nothing.
use mathlib.Core.Path.{◌≡◌, refl, sym, ◌∙◌}
use mathlib.Core.Bool.{Bool, true, false, ◌&&◌}
use Rattle.std.specs.Prelude.{Option, Some, None, MatchOption}
use Rattle.std.specs.Option.{unwrap_or}
use mathlib.Core.List.{List}
use Prim.Native.Nat.{ℕ, zero, suc, ◌+◌, ◌-◌, ◌<◌, ◌≤◌}
use native.Mathlib.Numerals.{add-one}
use native.Mathlib.Omega.{arith}
use lib.Dec.{eqb}
use borrow.Author.Tests.{eq-eqb, ne_eqb}
use Rattle.classes.specs.Lists.{pick, same_bytes}
use Rattle.numbers.specs.Limits.{none16}
use Rattle.numbers.specs.Answers.{side_of}
use Rattle.numbers.specs.Range.{number, unread}
use Rattle.reading_rules.specs.Record.{top, under}
use Rattle.definition_rules.specs.Forms.{heading}
use Rattle.definition_rules.specs.Declarations.{declaration, declarations_of}
use Rattle.definition_rules.specs.Records.{top_name, top_names, is_named, find_top, or_none, target_of}
use Rattle.definition_rules.specs.Table.{number_up}
use Rattle.definition_cells.specs.Cells.{cell_at, run_at, tag_at, maybe_run_at, noted_at, noted_from}
use Rattle.definition_cells.proofs.CellLaws.{noted_end}
use Rattle.definition_headings.specs.Heads.{declared_kind, is_named_at, names_from, target_at}

-- the names from j on begin with that of declaration j
names_named : (t cs : List ℕ) (n j : ℕ) (w : List ℕ) (r : ℕ) → find_top (names_from t cs (suc n) j) r w ≡ pick (is_named_at t cs j w) (number r) (find_top (names_from t cs n (suc j)) (suc r) w)
unfolding noted_from noted_at declarations_of top_names find_top number_up
names_named t cs n j w r = by (eqb (cell_at cs j 15) none16)
  where
    by : (b : Bool) → pick (is_named (top_name (declaration (pick b top (under (cell_at cs j 15))) (eqb (cell_at cs j 14) 1)
        (heading (run_at t cs j 0) (maybe_run_at t cs j 10 2) (run_at t cs j 4) (maybe_run_at t cs j 11 6) (tag_at t cs j) (eqb (cell_at cs j 13) 1)))) w) (number r) (find_top (names_from t cs n (suc j)) (suc r) w)
        ≡ pick (b && same_bytes (run_at t cs j 4) w) (number r) (find_top (names_from t cs n (suc j)) (suc r) w)
    by true = unfold pick is_named top_name in refl
    by false = unfold pick is_named top_name in refl

module _ (t cs : List ℕ) (n j : ℕ) (w : List ℕ) where
  rest : j < n → find_top (names_from t cs (n - j) j) j w ≡ pick (is_named_at t cs j w) (number j) (find_top (names_from t cs (n - (j + 1)) (j + 1)) (j + 1) w)
  rest h = let p : n - j ≡ suc (n - (j + 1)) = omega arith in rw (p, add-one j) (names_named t cs (n - suc j) j w j)

  pub find_yes : j < n → is_named_at t cs j w ≡ true → find_top (names_from t cs (n - j) j) j w ≡ number j
  unfolding pick
  find_yes h e = rest h ∙ rw e

  pub find_no : j < n → is_named_at t cs j w ≡ false → find_top (names_from t cs (n - j) j) j w ≡ find_top (names_from t cs (n - (j + 1)) (j + 1)) (j + 1) w
  unfolding pick
  find_no h e = rest h ∙ rw e

  pub find_end : n ≤ j → find_top (names_from t cs (n - j) j) j w ≡ unread
  unfolding find_top top_names declarations_of
  find_end h = rw (noted_end t cs n j h)

module _ (t cs : List ℕ) (n : ℕ) (w : List ℕ) where
  pub find_start : find_top (names_from t cs n 0) 0 w ≡ find_top (names_from t cs (n - 0) 0) 0 w
  find_start = let p : n - 0 ≡ n = omega arith in rw p

  -- the first i of them have another name
  skipped : (i : ℕ) → i ≤ n → ((k : ℕ) → 0 ≤ k → k < i → is_named_at t cs k w ≡ false) → find_top (names_from t cs n 0) 0 w ≡ find_top (names_from t cs (n - i) i) i w
  skipped zero h a = find_start
  skipped (suc i) h a = skipped i (omega arith) (λ k z l. a k z (omega arith)) ∙ rw (add-one i) at (find_no t cs n i w (omega arith) (a i (omega arith) (omega arith)))

  pub first_top : (r : Option ℕ)
      → MatchOption r ((k : ℕ) → 0 ≤ k → k < n → is_named_at t cs k w ≡ false) (λ i. (0 ≤ i) × (i < n) × (is_named_at t cs i w ≡ true) × ((k : ℕ) → 0 ≤ k → k < i → is_named_at t cs k w ≡ false))
      → side_of r ≡ find_top (names_from t cs n 0) 0 w
  first_top None a = sym (skipped n (omega arith) a ∙ find_end t cs n n w (omega arith))
  first_top (Some i) a = sym (skipped i (omega (arith, a.1)) a.3 ∙ find_yes t cs n i w a.1 a.2)

number_or_none : (r : Option ℕ) → unwrap_or r 65535 ≡ or_none (side_of r)
unfolding or_none
number_or_none None = refl
number_or_none (Some r) = refl

module _ (t cs : List ℕ) (n i k : ℕ) (ek : k ≡ declared_kind t cs i) where
  pub target_top : (s : List ℕ) (r : Option ℕ) → k ≡ 10 → s ≡ run_at t cs i 0 → side_of r ≡ find_top (names_from t cs n 0) 0 s → unwrap_or r 65535 ≡ target_at t cs n i
  unfolding target_of pick
  target_top s r h e er = number_or_none r ∙ rw (eq-eqb (declared_kind t cs i) 10 (sym ek ∙ h)) (rw (er, e))

  pub target_none : (k ≡ 10 → ⊥) → 65535 ≡ target_at t cs n i
  unfolding target_of pick
  target_none h = rw (ne_eqb (declared_kind t cs i) 10 (λ q. h (ek ∙ q)))
