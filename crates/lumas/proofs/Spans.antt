-- A row's bytes, by where they start and how many they are.
use mathlib.Core.Path.{◌≡◌, refl, sym, ap, ◌∙◌}
use mathlib.Core.Bool.{Bool, true, false, ◌&&◌}
use mathlib.Core.List.{List, [], ◌∷◌}
use Prim.Native.Nat.{ℕ, ◌+◌, ◌-◌, ◌*◌, ◌≤◌}
use native.Mathlib.Omega.{arith}
use lib.Dec.{leb}
use lib.ListN.{length, take, drop, get_or, length-take, length-drop}
use borrow.Author.Tests.{leb-true}
use Rattle.numbers.specs.Limits.{row_width}
use Rattle.message_rules.specs.RowBytes.{row_bytes}
use Rattle.lumas.specs.Told.{RowPart}

no_bytes : (l : List ℕ) → length l ≡ 0 → [] ≡ l
no_bytes [] h = refl
no_bytes (b ∷ l) h = absurd (omega arith)

-- the row at some place is there, and its span lies in the message
pub record There (message rows bytes : List ℕ) (at : ℕ) : Type 0 where
  pub whole : at + row_width ≤ length rows
  pub forward : get_or rows (at + 2) 0 ≤ get_or rows (at + 3) 0
  pub inside : get_or rows (at + 3) 0 ≤ length message
  pub is : bytes ≡ take (get_or rows (at + 3) 0 - get_or rows (at + 2) 0) (drop (get_or rows (at + 2) 0) message)

module _ (message rows : List ℕ) (row : ℕ) where
  pub part_none : (bytes : List ℕ) → bytes ≡ row_bytes message rows row → length bytes ≡ 0 → RowPart message rows row 0 0
  part_none bytes e h = record { bytes = no_bytes bytes h ∙ e; within = omega arith; empty = λ _. refl; begins = λ z. absurd (omega (arith, z)) }

  module _ (bytes : List ℕ) (e : bytes ≡ row_bytes message rows row) (some : length bytes ≡ 0 → ⊥) where
    pub there : There message rows bytes (row_width * row)
    unfolding row_bytes
    there = by (leb (row_width * row + row_width) (length rows)) (leb start end) (leb end (length message)) refl refl refl e
      where
        start : ℕ
        start = get_or rows (row_width * row + 2) 0

        end : ℕ
        end = get_or rows (row_width * row + 3) 0

        none : bytes ≡ [] → There message rows bytes (row_width * row)
        none z = absurd (some (ap length z))

        by : (a b c : Bool) → leb (row_width * row + row_width) (length rows) ≡ a → leb start end ≡ b → leb end (length message) ≡ c
            → bytes ≡ elim (a && (b && c)) [ true ↦ take (end - start) (drop start message) | false ↦ [] ] → There message rows bytes (row_width * row)
        by true true true p q r z = record { whole = leb-true (row_width * row + row_width) (length rows) p; forward = leb-true start end q; inside = leb-true end (length message) r; is = z }
        by true true false p q r z = none z
        by true false c p q r z = none z
        by false b c p q r z = none z

    pub part_some : (s : ℕ) → s ≡ get_or rows (row_width * row + 2) 0 → RowPart message rows row s (length bytes)
    part_some s f =
        let t = there in
        let l : length bytes ≡ get_or rows (row_width * row + 3) 0 - s = ap length t.is ∙ simp (length-take, length-drop) (omega (arith, t.forward, t.inside)) in
        record {
          bytes = rw (l, f) (sym t.is ∙ e);
          within = omega (arith, t.forward, t.inside);
          empty = λ z. absurd (some z);
          begins = λ _. f;
        }
