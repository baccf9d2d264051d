-- Text that is written piece by piece.
use Prim.Native.Nat.{ℕ, ◌+◌, ◌/◌, ◌%◌, ◌<◌, ◌≤◌, min, max}
use mathlib.Core.List.{List, [], ◌∷◌, ◌++◌, append_assoc, append-nil}
use mathlib.Core.Path.{◌≡◌, refl, sym, ap, ◌∙◌}
use native.Mathlib.Decide.{dec_le}
use native.Mathlib.Numerals.{add-one}
use native.Mathlib.Omega.{arith}
use lib.ListN.{length, get_or, take, set, length-append}
use lib.Seq.{sets, length-sets, take_all, take-suc, set_out}
use Rattle.io.specs.Digits.{hex_digit_ascii}
use Rattle.text.specs.Text.{Wrote, Added, each, hex_byte}
use Rattle.text.specs.declared.Page.{Page}
use Rattle.classes.proofs.Stores.{sets_out, sets_append}

nothing_wrote : (o : List ℕ) (at : ℕ) → Wrote [] o at o at
nothing_wrote o at = record { bytes = refl; place = omega arith }

pub nothing : (p : Page) → Added [] p p
nothing p = record { wrote = nothing_wrote p.out.now p.at; same = refl }

-- a byte at a place, and past the end
pub one : (b : ℕ) (o : List ℕ) (at : ℕ) → at < length o → Wrote (b ∷ []) o at (set o at b) (at + 1)
one b o at h = record { bytes = refl; place = omega arith }

pub past : (b : ℕ) (o : List ℕ) (at : ℕ) → length o ≤ at → Wrote (b ∷ []) o at o at
past b o at h = record { bytes = sym (set_out o at b h); place = omega arith }

module _ {x y o o₁ o₂ : List ℕ} {at r₁ r₂ : ℕ} (u : Wrote x o at o₁ r₁) (v : Wrote y o₁ r₁ o₂ r₂) where
  same_length : length o₁ ≡ length o
  same_length = ap length u.bytes ∙ length-sets o at x

  place_both : r₂ ≡ max at (min (length o) (at + length (x ++ y)))
  place_both = let l : length o₁ ≡ length o = same_length in rw length-append (omega (arith, u.place, v.place))

  bytes_by : Dec (at + length x ≤ length o) → o₂ ≡ sets o at (x ++ y)
  bytes_by (yes h) =
      let r : r₁ ≡ at + length x = omega (arith, u.place) in
      v.bytes ∙ rw (u.bytes, r) (sets_append x y o at)
  bytes_by (no h) =
      let l : length o₁ ≡ length o = same_length in
      let q : length o₁ ≤ r₁ = omega (arith, u.place, h) in
      let s : length (sets o at x) ≤ at + length x = rw (length-sets o at x) (omega (arith, h)) in
      v.bytes ∙ sets_out y o₁ r₁ q ∙ u.bytes ∙ sym (sets_out y (sets o at x) (at + length x) s) ∙ sets_append x y o at

  both_wrote : Wrote (x ++ y) o at o₂ r₂
  both_wrote = record { bytes = bytes_by (dec_le (at + length x) (length o)); place = place_both }

pub both : {x y : List ℕ} {p q r : Page} → Added x p q → Added y q r → Added (x ++ y) p r
both u v = record { wrote = both_wrote u.wrote v.wrote; same = v.same ∙ u.same }

-- ---- the texts of some numbers

each_append : (f : ℕ → List ℕ) (x y : List ℕ) → each f (x ++ y) ≡ each f x ++ each f y
unfolding each
each_append f [] y = refl
each_append f (n ∷ x) y = rw (each_append f x y) (sym (append_assoc (f n) (each f x) (each f y)))

each_one : (f : ℕ → List ℕ) (n : ℕ) → each f (n ∷ []) ≡ f n
unfolding each
each_one f n = append-nil (f n)

each_more : (f : ℕ → List ℕ) (l : List ℕ) (i : ℕ) → i < length l → each f (take (i + 1) l) ≡ each f (take i l) ++ f (get_or l i 0)
each_more f l i h = rw (add-one, take-suc l i 0 h, each_append, each_one)

module _ (f : ℕ → List ℕ) (l : List ℕ) where
  pub none : (p : Page) → Added (each f (take 0 l)) p p
  unfolding each
  none p = nothing p

  pub more : (i : ℕ) {p q r : Page} → i < length l → Added (each f (take i l)) p q → Added (f (get_or l i 0)) q r → Added (each f (take (i + 1) l)) p r
  more i h u v = rw (each_more f l i h) (both u v)

  pub all : (i : ℕ) {p q : Page} → length l ≤ i → Added (each f (take i l)) p q → Added (each f l) p q
  all i h u = rw (take_all i l h) at u

-- bytes as they are
pub more_text : (l : List ℕ) (i : ℕ) {p q r : Page} → i < length l → Added (take i l) p q → Added (get_or l i 0 ∷ []) q r → Added (take (i + 1) l) p r
more_text l i h u v = rw (add-one, take-suc l i 0 h) (both u v)

-- two digits
pub hex_two : {p q r : Page} (b x y : ℕ) → x ≡ hex_digit_ascii (b / 16) → y ≡ hex_digit_ascii (b % 16) → Added (x ∷ []) p q → Added (y ∷ []) q r
    → Added (hex_byte b) p r
unfolding hex_byte
hex_two b x y e f u v = rw (← e, ← f) (both u v)
