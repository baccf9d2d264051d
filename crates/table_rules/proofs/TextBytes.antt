-- The witness text is made of bytes.
use mathlib.Core.Path.{◌≡◌, refl, ap}
use mathlib.Core.Bool.{Bool, true, false}
use mathlib.Core.List.{List, [], ◌∷◌, ◌++◌}
use Prim.Native.Nat.{ℕ, zero, suc, ◌<◌}
use native.Mathlib.Omega.{arith}
use lib.Dec.{eqb, leb}
use borrow.Author.Tests.{eqb-true, leb-true}
use Rattle.classes.specs.Lists.{All}
use Rattle.classes.specs.Bytes.{IsBytes, between, is_letter, is_digit, is_run_byte, is_mark, is_blank, Byte}
use Rattle.classes.proofs.Segment.{mark_small}
use Rattle.classes.proofs.Bools.{or_case}
use Rattle.reading_rules.proofs.CountLaws.{clash_bool, and_both}
use Rattle.definition_rules.specs.Words.{ByteClass, in_run, blank, single, slash, other, class_of}
use Rattle.definition_rules.specs.Scan.{TextToken, run, mark}
use Rattle.table_rules.proofs.Spelling.{print_token, print_tokens, RunBytes, GoodToken}

-- a row of bytes, by index and one after the other
pub all_bytes : (l : List ℕ) → All Byte l → IsBytes l
unfolding All
all_bytes [] a i = omega arith
all_bytes (b ∷ l) a zero = a.0
all_bytes (b ∷ l) a (suc i) = all_bytes l a.1 i

pub bytes_all : (l : List ℕ) → IsBytes l → All Byte l
unfolding All
bytes_all [] h = tt
bytes_all (b ∷ l) h = (h 0, bytes_all l (λ i. h (suc i)))

under : (lo hi b : ℕ) → hi < 256 → between lo hi b ≡ true → b < 256
under lo hi b h e = and_both (leb lo b) (leb b hi) e (λ x y. omega (arith, leb-true b hi y))

is_byte : (b c : ℕ) → c < 256 → eqb b c ≡ true → b < 256
is_byte b c h e = omega (arith, eqb-true b c e)

run_byte : (b : ℕ) → is_run_byte b ≡ true → b < 256
unfolding is_run_byte is_letter is_digit
run_byte b e =
    or_case (is_letter b) _ e (λ x. or_case (between 97 122 b) (between 65 90 b) x (under 97 122 b (omega arith)) (under 65 90 b (omega arith)))
    (λ x. or_case (is_digit b) _ x (under 48 57 b (omega arith))
    (λ x. or_case (eqb b 45) _ x (is_byte b 45 (omega arith))
    (λ x. or_case (eqb b 95) _ x (is_byte b 95 (omega arith))
    (λ x. or_case (eqb b 46) (eqb b 42) x (is_byte b 46 (omega arith)) (is_byte b 42 (omega arith))))))

-- a byte of a run or a mark is one
unfoldable in_token : ByteClass → Bool
in_token in_run = true
in_token blank = false
in_token single = true
in_token slash = false
in_token other = false

token_byte : (b : ℕ) → in_token (class_of b) ≡ true → b < 256
unfolding class_of in_token
token_byte b e = go (is_run_byte b) refl (is_blank b) (is_mark b) refl (eqb b 47) e
  where
    go : (r : Bool) → is_run_byte b ≡ r → (s m : Bool) → is_mark b ≡ m → (l : Bool) → in_token (elim r [ true ↦ in_run | false ↦ elim s [ true ↦ blank | false ↦ elim m [ true ↦ single | false ↦ elim l [ true ↦ slash | false ↦ other ] ] ] ]) ≡ true → b < 256
    go true p s m q l e = run_byte b p
    go false p true m q l e = clash_bool e
    go false p false true q l e = mark_small b q
    go false p false false q true e = clash_bool e
    go false p false false q false e = clash_bool e

run_bytes_lem : (w r : List ℕ) → All (λ c. class_of c ≡ in_run) w → All Byte r → All Byte (w ++ r)
unfolding All in_token
run_bytes_lem [] r a b = b
run_bytes_lem (c ∷ w) r a b = (token_byte c (ap in_token a.0), run_bytes_lem w r a.1 b)

pub printed_bytes : (ts : List TextToken) → All GoodToken ts → All Byte (print_tokens ts)
unfolding All GoodToken RunBytes print_tokens print_token in_token
printed_bytes [] a = tt
printed_bytes (run [] ∷ ts) a = absurd a.0
printed_bytes (run (b ∷ w) ∷ ts) a = run_bytes_lem (b ∷ w) (32 ∷ print_tokens ts) a.0 (omega arith, printed_bytes ts a.1)
printed_bytes (mark n ∷ ts) a = (token_byte n (ap in_token a.0), (omega arith, printed_bytes ts a.1))
