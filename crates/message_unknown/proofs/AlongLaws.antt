-- Going along the tokens; the part of a message after a brace.
use mathlib.Core.Path.{◌≡◌, refl, ap, ◌∙◌}
use mathlib.Core.List.{List, [], ◌∷◌}
use Prim.Native.Nat.{ℕ, zero, suc, ◌+◌, ◌-◌, ◌≤◌}
use native.Mathlib.Omega.{arith}
use native.Mathlib.Nat.{add-zero}
use lib.ListN.{length, take, drop, length-drop}
use Rattle.classes.proofs.Rows.{rest_all}
use Rattle.reading_rules.specs.Token.{Token}
use Rattle.message_rules.specs.Scan.{lexeme, CutResult, tokens_of}
use Rattle.message_rules.specs.Scan.{Lexeme as Lex}
use Rattle.message_rules.specs.Verdict.{start_or, place_of_left}
use Rattle.message_tokens.specs.Cursor.{cut_at, lexemes_at, Step}
use Rattle.message_tokens.proofs.CutAt.{cut_part}
use Rattle.message_tokens.proofs.Heads.{step_lex}
use Rattle.message_unknown.specs.Along.{Tail, here, later}

pub tail_trans : {A : Type 0} (x y z : List A) → Tail z y → Tail y x → Tail z x
tail_trans {A} x y z t u = go x u
  where
    go : (x : List A) → Tail y x → Tail z x
    go x here = t
    go x (later l x' u) = later l x' (go x' u)

pub tail_length : {A : Type 0} (x y : List A) → Tail y x → length y ≤ length x
tail_length {A} x y t = go x t
  where
    go : (x : List A) → Tail y x → length y ≤ length x
    go x here = omega arith
    go x (later l x' t) = omega (arith, go x' t)

pub tail_drop : {A : Type 0} (x y : List A) → Tail y x → drop (length x - length y) x ≡ y
tail_drop {A} x y t = go x t
  where
    go : (x : List A) → Tail y x → drop (length x - length y) x ≡ y
    go x here = let e : length x - length x ≡ 0 = omega arith in rw e refl
    go x (later l x' t) =
        let e : suc (length x') - length y ≡ suc (length x' - length y) = omega (arith, tail_length x' y t) in rw e (go x' t)

pub drop_tail : {A : Type 0} (n : ℕ) (x : List A) → Tail (drop n x) x
drop_tail zero x = here
drop_tail (suc n) [] = here
drop_tail (suc n) (l ∷ x) = later l x (drop_tail n x)

pub tokens_length : (x : List Lex) → length (tokens_of x) ≡ length x
unfolding tokens_of
tokens_length [] = refl
tokens_length (l ∷ x) = ap suc (tokens_length x)

-- the place of a refusal, as the verdict counts it
pub place_left : (s : List ℕ) (x y : List Lex) → Tail y x → place_of_left s x (tokens_of y) ≡ start_or (length s) y
unfolding place_of_left
place_left s x y t = ap (start_or (length s)) (rw (tokens_length y) (tail_drop x y t))

pub step_tail : (base : ℕ) (s : List ℕ) (i : ℕ) (t : Token) (a e : ℕ) → Step (cut_at base s i) base s i t a e → Tail (lexemes_at base s e) (lexemes_at base s i)
step_tail base s i t a e h = rw (step_lex base s i t a e h) (later (lexeme t (base + a) (base + e)) (lexemes_at base s e) here)

-- the part after e, which starts at base + e, has the same tokens
pub part_lexemes : (base : ℕ) (s : List ℕ) (e j : ℕ) → lexemes_at (base + e) (take (length s - e) (drop e s)) j ≡ lexemes_at base s (e + j)
part_lexemes base s e j = rw (rest_all s e) (ap (λ (c : CutResult). c.lexemes) (cut_part base s e j))

pub part_start : (base : ℕ) (s : List ℕ) (e : ℕ) → lexemes_at (base + e) (take (length s - e) (drop e s)) 0 ≡ lexemes_at base s e
part_start base s e = part_lexemes base s e 0 ∙ ap (lexemes_at base s) (add-zero e)

pub part_end : (base : ℕ) (s : List ℕ) (e : ℕ) → e ≤ length s → base + e + length (take (length s - e) (drop e s)) ≡ base + length s
part_end base s e h = rw (rest_all s e) (omega (arith, length-drop e s))

pub part_length : (s : List ℕ) (e : ℕ) → length (take (length s - e) (drop e s)) ≡ length s - e
part_length s e = rw (rest_all s e) (length-drop e s)
