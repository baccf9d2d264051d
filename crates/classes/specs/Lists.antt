-- Questions about a row of bytes.
use Rattle.std.specs.Prelude.{Bool, true, false, ◌&&◌, ◌||◌, List, [], ◌∷◌, ℕ, suc, ◌-◌, eqb, length, get_or, take, drop}

-- one of two, by a test
unfoldable pub pick : {A : Type 0} → Bool → A → A → A
pick true a b = a
pick false a b = b

-- each of a list is so
unfoldable pub All : {A : Type 0} → (A → Type 0) → List A → Type 0
All P [] = Unit {0}
All P (a ∷ l) = P a × All P l

-- all bytes are of the class
unfoldable pub every : (ℕ → Bool) → List ℕ → Bool
every f [] = true
every f (b ∷ l) = f b && every f l

-- some byte is of the class
unfoldable pub some : (ℕ → Bool) → List ℕ → Bool
some f [] = false
some f (b ∷ w) = f b || some f w

unfoldable pub not_empty : List ℕ → Bool
not_empty [] = false
not_empty (b ∷ w) = true

-- how many bytes in front are of the class: the length of the "longest row"
unfoldable pub run_of : (ℕ → Bool) → List ℕ → ℕ
run_of f [] = 0
run_of f (b ∷ l) = elim (f b) [ true ↦ suc (run_of f l) | false ↦ 0 ]

-- the same bytes; "Letters' case counts."
unfoldable pub same_bytes : List ℕ → List ℕ → Bool
same_bytes [] [] = true
same_bytes [] (b ∷ l) = false
same_bytes (a ∷ k) [] = false
same_bytes (a ∷ k) (b ∷ l) = eqb a b && same_bytes k l

-- the last byte, 0 where there is none
abbrev pub last_byte : List ℕ → ℕ
last_byte w = get_or w (length w - 1) 0

-- the bytes from a to e, e not included
abbrev pub part : List ℕ → ℕ → ℕ → List ℕ
part s a e = take (e - a) (drop a s)
