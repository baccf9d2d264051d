-- The table that a source has: its bytes, or what the definition there compiles to.
use Rattle.std.specs.Prelude.{Bool, List, ℕ, eqb, length, take, Option, Some, None, Result, Ok, Err}
use Rattle.classes.specs.Lists.{pick, some, part}
use Rattle.definition_rules.specs.Compile.{CompileAnswer, compiled, refusal, compile_answer, table_after}
use Rattle.cli_files.specs.declared.Failed.{Failed}

-- bytes with a byte 0 among them are taken as a table, any others as a definition; every table has one
unfoldable pub is_table : List ℕ → Bool
is_table bytes = some (λ b. eqb b 0) bytes

-- what a definition compiles to in lent bytes, none where it is refused
abbrev pub compiled_in : List ℕ → List ℕ → CompileAnswer → Option (List ℕ)
compiled_in text lent (compiled n) = Some (part (table_after text lent) 0 n)
compiled_in text lent (refusal number place) = None

-- a table as it is, as far as the lent bytes have room; what a definition compiles to there, none where it is refused
unfoldable pub table_made : List ℕ → List ℕ → Option (List ℕ)
table_made bytes lent = pick (is_table bytes) (Some (take (length lent) bytes)) (compiled_in bytes lent (compile_answer bytes (length lent)))

-- the bytes in an answer, none where there is no answer
abbrev pub bytes_in : {A : Type 0} → Result A Failed → (A → List ℕ) → Option (List ℕ)
bytes_in (Ok a) f = Some (f a)
bytes_in (Err why) f = None
