-- What is answered for a table, and for a definition.
use mathlib.Core.Path.{◌≡◌}
use mathlib.Core.Bool.{true, false}
use mathlib.Core.List.{List}
use Prim.Native.Nat.{ℕ}
use lib.ListN.{length, take}
use Rattle.std.specs.Prelude.{Option, Some}
use Rattle.classes.specs.Lists.{pick}
use Rattle.definition_rules.specs.Compile.{compile_answer}
use Rattle.cli_tables.specs.Made.{is_table, compiled_in, table_made}

module _ (bytes lent : List ℕ) where
  pub made_of_table : (row : List ℕ) → is_table bytes ≡ true → row ≡ take (length lent) bytes → Some row ≡ table_made bytes lent
  unfolding table_made pick
  made_of_table row t e = rw (t, e)

  pub made_of_definition : (o : Option (List ℕ)) → is_table bytes ≡ false → o ≡ compiled_in bytes lent (compile_answer bytes (length lent)) → o ≡ table_made bytes lent
  unfolding table_made pick
  made_of_definition o t e = rw t e
