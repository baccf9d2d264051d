-- "no definition compiles to this table": what number 20 means, without a word on how a table is checked.
use Rattle.std.specs.Prelude.{◌≡◌, List, ℕ, length, take}
use Rattle.classes.specs.Bytes.{IsBytes}
use Rattle.definition_rules.specs.Compile.{compiled, compile_answer, table_after}

-- with this room compiling the text gives these bytes: the answer is their number, and they stand first in the lent buffer, whatever was there
pub record CompilesTo (text : List ℕ) (room : ℕ) (table : List ℕ) : Type 0 where
  pub answer : compile_answer text room ≡ compiled (length table)
  pub after : (lent : List ℕ) → length lent ≡ room → take (length table) (table_after text lent) ≡ table

-- some definition compiles to the table: a text of bytes, and a room
abbrev pub Compilable : List ℕ → Type 0
Compilable table = (text : List ℕ) × IsBytes text × (room : ℕ) × CompilesTo text room table
