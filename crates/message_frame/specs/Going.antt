-- Where a loop of a reader stands: the answer at its start is the answer now with what was read so far in front.
use Rattle.std.specs.Prelude.{◌≡◌, List, ◌++◌, ℕ, ◌+◌, ◌-◌, ◌*◌, ◌≤◌, length, drop}
use Rattle.std.proofs.lemmas.List.Edits.{sets}
use Rattle.numbers.specs.Limits.{row_width}
use Rattle.reading_rules.specs.Token.{Token}
use Rattle.reading_rules.specs.Reading.{TreeSort, value, Tree, width}
use Rattle.message_rules.specs.Scan.{Lexeme as Lex}
use Rattle.reading_rules.specs.Parse.{Result, refused, got}
use Rattle.message_rules.specs.Rows.{Row, lexeme_at, rows_of, cells}
use Rattle.message_rows.specs.Filled.{ended}

-- the whole tree around t, which is read from y on, with n tokens and the rows acc in front; j and j' are the indices there and here
pub record Wrapped {k k' : TreeSort} (o : Result (Tree k)) (n : ℕ) (acc : List Row) (x y : List Lex) (t : Tree k') (z : List Token) (row p up j next j' : ℕ) : Type 0 where
  pub tree : Tree k
  pub is : o ≡ got tree z
  pub wide : width tree ≡ n + width t
  pub rows : rows_of x tree 0 row p up j ≡ acc ++ rows_of y t 0 next p up j'

-- the answer o from the lexemes x on, and the answer o' from y on
pub record Going {k k' : TreeSort} (o : Result (Tree k)) (o' : Result (Tree k')) (x y : List Lex) (before after : List ℕ) (row p up j next j' : ℕ) : Type 0 where
  pub tokens : ℕ
  pub left : y ≡ drop tokens x
  pub acc : List Row
  pub refuses : (n : ℕ) (z : List Token) → o' ≡ refused n z → o ≡ refused n z
  pub gets : (t : Tree k') (z : List Token) → o' ≡ got t z → Wrapped o tokens acc x y t z row p up j next j'
  pub written : after ≡ sets before (row_width * row) (cells acc)
  pub sized : next ≡ row + length acc

-- the same down a chain of choices, whose rows share the end of what they hold, a value of q under the row above
pub record Enclosed (o : Result (Tree value)) (n : ℕ) (acc : List Row) (x y : List Lex) (t : Tree value) (z : List Token) (row p up j next q above j' : ℕ) : Type 0 where
  pub tree : Tree value
  pub is : o ≡ got tree z
  pub wide : width tree ≡ n + width t
  pub rows : rows_of x tree 0 row p up j ≡ ended (lexeme_at y (width t - 1)).end acc ++ rows_of y t 0 next q above j'

pub record Chain (o o' : Result (Tree value)) (x y : List Lex) (before after : List ℕ) (row p up j next q above j' : ℕ) : Type 0 where
  pub tokens : ℕ
  pub left : y ≡ drop tokens x
  pub acc : List Row
  pub refuses : (n : ℕ) (z : List Token) → o' ≡ refused n z → o ≡ refused n z
  pub gets : (t : Tree value) (z : List Token) → o' ≡ got t z → 1 ≤ width t → Enclosed o tokens acc x y t z row p up j next q above j'
  pub written : after ≡ sets before (row_width * row) (cells acc)
  pub sized : next ≡ row + length acc
