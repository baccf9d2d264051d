-- What a reader ensures of its answer and of the rows that it leaves, against the parser's answer and the rows of what was read.
use Rattle.std.specs.Prelude.{◌≡◌, List, ℕ, ◌+◌, ◌-◌, ◌*◌, ◌≤◌, ◌<◌, length, drop}
use Rattle.std.specs.Prelude.{Result as Answer, Ok, Err}
use Rattle.std.proofs.lemmas.List.Edits.{sets}
use Rattle.numbers.specs.Limits.{message_limit, parameter_limit, row_width}
use Rattle.numbers.specs.Rules.{rule_number}
use Rattle.numbers.specs.declared.Refusal.{Refusal}
use Rattle.reading_rules.specs.Token.{Token}
use Rattle.reading_rules.specs.Reading.{TreeSort, value, Tree, width}
use Rattle.message_rules.specs.Scan.{tokens_of, Lexeme as Lex}
use Rattle.reading_rules.specs.Parse.{Result, got}
use Rattle.message_rules.specs.Rows.{row_count, lexeme_at, rows_of, cells}
use Rattle.message_tokens.specs.Cursor.{lexemes_at}
use Rattle.message_unknown.specs.Along.{Stopped}
use Rattle.message_frame.specs.declared.Frame.{Frame}
use Rattle.message_frame.specs.declared.Done.{Done}

-- readers of the values of a parameter
abbrev pub Values : Type 0
Values = ℕ → List Token → Result (Tree value)

-- the place where s ends
abbrev pub end_of : List ℕ → Frame → ℕ
end_of s f = f.base + length s

-- what a reader asks: s, of len bytes, is the end of a short message; no more than two rows were made, and one value of a list read, for each byte before
pub record Room (f : Frame) (len n : ℕ) : Type 0 where
  pub short : f.base + len ≤ message_limit
  pub here : f.at ≤ len
  pub few : f.row ≤ 2 * (f.base + f.at) + 1
  pub above : f.parent < 65536
  pub indexed : f.index ≤ f.base + f.at
  pub known : n ≤ parameter_limit

-- read from the lexemes x to y, with the index j: the rows were lent before and left after, from row on; next is the row after them
pub record Read {k : TreeSort} (o : Result (Tree k)) (x y : List Lex) (before after : List ℕ) (row p up j next : ℕ) : Type 0 where
  pub tree : Tree k
  pub is : o ≡ got tree (tokens_of y)
  pub left : y ≡ drop (width tree) x
  pub written : after ≡ sets before (row_width * row) (cells (rows_of x tree 0 row p up j))
  pub sized : next ≡ row + row_count tree

-- how far a reader got in s, of len bytes: by least at least
pub record Moved (len lo least row at next : ℕ) : Type 0 where
  pub far : lo + least ≤ at
  pub within : at ≤ len
  pub counted : next + 2 * lo ≤ row + 2 * at

pub record Ended {k : TreeSort} (o : Result (Tree k)) (s : List ℕ) (f : Frame) (before after : List ℕ) (least at next : ℕ) : Type 0 where
  pub read : Read o (lexemes_at f.base s f.at) (lexemes_at f.base s at) before after f.row f.parameter f.parent f.index next
  pub moved : Moved (length s) f.at least f.row at next

abbrev pub Ends : {k : TreeSort} → Result (Tree k) → List ℕ → Frame → List ℕ → List ℕ → ℕ → Answer Done Refusal → Type 0
Ends o s f before after least (Ok d) = Ended o s f before after least d.past.at d.row
Ends o s f before after least (Err r) = Stopped o (lexemes_at f.base s f.at) (f.base + length s) (rule_number r.rule) r.place

-- a value has a token, and its last one ends where the reader does
pub record EndedValue (o : Result (Tree value)) (s : List ℕ) (f : Frame) (before after : List ℕ) (at next : ℕ) : Type 0 where
  pub ended : Ended o s f before after 1 at next
  pub wide : 1 ≤ width ended.read.tree
  pub last : (lexeme_at (lexemes_at f.base s f.at) (width ended.read.tree - 1)).end ≡ f.base + at

abbrev pub EndsValue : Result (Tree value) → List ℕ → Frame → List ℕ → List ℕ → Answer Done Refusal → Type 0
EndsValue o s f before after (Ok d) = EndedValue o s f before after d.past.at d.row
EndsValue o s f before after (Err r) = Stopped o (lexemes_at f.base s f.at) (f.base + length s) (rule_number r.rule) r.place
