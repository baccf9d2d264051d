-- What each decision at a union ensures, against the parser.
use Rattle.std.specs.Prelude.{◌≡◌, Bool, true, false, List, [], ◌∷◌, ℕ, ◌<◌}
use Rattle.std.specs.Prelude.{Result, Option, Ok, Err}
use Rattle.classes.specs.Lists.{pick}
use Rattle.numbers.specs.Rules.{rule_number}
use Rattle.numbers.specs.declared.Refusal.{Refusal}
use Rattle.numbers.specs.Decimal.{is_int_like}
use Rattle.reading_rules.specs.Token.{word, equals}
use Rattle.reading_rules.specs.Schema.{Schema, is_void, is_under, found}
use Rattle.reading_rules.specs.Reading.{value, Tree, chosen}
use Rattle.message_rules.specs.Scan.{Lexeme as Lex}
use Rattle.reading_rules.specs.Parse.{got, then, alternative, bare_for, union_at}
use Rattle.reading_rules.specs.Reading.{width}
use Rattle.message_rules.specs.Rows.{row_over, rows_of}
use Rattle.message_tokens.specs.Cursor.{part, cut_at, lexemes_at, Step}
use Rattle.message_unknown.specs.Along.{tokens_at, Stopped}
use Rattle.table_records.specs.Stored.{record_in}
use Rattle.table_records.specs.declared.Records.{Records}
use Rattle.message_lookup.specs.Questions.{schema_of_records}
use Rattle.message_frame.specs.Ends.{Values, end_of}
use Rattle.message_frame.specs.declared.Frame.{Frame}
use Rattle.message_choices.specs.declared.Choice.{Choice}
use Rattle.message_choices.specs.declared.Choice.TheVariants as choice
use Rattle.table_tags.specs.Search.{found_of}

-- the record that a tag of the union u is looked for from, in a value of p
abbrev pub start_of : List ℕ → List ℕ → ℕ → ℕ → ℕ
start_of t o p u = pick (is_under u (record_in t o p).parent) p u

-- a choice of q whose value is due at e
pub record Deeper (S : Schema) (n : ℕ) (s : List ℕ) (f : Frame) (u q a e : ℕ) : Type 0 where
  pub text : List ℕ
  pub past : ℕ
  pub place : ℕ
  pub first : Step (cut_at f.base s f.at) f.base s f.at (word text) a past
  pub second : Step (cut_at f.base s past) f.base s past equals place e
  pub is : (Vs : Values) → union_at S Vs u (tokens_at f.base s f.at) ≡ then (Vs q (tokens_at f.base s e)) (λ t z. got (chosen q text t) z)
  pub below : q < n

-- a choice of q that is whole: two rows over one word
pub record Whole (S : Schema) (n : ℕ) (s : List ℕ) (f : Frame) (u q a e : ℕ) : Type 0 where
  pub text : List ℕ
  pub tree : Tree value
  pub step : Step (cut_at f.base s f.at) f.base s f.at (word text) a e
  pub is : (Vs : Values) → union_at S Vs u (tokens_at f.base s f.at) ≡ got tree (tokens_at f.base s e)
  pub wide : width tree ≡ 1
  pub rows : (x : List Lex) (row p up j : ℕ) → rows_of x tree 0 row p up j ≡ row_over x 0 1 p up j ∷ row_over x 0 1 q row 0 ∷ []
  pub below : q < n

abbrev pub ChoiceAt : Records → List ℕ → Frame → ℕ → Result Choice Refusal → Type 0
ChoiceAt k s f u (Ok (choice.Deeper q a v)) = Deeper (schema_of_records k) k.count s f u q a v.at
ChoiceAt k s f u (Ok (choice.Last q a v)) = Whole (schema_of_records k) k.count s f u q a v.at
ChoiceAt k s f u (Err r) = (Vs : Values) → Stopped (union_at (schema_of_records k) Vs u (tokens_at f.base s f.at)) (lexemes_at f.base s f.at) (end_of s f) (rule_number r.rule) r.place

-- the same where the word from a to e is known to be no untagged int
pub record Known (S : Schema) (n : ℕ) (s : List ℕ) (f : Frame) (u q a e : ℕ) (b : Bool) : Type 0 where
  pub find : S.find u (part s a e) ≡ found q
  pub void : is_void (S.kind q) ≡ b
  pub below : q < n

pub record KnownEquals (S : Schema) (n : ℕ) (s : List ℕ) (f : Frame) (u q a e at : ℕ) : Type 0 where
  pub known : Known S n s f u q a e false
  pub place : ℕ
  pub step : Step (cut_at f.base s e) f.base s e equals place at

pub record KnownWhole (S : Schema) (n : ℕ) (s : List ℕ) (f : Frame) (u q a e at : ℕ) : Type 0 where
  pub known : Known S n s f u q a e true
  pub same : at ≡ e

abbrev pub ChosenAt : Records → List ℕ → Frame → ℕ → ℕ → ℕ → Result Choice Refusal → Type 0
ChosenAt k s f u a e (Ok (choice.Deeper q b v)) = (b ≡ a) × KnownEquals (schema_of_records k) k.count s f u q a e v.at
ChosenAt k s f u a e (Ok (choice.Last q b v)) = (b ≡ a) × KnownWhole (schema_of_records k) k.count s f u q a e v.at
ChosenAt k s f u a e (Err r) =
    (Vs : Values) (x : List Lex) → x ≡ lexemes_at f.base s f.at → Step (cut_at f.base s f.at) f.base s f.at (word (part s a e)) a e
    → Stopped (alternative (schema_of_records k) Vs (part s a e) ((schema_of_records k).find u (part s a e)) (tokens_at f.base s e)) x (end_of s f) (rule_number r.rule) r.place

abbrev pub bare_at : Records → ℕ → List ℕ → Option ℕ → Type 0
bare_at k u w r = found_of r ≡ bare_for ((schema_of_records k).bare u) (is_int_like w)
