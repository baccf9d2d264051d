-- What each decision at a value and at a brace ensures, against the parser.
use Rattle.std.specs.Prelude.{◌≡◌, List, [], ◌∷◌, ℕ, ◌+◌, ◌*◌}
use Rattle.std.specs.Prelude.{Result as Answer, Ok, Err}
use Rattle.std.proofs.lemmas.List.Edits.{sets}
use Rattle.numbers.specs.Limits.{row_width}
use Rattle.numbers.specs.Rules.{rule_number}
use Rattle.numbers.specs.declared.Refusal.{Refusal}
use Rattle.reading_rules.specs.Token.{Token, opening, closing}
use Rattle.reading_rules.specs.Reading.{body, Tree}
use Rattle.reading_rules.specs.Parse.{Result, none_at, shut, struct_at}
use Rattle.message_rules.specs.Rows.{cells}
use Rattle.message_tokens.specs.Cursor.{cut_at, lexemes_at, Step}
use Rattle.message_unknown.specs.Along.{tokens_at, Stopped}
use Rattle.message_frame.specs.Ends.{end_of, EndsValue}
use Rattle.message_frame.specs.declared.Frame.{Frame}
use Rattle.message_frame.specs.declared.Done.{Done}
use Rattle.message_values.specs.declared.Brace.{Brace}

abbrev pub NoValue : List ℕ → Frame → Answer Done Refusal → Type 0
NoValue s f r = (before after : List ℕ) → EndsValue (none_at (tokens_at f.base s f.at)) s f before after r

-- a row over the token from a to e
pub record Leaf (f : Frame) (number a e : ℕ) (before after : List ℕ) (at next : ℕ) : Type 0 where
  pub fits : number ≡ 0
  pub same : at ≡ e
  pub written : after ≡ sets before (row_width * f.row) (cells (record { parameter = f.parameter; parent = f.parent; start = f.base + a; end = f.base + e; index = f.index } ∷ []))
  pub sized : next ≡ f.row + 1

pub record Misfit (f : Frame) (number a n q : ℕ) : Type 0 where
  pub unfit : number ≡ 0 → ⊥
  pub same : n ≡ number
  pub place : q ≡ f.base + a

abbrev pub LeafAt : Frame → ℕ → ℕ → ℕ → List ℕ → List ℕ → Answer Done Refusal → Type 0
LeafAt f number a e before after (Ok d) = Leaf f number a e before after d.past.at d.row
LeafAt f number a e before after (Err r) = Misfit f number a (rule_number r.rule) r.place

abbrev pub OpenedAt : List ℕ → Frame → Answer Brace Refusal → Type 0
OpenedAt s f (Ok b) = Step (cut_at f.base s f.at) f.base s f.at opening b.start b.past.at
OpenedAt s f (Err r) = (body_of : ℕ → List Token → Result (Tree body)) (u : ℕ) → Stopped (struct_at body_of u (tokens_at f.base s f.at)) (lexemes_at f.base s f.at) (end_of s f) (rule_number r.rule) r.place

pub record Shut (s : List ℕ) (f : Frame) (a at row : ℕ) (before after : List ℕ) (e next : ℕ) : Type 0 where
  pub place : ℕ
  pub step : Step (cut_at f.base s at) f.base s at closing place e
  pub written : after ≡ sets before (row_width * f.row) (cells (record { parameter = f.parameter; parent = f.parent; start = f.base + a; end = f.base + e; index = f.index } ∷ []))
  pub same : next ≡ row

abbrev pub ShutAt : List ℕ → Frame → ℕ → ℕ → ℕ → List ℕ → List ℕ → Answer Done Refusal → Type 0
ShutAt s f a at row before after (Ok d) = Shut s f a at row before after d.past.at d.row
ShutAt s f a at row before after (Err r) = (b : Tree body) → Stopped (shut b (tokens_at f.base s at)) (lexemes_at f.base s at) (end_of s f) (rule_number r.rule) r.place
