-- What the cursor promises of a token: it is the first of the items from where it stood, and where the next ones begin.
use Rattle.std.specs.Prelude.{◌≡◌, List, [], ◌∷◌, ℕ, suc, ◌≤◌, ◌<◌, length, drop, true, Option, Some, None}
use Rattle.classes.specs.Lists.{part}
use Rattle.classes.specs.Bytes.{is_mark}
use Rattle.definition_rules.specs.Scan.{Item, item, bad, run, mark, outside, line_comment, comment, scan}
use Rattle.definition_scanner.specs.Live.{live_from, Ahead}
use Rattle.definition_scanner.specs.declared.Lexeme.{Lexeme}
use Rattle.definition_scanner.specs.declared.Lexeme.TheVariants.{Run, Mark, Bad, End}
use Rattle.std.specs.declared.ops.ControlFlow.{ControlFlow}
use Rattle.std.specs.declared.ops.ControlFlow.TheVariants.{Continue, Break}

pub record LineEnded (text : List ℕ) (from e : ℕ) : Type 0 where
  pub same : scan line_comment from (drop from text) ≡ scan outside e (drop e text)
  pub after : from ≤ e
  pub within : e ≤ length text

pub record CommentEnded (text : List ℕ) (from e : ℕ) : Type 0 where
  pub same : (q : ℕ) → scan (comment q) from (drop from text) ≡ scan outside e (drop e text)
  pub after : from ≤ e
  pub within : e ≤ length text

abbrev pub CommentClosed : List ℕ → ℕ → Option ℕ → Type 0
CommentClosed text from (Some e) = CommentEnded text from e
CommentClosed text from None = (q : ℕ) → scan (comment q) from (drop from text) ≡ bad q ∷ []

pub record RunAt (text : List ℕ) (at a e : ℕ) : Type 0 where
  pub cut : live_from text at ≡ item a (run (part text a e)) ∷ live_from text e
  pub after : at ≤ a
  pub some : a < e
  pub within : e ≤ length text

pub record MarkAt (text : List ℕ) (at b a e : ℕ) : Type 0 where
  pub cut : live_from text at ≡ item a (mark b) ∷ live_from text e
  pub byte : is_mark b ≡ true
  pub after : at ≤ a
  pub next : e ≡ suc a
  pub within : e ≤ length text

pub record BadAt (text : List ℕ) (at p : ℕ) : Type 0 where
  pub rest : List Item
  pub cut : live_from text at ≡ bad p ∷ rest
  pub later : Ahead p rest
  pub after : at ≤ p
  pub within : p < length text

abbrev pub Lexed : List ℕ → ℕ → Lexeme → Type 0
Lexed text at (Run a c) = RunAt text at a c.at
Lexed text at (Mark b a c) = MarkAt text at b a c.at
Lexed text at (Bad p) = BadAt text at p
Lexed text at End = live_from text at ≡ []

pub record Passed (text : List ℕ) (at e : ℕ) : Type 0 where
  pub same : live_from text at ≡ live_from text e
  pub after : at < e
  pub within : e ≤ length text

abbrev pub LexTurned : List ℕ → ℕ → ControlFlow Lexeme ℕ → Type 0
LexTurned text at (Continue e) = Passed text at e
LexTurned text at (Break x) = Lexed text at x
