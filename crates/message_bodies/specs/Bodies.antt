-- What each decision in a body ensures, against the parser.
use Rattle.std.specs.Prelude.{◌≡◌, Bool, true, false, not, List, ◌∷◌, ℕ, suc, ◌+◌, ◌≤◌, ◌<◌, eqb, length, drop, get_or}
use Rattle.std.specs.Prelude.{Result as Answer, Ok, Err, Option, Some, None}
use Rattle.numbers.specs.Rules.{rule_number}
use Rattle.numbers.specs.declared.Rule.{Rule}
use Rattle.numbers.specs.declared.Rule.TheVariants.{MessageForms, FieldMissing}
use Rattle.message_tokens.specs.declared.TokenKind.{TokenKind}
use Rattle.message_tokens.specs.declared.TokenKind.TheVariants.{Nothing, Word, String, Equals, Comma, Opening, Closing}
use Rattle.numbers.specs.declared.Refusal.{Refusal}
use Rattle.table_records.specs.declared.Records.{Records}
use Rattle.message_tokens.specs.declared.Cursor.{Cursor}
use Rattle.reading_rules.specs.Token.{Token, word, equals}
use Rattle.reading_rules.specs.Schema.{Schema, is_void, found}
use Rattle.reading_rules.specs.Reading.{items, Tree, no_item, void_item, list_item, stopped}
use Rattle.message_rules.specs.Scan.{Lexeme as Lex}
use Rattle.reading_rules.specs.Parse.{Result, got, then, whole_list, unknown_after, item_at, items_at, list_then, lists_at}
use Rattle.reading_rules.specs.Reading.{width}
use Rattle.message_rules.specs.Rows.{rows_of}
use Rattle.message_tokens.specs.Cursor.{cut_at, lexemes_at, Step}
use Rattle.message_unknown.specs.Along.{tokens_at, Stopped}
use Rattle.message_lookup.specs.Questions.{schema_of_records, broken_number}
use Rattle.message_lookup.specs.Seen.{Marks}
use Rattle.message_frame.specs.Going.{Going}
use Rattle.message_frame.specs.Ends.{Values, end_of}
use Rattle.message_frame.specs.declared.Frame.{Frame}
use Rattle.message_bodies.specs.declared.Start.{Start}
use Rattle.message_bodies.specs.declared.Start.TheVariants as start
use Rattle.message_bodies.specs.declared.Item.{Item}
use Rattle.message_bodies.specs.declared.Item.TheVariants as item

-- the end of a body
unfoldable pub end_number_at : Bool → Bool → ℕ
end_number_at true complete = 23
end_number_at false true = 0
end_number_at false false = 27

unfoldable pub end_at : ℕ → Bool → Bool → ℕ → ℕ
end_at kind inside complete other = elim (eqb kind 0) [
  | true ↦ end_number_at inside complete
  | false ↦ elim (eqb kind 6) [ true ↦ end_number_at (not inside) complete | false ↦ other ]
]

-- the code's answer where a body may end, and at a token of each kind; none at another token
unfoldable pub end_of_body : Bool → Bool → Answer Unit Rule
end_of_body true complete = Err MessageForms
end_of_body false true = Ok tt
end_of_body false false = Err FieldMissing

unfoldable pub end_answer : TokenKind → Bool → Bool → Option (Answer Unit Rule)
end_answer Nothing inside complete = Some (end_of_body inside complete)
end_answer Closing inside complete = Some (end_of_body (not inside) complete)
end_answer Word inside complete = None
end_answer String inside complete = None
end_answer Equals inside complete = None
end_answer Comma inside complete = None
end_answer Opening inside complete = None

-- its number, another where there is none
abbrev pub end_or : ℕ → Option (Answer Unit Rule) → ℕ
end_or other None = other
end_or other (Some r) = broken_number r

abbrev pub StartAt : Schema → List ℕ → Frame → Bool → Answer Start Refusal → Type 0
StartAt S s f inside (Ok start.List) = (Vs : Values) (p : ℕ) (qs : List ℕ) → lists_at S Vs inside p (f.parameter ∷ qs) (tokens_at f.base s f.at) ≡ list_then S Vs (lists_at S Vs inside p qs) f.parameter (tokens_at f.base s f.at)
StartAt S s f inside (Ok start.End) = (Vs : Values) (p : ℕ) (qs : List ℕ) → lists_at S Vs inside p (f.parameter ∷ qs) (tokens_at f.base s f.at) ≡ got stopped (tokens_at f.base s f.at)
StartAt S s f inside (Err r) = (Vs : Values) (p : ℕ) (qs : List ℕ) → Stopped (lists_at S Vs inside p (f.parameter ∷ qs) (tokens_at f.base s f.at)) (lexemes_at f.base s f.at) (end_of s f) (rule_number r.rule) r.place

-- items
pub record VoidItem (S : Schema) (n : ℕ) (s : List ℕ) (f : Frame) (inside : Bool) (ks : List ℕ) (q a e : ℕ) : Type 0 where
  pub text : List ℕ
  pub step : Step (cut_at f.base s f.at) f.base s f.at (word text) a e
  pub is : (Vs : Values) (fuel : ℕ) → items_at S Vs inside f.parameter (suc fuel) ks (tokens_at f.base s f.at) ≡ then (items_at S Vs inside f.parameter fuel (q ∷ ks) (tokens_at f.base s e)) (λ i z. got (void_item q text i) z)
  pub below : q < n

pub record ListItem (S : Schema) (n : ℕ) (s : List ℕ) (f : Frame) (inside : Bool) (ks : List ℕ) (q e : ℕ) : Type 0 where
  pub text : List ℕ
  pub start : ℕ
  pub past : ℕ
  pub place : ℕ
  pub first : Step (cut_at f.base s f.at) f.base s f.at (word text) start past
  pub second : Step (cut_at f.base s past) f.base s past equals place e
  pub is : (Vs : Values) (fuel : ℕ) → items_at S Vs inside f.parameter (suc fuel) ks (tokens_at f.base s f.at) ≡ then (whole_list S Vs q (tokens_at f.base s e)) (λ l z. then (items_at S Vs inside f.parameter fuel (q ∷ ks) z) (λ i y. got (list_item q text l i) y))
  pub below : q < n

pub record Passes (S : Schema) (s : List ℕ) (f : Frame) (inside : Bool) (ks : List ℕ) (e : ℕ) : Type 0 where
  pub going : (Vs : Values) (fuel row up j : ℕ) (rows : List ℕ) → Going (items_at S Vs inside f.parameter (suc fuel) ks (tokens_at f.base s f.at)) (items_at S Vs inside f.parameter fuel ks (tokens_at f.base s e)) (lexemes_at f.base s f.at) (lexemes_at f.base s e) rows rows row f.parameter up j row j
  pub less : f.at < e
  pub within : e ≤ length s
  pub short : length (tokens_at f.base s e) < length (tokens_at f.base s f.at)

abbrev pub ItemFor : Schema → ℕ → List ℕ → Frame → Bool → List ℕ → Answer Item Refusal → Type 0
ItemFor S n s f inside ks (Ok item.End) = (Vs : Values) (fuel : ℕ) → items_at S Vs inside f.parameter (suc fuel) ks (tokens_at f.base s f.at) ≡ got no_item (tokens_at f.base s f.at)
ItemFor S n s f inside ks (Ok (item.Void q a v)) = VoidItem S n s f inside ks q a v.at
ItemFor S n s f inside ks (Ok (item.List q v)) = ListItem S n s f inside ks q v.at
ItemFor S n s f inside ks (Ok (item.Unknown v)) = Passes S s f inside ks v.at
ItemFor S n s f inside ks (Err r) = (Vs : Values) (fuel : ℕ) → Stopped (items_at S Vs inside f.parameter (suc fuel) ks (tokens_at f.base s f.at)) (lexemes_at f.base s f.at) (end_of s f) (rule_number r.rule) r.place

-- seen has the marks of the fields ks
abbrev pub ItemAt : Records → List ℕ → Frame → Bool → List Bool → Answer Item Refusal → Type 0
ItemAt k s f inside seen r = (ks : List ℕ) → Marks seen ks → ItemFor (schema_of_records k) k.count s f inside ks r

-- an unknown item whose tag ends at e, passed over up to at
pub record Skips (s : List ℕ) (base e at : ℕ) : Type 0 where
  pub tokens : ℕ
  pub left : lexemes_at base s at ≡ drop tokens (lexemes_at base s e)
  pub wrap : List ℕ → Tree items → Tree items
  pub is : (next : List Token → Result (Tree items)) (w : List ℕ) → unknown_after next w (tokens_at base s e) ≡ then (next (tokens_at base s at)) (λ i z. got (wrap w i) z)
  pub wide : (w : List ℕ) (t : Tree items) → width (wrap w t) ≡ suc tokens + width t
  pub rows : (w : List ℕ) (t : Tree items) (x : List Lex) (row p up j : ℕ) → rows_of x (wrap w t) 0 row p up j ≡ rows_of x t (suc tokens) row p up j
  pub least : e ≤ at
  pub within : e ≤ length s → at ≤ length s

abbrev pub UnknownAt : List ℕ → ℕ → ℕ → Answer Cursor Refusal → Type 0
UnknownAt s base e (Ok v) = Skips s base e v.at
UnknownAt s base e (Err r) = (next : List Token → Result (Tree items)) (w : List ℕ) → Stopped (unknown_after next w (tokens_at base s e)) (lexemes_at base s e) (base + length s) (rule_number r.rule) r.place

-- the item of the known field q, whose tag stands from a to e
pub record KnownVoid (S : Schema) (seen : List Bool) (q a e p b at : ℕ) : Type 0 where
  pub same : p ≡ q
  pub start : b ≡ a
  pub past : at ≡ e
  pub new : get_or seen q false ≡ false
  pub void : is_void (S.kind q) ≡ true

pub record KnownList (S : Schema) (s : List ℕ) (base : ℕ) (seen : List Bool) (q e p at : ℕ) : Type 0 where
  pub same : p ≡ q
  pub new : get_or seen q false ≡ false
  pub void : is_void (S.kind q) ≡ false
  pub place : ℕ
  pub step : Step (cut_at base s e) base s e equals place at

abbrev pub KnownAt : Schema → List ℕ → ℕ → List Bool → ℕ → ℕ → ℕ → Answer Item Refusal → Type 0
KnownAt S s base seen q a e (Ok item.End) = ⊥
KnownAt S s base seen q a e (Ok (item.Void p b v)) = KnownVoid S seen q a e p b v.at
KnownAt S s base seen q a e (Ok (item.List p v)) = KnownList S s base seen q e p v.at
KnownAt S s base seen q a e (Ok (item.Unknown v)) = ⊥
KnownAt S s base seen q a e (Err r) =
    (Vs : Values) (next : List ℕ → List Token → Result (Tree items)) (ks : List ℕ) (w : List ℕ) (i : ℕ) → Marks seen ks → Step (cut_at base s i) base s i (word w) a e
    → Stopped (item_at S Vs next ks w (found q) (tokens_at base s e)) (lexemes_at base s i) (base + length s) (rule_number r.rule) r.place
