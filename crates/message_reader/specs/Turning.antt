-- One turn of the loops over values, and over untagged fields and items.
use Rattle.std.specs.Prelude.{◌≡◌, Bool, true, false, List, [], ◌∷◌, ℕ, suc, ◌+◌, ◌-◌, ◌*◌, ◌≤◌, ◌<◌, length}
use Rattle.std.specs.Prelude.{Result as Answer, Ok, Err}
use Rattle.std.proofs.lemmas.List.Edits.{sets}
use Rattle.numbers.specs.Limits.{row_width}
use Rattle.numbers.specs.Rules.{rule_number}
use Rattle.numbers.specs.declared.Refusal.{Refusal}
use Rattle.table_records.specs.declared.Records.{Records}
use Rattle.message_rules.specs.Rows.{cells}
use Rattle.reading_rules.specs.Token.{Token}
use Rattle.reading_rules.specs.Schema.{Schema}
use Rattle.reading_rules.specs.Schema as schema
use Rattle.reading_rules.specs.Reading.{TreeSort, value, body, items, Tree}
use Rattle.reading_rules.specs.Parse.{Result, value_at, whole_value, list_at, whole_list, items_at, lists_at, body_at}
use Rattle.message_tokens.specs.Cursor.{lexemes_at}
use Rattle.message_unknown.specs.Along.{tokens_at, Stopped}
use Rattle.message_lookup.specs.Questions.{schema_of_records, untagged_in}
use Rattle.message_lookup.specs.Seen.{Marks}
use Rattle.message_frame.specs.declared.Frame.{Frame}
use Rattle.message_frame.specs.declared.Done.{Done}
use Rattle.message_frame.specs.Ends.{Moved, Ended, EndedValue, EndsValue}
use Rattle.message_frame.specs.Going.{Going}
use Rattle.message_lists.specs.declared.Taken.{Taken}
use Rattle.message_lists.specs.declared.Taken.TheVariants as taken
use Rattle.message_reader.specs.declared.Part.{Part}
use Rattle.message_reader.specs.declared.Part.TheVariants as part

-- values, with bodies of the depth that is left
abbrev pub values_of : Schema → ℕ → ℕ → List Token → Result (Tree value)
values_of S depth = whole_value S (body_at S depth true)

-- where f stands in s
abbrev pub here : List ℕ → Frame → List Token
here s f = tokens_at f.base s f.at

-- fewer tokens are left
abbrev pub Fewer : List ℕ → Frame → ℕ → Type 0
Fewer s f at = length (tokens_at f.base s at) < length (tokens_at f.base s f.at)

-- one turn: the answer o is o' from at on, with the index j, and what was read in front
pub record Turned {k : TreeSort} (o o' : Result (Tree k)) (s : List ℕ) (f : Frame) (before after : List ℕ) (at next j : ℕ) : Type 0 where
  pub going : Going o o' (lexemes_at f.base s f.at) (lexemes_at f.base s at) before after f.row f.parameter f.parent f.index next j
  pub moved : Moved (length s) f.at 1 f.row at next

-- loops: the answer at the start, and the answer now
pub record Line {k k' : TreeSort} (o : Result (Tree k)) (o' : Result (Tree k')) (s : List ℕ) (f : Frame) (before after : List ℕ) (at row j : ℕ) : Type 0 where
  pub going : Going o o' (lexemes_at f.base s f.at) (lexemes_at f.base s at) before after f.row f.parameter f.parent f.index row j
  pub moved : Moved (length s) f.at 0 f.row at row

-- with fuel
pub record Loop {k k' : TreeSort} (o : Result (Tree k)) (now : ℕ → Result (Tree k')) (s : List ℕ) (f : Frame) (before after : List ℕ) (at row j : ℕ) : Type 0 where
  pub fuel : ℕ
  pub enough : length (tokens_at f.base s at) < fuel
  pub line : Line o (now fuel) s f before after at row j

-- a value of a list, by its index
abbrev pub ElementAt : Schema → List ℕ → Frame → List ℕ → List ℕ → Answer Taken Refusal → Type 0
ElementAt S s f before after (Ok (taken.On u next)) = (fuel : ℕ) → Fewer s f u.at × Turned (list_at S (values_of S f.depth) (suc fuel) f.parameter f.index (here s f)) (list_at S (values_of S f.depth) fuel f.parameter (suc f.index) (tokens_at f.base s u.at)) s f before after u.at next (suc f.index)
ElementAt S s f before after (Ok (taken.Last u next)) = (fuel : ℕ) → Ended (list_at S (values_of S f.depth) (suc fuel) f.parameter f.index (here s f)) s f before after 1 u.at next
ElementAt S s f before after (Err r) = (fuel : ℕ) → Stopped (list_at S (values_of S f.depth) (suc fuel) f.parameter f.index (here s f)) (lexemes_at f.base s f.at) (f.base + length s) (rule_number r.rule) r.place

-- the same before what follows is read
abbrev pub TakenAt : Schema → List ℕ → Frame → List ℕ → List ℕ → Answer Taken Refusal → Type 0
TakenAt S s f before after (Ok (taken.On u next)) = ElementAt S s f before after (Ok (taken.On u next))
TakenAt S s f before after (Ok (taken.Last u next)) = EndedValue (values_of S f.depth f.parameter (here s f)) s f before after u.at next
TakenAt S s f before after (Err r) = Stopped (values_of S f.depth f.parameter (here s f)) (lexemes_at f.base s f.at) (f.base + length s) (rule_number r.rule) r.place

-- one item, with the marks of the fields seen
pub record Itemed (S : Schema) (s : List ℕ) (f : Frame) (inside : Bool) (ks : List ℕ) (marks : List Bool) (before after : List ℕ) (at next : ℕ) : Type 0 where
  pub seen : List ℕ
  pub marked : Marks marks seen
  pub fewer : Fewer s f at
  pub turned : (fuel : ℕ) → Turned (items_at S (values_of S f.depth) inside f.parameter (suc fuel) ks (here s f)) (items_at S (values_of S f.depth) inside f.parameter fuel seen (tokens_at f.base s at)) s f before after at next f.index

-- a value of what is no union
abbrev pub PlainAt : Schema → List ℕ → Frame → List ℕ → List ℕ → Answer Done Refusal → Type 0
PlainAt S s f before after r = (fuel : ℕ) → (S.kind (S.core f.parameter) ≡ schema.union → ⊥) → EndsValue (value_at S (body_at S f.depth true) (suc fuel) f.parameter (here s f)) s f before after r

unfoldable pub is_union : schema.Kind → Bool
is_union schema.void = false
is_union schema.simple = false
is_union schema.struct = false
is_union schema.union = true
is_union schema.reference = false

-- frames
abbrev pub placed_of : Frame → ℕ → ℕ → ℕ → Frame
placed_of f at row j = record { base = f.base; at = at; row = row; parameter = f.parameter; parent = f.parent; index = j; depth = f.depth }

abbrev pub moved_of : Frame → ℕ → ℕ → Frame
moved_of f at row = placed_of f at row f.index

abbrev pub next_of : Frame → ℕ → ℕ → ℕ → Frame
next_of f at row up = record { base = f.base; at = at; row = row; parameter = f.parameter; parent = up; index = f.index + 1; depth = f.depth }

abbrev pub field_of : Frame → ℕ → ℕ → Frame
field_of f at q = record { base = f.base; at = at; row = f.row; parameter = q; parent = f.parent; index = 0; depth = f.depth }

abbrev pub under_of : Frame → ℕ → ℕ → Frame
under_of f at q = record { base = f.base; at = at; row = f.row + 1; parameter = q; parent = f.row; index = 0; depth = f.depth }

abbrev pub inner_of : Frame → ℕ → ℕ → Frame
inner_of f e u = record { base = f.base + e; at = 0; row = f.row + 1; parameter = u; parent = f.row; index = 0; depth = f.depth }

abbrev pub deeper_of : Frame → Frame
deeper_of f = record { base = f.base; at = f.at; row = f.row; parameter = f.parameter; parent = f.parent; index = f.index; depth = f.depth - 1 }

-- the rows of a choice
abbrev pub open_row : Frame → ℕ → List ℕ → List ℕ
open_row f a before = sets before (row_width * f.row) (cells (record { parameter = f.parameter; parent = f.parent; start = f.base + a; end = 0; index = f.index } ∷ []))

pub record Twice (f : Frame) (q a e : ℕ) (before after : List ℕ) (at next : ℕ) : Type 0 where
  pub same : at ≡ e
  pub written : after ≡ sets before (row_width * f.row) (cells (record { parameter = f.parameter; parent = f.parent; start = f.base + a; end = f.base + e; index = f.index } ∷ record { parameter = q; parent = f.row; start = f.base + a; end = f.base + e; index = 0 } ∷ []))
  pub sized : next ≡ f.row + 2

abbrev pub WholeAt : Frame → ℕ → ℕ → ℕ → List ℕ → List ℕ → Done → Type 0
WholeAt f q a e before after d = Twice f q a e before after d.past.at d.row

-- the marks are those of some fields
pub record Marked (seen : List Bool) : Type 0 where
  pub ks : List ℕ
  pub marks : Marks seen ks

-- what is left of a body: lists of the untagged fields qs and then items, or items of which the fields ks were seen
abbrev pub left_sort : List ℕ → TreeSort
left_sort [] = items
left_sort (q ∷ qs) = body

abbrev pub left_at : Schema → (ℕ → List Token → Result (Tree value)) → Bool → ℕ → (qs : List ℕ) → List ℕ → ℕ → List Token → Result (Tree (left_sort qs))
left_at S Vs inside p [] ks fuel x = items_at S Vs inside p fuel ks x
left_at S Vs inside p (q ∷ qs) ks fuel x = lists_at S Vs inside p (q ∷ qs) x

-- the whole body of f
abbrev pub body_of : Schema → List ℕ → Frame → Bool → Result (Tree body)
body_of S s f inside = lists_at S (values_of S f.depth) inside f.parameter (S.untagged f.parameter) (here s f)

-- the body of f is read up to g, where the untagged fields qs are left; the marks are those of the fields seen
pub record Bodying (S : Schema) (s : List ℕ) (f g : Frame) (inside : Bool) (before after : List ℕ) (marks : List Bool) (qs : List ℕ) : Type 0 where
  pub same : g ≡ moved_of f g.at g.row
  pub seen : List ℕ
  pub marked : Marks marks seen
  pub fresh : (q : ℕ) (rest : List ℕ) → qs ≡ q ∷ rest → seen ≡ []
  pub loop : Loop (body_of S s f inside) (λ fuel. left_at S (values_of S f.depth) inside f.parameter qs seen fuel (tokens_at f.base s g.at)) s f before after g.at g.row f.index
  pub size : length after ≡ length before

-- the list of the field q is due from at on: what holds once it is read, and where it is refused
pub record Due (S : Schema) (n : ℕ) (s : List ℕ) (f g : Frame) (inside : Bool) (before after : List ℕ) (marks : List Bool) (q at : ℕ) (qs : List ℕ) : Type 0 where
  pub below : q < n
  pub far : g.at ≤ at
  pub within : at ≤ length s
  pub read : (mid : List ℕ) (e m : ℕ) → Ended (whole_list S (values_of S g.depth) q (tokens_at g.base s at)) s (field_of g at q) after mid 1 e m → Bodying S s f (moved_of g e m) inside before mid marks qs
  pub refused : (k p : ℕ) → Stopped (whole_list S (values_of S g.depth) q (tokens_at g.base s at)) (lexemes_at g.base s at) (g.base + length s) k p → Stopped (body_of S s f inside) (lexemes_at f.base s f.at) (f.base + length s) k p

-- what stands next in the body of f, which is read up to g
abbrev pub PartAt : Records → List ℕ → Frame → Frame → Bool → List ℕ → List ℕ → List Bool → Answer Part Refusal → Type 0
PartAt k s f g inside before after marks (Ok (part.List q u next)) = Due (schema_of_records k) k.count s f g inside before after marks q u.at (untagged_in k g.parameter next)
PartAt k s f g inside before after marks (Ok (part.On u next from)) = (g.at < u.at) × Bodying (schema_of_records k) s f (moved_of g u.at next) inside before after marks []
PartAt k s f g inside before after marks (Ok (part.Done u next)) = Ended (body_of (schema_of_records k) s f inside) s f before after 0 u.at next
PartAt k s f g inside before after marks (Err r) = Stopped (body_of (schema_of_records k) s f inside) (lexemes_at f.base s f.at) (f.base + length s) (rule_number r.rule) r.place
