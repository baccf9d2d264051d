-- The declarations: the flat list of parameters in order of names, read off the tokens by an automaton
-- with a stack, and told by a tree.
use Rattle.std.specs.Prelude.{Bool, true, false, not, ◌&&◌, List, [], ◌∷◌, ℕ, suc, ◌+◌, eqb}
use Rattle.classes.specs.Lists.{same_bytes, pick}
use Rattle.definition_rules.specs.Words.{kw_as, kw_plugin, takes_range, is_compound, is_reference}
use Rattle.definition_rules.specs.Scan.{TextToken, run, mark}
use Rattle.definition_rules.specs.Forms.{MaybeRun, absent, given, Tag, own_name, tagless, explicit, Heading, heading, type_run, FormSort, tops, Form, plain, compound, no_field, field, no_group, group, last_top, more_tops}
use Rattle.reading_rules.specs.Record.{Up, top, under}

-- parent, directly in an extension, heading
pub data Declaration : Type 0 where
  declaration : Up → Bool → Heading → Declaration

-- ---- told by a tree, in front of what follows; k is the number of the first

unfoldable pub count_form : {s : FormSort} → Form s → ℕ
count_form (plain h) = 1
count_form (compound h f g) = suc (count_form f + count_form g)
count_form no_field = 0
count_form (field x f) = count_form x + count_form f
count_form no_group = 0
count_form (group x f g) = count_form x + (count_form f + count_form g)
count_form (last_top x) = count_form x
count_form (more_tops x t) = count_form x + count_form t

unfoldable pub declare : {s : FormSort} → Form s → Up → Bool → ℕ → List Declaration → List Declaration
declare (plain h) u e k r = declaration u e h ∷ r
declare (compound h f g) u e k r = declaration u e h ∷ declare f (under k) false (suc k) (declare g (under k) true (suc k + count_form f) r)
declare no_field u e k r = r
declare (field x f) u e k r = declare x u e k (declare f u e (k + count_form x) r)
declare no_group u e k r = r
declare (group x f g) u e k r = declare x u e k (declare f u e (k + count_form x) (declare g u e (k + (count_form x + count_form f)) r))
declare (last_top x) u e k r = declare x u e k r
declare (more_tops x t) u e k r = declare x u e k (declare t u e (k + count_form x) r)

abbrev pub tree_declarations : Form tops → List Declaration
tree_declarations d = declare d top false 0 []

-- ---- read off the tokens

-- where a declaration's runs stand: numbers of tokens, from 0 at the start. Without a tag run tag_at is the name's,
-- "the later name or tag"; without a range range_at is the type's, and without a cardinality card_at the name's: no fault has them.
pub record Spots : Type 0 where
  pub type_at : ℕ
  pub range_at : ℕ
  pub name_at : ℕ
  pub card_at : ℕ
  pub tag_at : ℕ

abbrev pub spots_of : ℕ → ℕ → ℕ → Spots
spots_of y g n = record { type_at = y; range_at = g; name_at = n; card_at = n; tag_at = n }

abbrev pub card_spot : ℕ → Spots → Spots
card_spot i s = record { type_at = s.type_at; range_at = s.range_at; name_at = s.name_at; card_at = i; tag_at = s.tag_at }

abbrev pub tag_spot : ℕ → Spots → Spots
tag_spot i s = record { type_at = s.type_at; range_at = s.range_at; name_at = s.name_at; card_at = s.card_at; tag_at = i }

pub data Noted : Type 0 where
  noted : Spots → Declaration → Noted

-- an open body: the parameter's number, and how far the body is
pub data BodyMode : Type 0 where
  in_fields group_opened in_group groups_closed : BodyMode

pub data Frame : Type 0 where
  frame : ℕ → BodyMode → Frame

-- how far a heading is, after its name
pub data Stage : Type 0 where
  after_name after_card after_tag after_plugin : Stage

pub data Phase : Type 0 where
  at_start due_semicolon : Phase
  after_type due_range : ℕ → List ℕ → Phase
  due_range_end : ℕ → ℕ → List ℕ → List ℕ → Phase
  due_name : ℕ → ℕ → List ℕ → MaybeRun → Phase
  in_heading : Stage → Spots → Heading → Phase
  due_card due_tag due_card_end : Spots → Heading → Phase

-- what a token does: it can't go on, moves on, or ends a heading, which notes a declaration
pub data Action : Type 0 where
  stop : Action
  move : List Frame → Phase → Action
  note : Noted → List Frame → Phase → Action

unfoldable pub allow : Bool → Action → Action
allow true a = a
allow false a = stop

unfoldable pub with_card : List ℕ → Heading → Heading
with_card v (heading w g n c t p) = heading w g n (given v) t p

unfoldable pub with_tag : Tag → Heading → Heading
with_tag v (heading w g n c t p) = heading w g n c v p

unfoldable pub with_plugin : Heading → Heading
with_plugin (heading w g n c t p) = heading w g n c t true

unfoldable pub takes_field : BodyMode → Bool
takes_field in_fields = true
takes_field group_opened = true
takes_field in_group = true
takes_field groups_closed = false

unfoldable pub takes_close : BodyMode → Bool
takes_close in_fields = true
takes_close group_opened = false
takes_close in_group = false
takes_close groups_closed = true

unfoldable pub takes_group_end : BodyMode → Bool
takes_group_end in_fields = false
takes_group_end group_opened = false
takes_group_end in_group = true
takes_group_end groups_closed = false

unfoldable pub is_extension : BodyMode → Bool
is_extension in_fields = false
is_extension group_opened = true
is_extension in_group = true
is_extension groups_closed = false

unfoldable pub after_field : BodyMode → BodyMode
after_field in_fields = in_fields
after_field group_opened = in_group
after_field in_group = in_group
after_field groups_closed = groups_closed

unfoldable pub field_done : List Frame → List Frame
field_done [] = []
field_done (frame p m ∷ σ) = frame p (after_field m) ∷ σ

unfoldable pub parent_of : List Frame → Up
parent_of [] = top
parent_of (frame p m ∷ σ) = under p

unfoldable pub is_under_extension : List Frame → Bool
is_under_extension [] = false
is_under_extension (frame p m ∷ σ) = is_extension m

unfoldable pub is_in_body : List Frame → Bool
is_in_body [] = false
is_in_body (f ∷ σ) = true

-- σ: the open bodies, innermost first; k: declarations so far; i: the token's number
unfoldable pub start_run : List Frame → ℕ → List ℕ → Action
start_run [] i w = allow (not (is_reference w)) (move [] (after_type i w))
start_run (frame p m ∷ σ) i w = allow (takes_field m) (move (frame p m ∷ σ) (after_type i w))

unfoldable pub start_mark : List Frame → ℕ → Action
start_mark [] n = stop
start_mark (frame p m ∷ σ) n =
    pick (eqb n 125) (allow (takes_close m) (move σ due_semicolon))
    (pick (eqb n 91) (allow (takes_close m) (move (frame p group_opened ∷ σ) at_start))
    (allow (eqb n 93 && takes_group_end m) (move (frame p groups_closed ∷ σ) at_start)))

unfoldable pub heading_end : List Frame → ℕ → Spots → Heading → ℕ → Action
heading_end σ k s h n =
    pick (eqb n 59)
    (allow (not (is_compound (type_run h))) (note (noted s (declaration (parent_of σ) (is_under_extension σ) h)) (field_done σ) at_start))
    (allow (eqb n 123 && is_compound (type_run h)) (note (noted s (declaration (parent_of σ) (is_under_extension σ) h)) (frame k in_fields ∷ field_done σ) at_start))

unfoldable pub heading_run : List Frame → Stage → Spots → Heading → List ℕ → Action
heading_run σ after_name s h w = pick (same_bytes w kw_as) (allow (is_in_body σ) (move σ (due_tag s h))) (allow (same_bytes w kw_plugin && is_in_body σ) (move σ (in_heading after_plugin s (with_plugin h))))
heading_run σ after_card s h w = pick (same_bytes w kw_as) (allow (is_in_body σ) (move σ (due_tag s h))) (allow (same_bytes w kw_plugin && is_in_body σ) (move σ (in_heading after_plugin s (with_plugin h))))
heading_run σ after_tag s h w = allow (same_bytes w kw_plugin && is_in_body σ) (move σ (in_heading after_plugin s (with_plugin h)))
heading_run σ after_plugin s h w = stop

unfoldable pub heading_mark : List Frame → Stage → ℕ → Spots → Heading → ℕ → Action
heading_mark σ after_name k s h n = pick (eqb n 91) (allow (is_in_body σ) (move σ (due_card s h))) (heading_end σ k s h n)
heading_mark σ after_card k s h n = heading_end σ k s h n
heading_mark σ after_tag k s h n = heading_end σ k s h n
heading_mark σ after_plugin k s h n = heading_end σ k s h n

unfoldable pub step : List Frame → ℕ → ℕ → Phase → TextToken → Action
step σ k i at_start (run w) = start_run σ i w
step σ k i at_start (mark n) = start_mark σ n
step σ k i due_semicolon (run w) = stop
step σ k i due_semicolon (mark n) = allow (eqb n 59) (move σ at_start)
step σ k i (after_type y w) (run v) = move σ (in_heading after_name (spots_of y y i) (heading w absent v absent own_name false))
step σ k i (after_type y w) (mark n) = allow (eqb n 60 && takes_range w) (move σ (due_range y w))
step σ k i (due_range y w) (run v) = move σ (due_range_end y i w v)
step σ k i (due_range y w) (mark n) = stop
step σ k i (due_range_end y g w v) (run u) = stop
step σ k i (due_range_end y g w v) (mark n) = allow (eqb n 62) (move σ (due_name y g w (given v)))
step σ k i (due_name y g w x) (run v) = move σ (in_heading after_name (spots_of y g i) (heading w x v absent own_name false))
step σ k i (due_name y g w x) (mark n) = stop
step σ k i (in_heading l s h) (run w) = heading_run σ l s h w
step σ k i (in_heading l s h) (mark n) = heading_mark σ l k s h n
step σ k i (due_card s h) (run w) = move σ (due_card_end (card_spot i s) (with_card w h))
step σ k i (due_card s h) (mark n) = stop
step σ k i (due_tag s h) (run w) = move σ (in_heading after_tag (tag_spot i s) (with_tag (explicit w) h))
step σ k i (due_tag s h) (mark n) = allow (eqb n 63) (move σ (in_heading after_tag s (with_tag tagless h)))
step σ k i (due_card_end s h) (run w) = stop
step σ k i (due_card_end s h) (mark n) = allow (eqb n 93) (move σ (in_heading after_card s h))

-- how a row of tokens ends: stuck at a token's number (the row's length where more is due), or complete
pub data Outcome (A : Type 0) : Type 0 where
  stuck_at : ℕ → Outcome A
  complete : A → Outcome A

unfoldable pub map_outcome : {A B : Type 0} → (A → B) → Outcome A → Outcome B
map_outcome f (stuck_at p) = stuck_at p
map_outcome f (complete a) = complete (f a)

unfoldable pub end_if : Bool → ℕ → Outcome (List Noted)
end_if true i = stuck_at i
end_if false i = complete []

-- "one or more top parameters"
unfoldable pub at_end : List Frame → ℕ → ℕ → Phase → Outcome (List Noted)
at_end [] k i at_start = end_if (eqb k 0) i
at_end [] k i due_semicolon = stuck_at i
at_end [] k i (after_type y w) = stuck_at i
at_end [] k i (due_range y w) = stuck_at i
at_end [] k i (due_range_end y g w v) = stuck_at i
at_end [] k i (due_name y g w x) = stuck_at i
at_end [] k i (in_heading l s h) = stuck_at i
at_end [] k i (due_card s h) = stuck_at i
at_end [] k i (due_tag s h) = stuck_at i
at_end [] k i (due_card_end s h) = stuck_at i
at_end (f ∷ σ) k i p = stuck_at i

unfoldable pub parse_forms : List Frame → ℕ → ℕ → Phase → List TextToken → Outcome (List Noted)
parse_forms σ k i p [] = at_end σ k i p
parse_forms σ k i p (x ∷ xs) =
    elim (step σ k i p x) [
      | stop ↦ stuck_at i
      | move τ q ↦ parse_forms τ k (suc i) q xs
      | note d τ q ↦ map_outcome (λ r. d ∷ r) (parse_forms τ (suc k) (suc i) q xs)
    ]

abbrev pub parse_tokens : List TextToken → Outcome (List Noted)
parse_tokens ts = parse_forms [] 0 0 at_start ts

unfoldable pub declarations_of : List Noted → List Declaration
declarations_of [] = []
declarations_of (noted s d ∷ r) = d ∷ declarations_of r
