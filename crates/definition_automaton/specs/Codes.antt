-- The numbers of the code's kinds, and its state and declaration at hand as numbers.
use Rattle.std.specs.Prelude.{Bool, true, false, ℕ, ◌-◌, map, eqb, leb, Option, None, Some, if◌then◌else◌, get_or}
use Rattle.definition_automaton.specs.Names.{end_token, semicolon, range_opens, range_closes, question, bracket_opens, bracket_closes, brace_opens, brace_closes, ranged_type, simple_type, compound_type, reference_run, as_run, plugin_run, at_start_mode, due_semicolon_mode, after_type_mode, due_range_mode, due_range_end_mode, due_name_mode, after_name_mode, after_card_mode, after_tag_mode, after_plugin_mode, due_card_mode, due_tag_mode, due_card_end_mode, fields_part, opened_part, group_part, closed_part, top_context, fields_context, opened_context, group_context, closed_context, stuck, take_type, open_range, take_range, close_range, take_name, open_card, take_card, close_card, take_as, take_tag, take_no_tag, take_plugin, end_heading, open_body, close_body, end_body, open_group, close_group, take_name_after_range}
use Rattle.definition_automaton.specs.States.{Stand}
use Rattle.definition_automaton.specs.Noting.{Hand}
use Rattle.definition_automaton.specs.declared.Token.{Token}
use Rattle.definition_automaton.specs.declared.Token.TheVariants.{End, Bad, Semicolon, RangeOpens, RangeCloses, Question, BracketOpens, BracketCloses, BraceOpens, BraceCloses, RangedType, SimpleType, CompoundType, Reference, As, Plugin}
use Rattle.definition_automaton.specs.declared.Mode.{Mode}
use Rattle.definition_automaton.specs.declared.Mode.TheVariants.{AtStart, DueSemicolon, AfterType, DueRange, DueRangeEnd, DueName, AfterName, AfterCard, AfterTag, AfterPlugin, DueCard, DueTag, DueCardEnd}
use Rattle.definition_automaton.specs.declared.Part.{Part}
use Rattle.definition_automaton.specs.declared.Part.TheVariants.{Fields, Opened, Group, Closed}
use Rattle.definition_automaton.specs.declared.Action.{Action}
use Rattle.definition_automaton.specs.declared.Action.TheVariants.{TakeType, OpenRange, TakeRange, CloseRange, TakeName, OpenCard, TakeCard, CloseCard, TakeAs, TakeTag, TakeNoTag, TakePlugin, EndHeading, OpenBody, CloseBody, EndBody, OpenGroup, CloseGroup, TakeNameAfterRange}
use Rattle.definition_automaton.specs.declared.Tagged.{Tagged}
use Rattle.definition_automaton.specs.declared.Tagged.TheVariants.{OwnName, Tagless, Explicit}
use Rattle.definition_automaton.specs.declared.Body.{Body}
use Rattle.definition_automaton.specs.declared.State.{State}
use Rattle.definition_automaton.specs.declared.Pending.{Pending}

abbrev pub flag_number : Bool → ℕ
flag_number true = 1
flag_number false = 0

abbrev pub token_number : Token → ℕ
token_number End = end_token
token_number Bad = 1
token_number Semicolon = semicolon
token_number RangeOpens = range_opens
token_number RangeCloses = range_closes
token_number Question = question
token_number BracketOpens = bracket_opens
token_number BracketCloses = bracket_closes
token_number BraceOpens = brace_opens
token_number BraceCloses = brace_closes
token_number RangedType = ranged_type
token_number SimpleType = simple_type
token_number CompoundType = compound_type
token_number Reference = reference_run
token_number As = as_run
token_number Plugin = plugin_run

-- a run's number is past every byte
abbrev pub is_run : Token → Bool
is_run t = leb ranged_type (token_number t)

abbrev pub mode_number : Mode → ℕ
mode_number AtStart = at_start_mode
mode_number DueSemicolon = due_semicolon_mode
mode_number AfterType = after_type_mode
mode_number DueRange = due_range_mode
mode_number DueRangeEnd = due_range_end_mode
mode_number DueName = due_name_mode
mode_number AfterName = after_name_mode
mode_number AfterCard = after_card_mode
mode_number AfterTag = after_tag_mode
mode_number AfterPlugin = after_plugin_mode
mode_number DueCard = due_card_mode
mode_number DueTag = due_tag_mode
mode_number DueCardEnd = due_card_end_mode

abbrev pub part_number : Part → ℕ
part_number Fields = fields_part
part_number Opened = opened_part
part_number Group = group_part
part_number Closed = closed_part

-- the part of the innermost body, none at the top
abbrev pub context_number_of : Option Part → ℕ
context_number_of None = top_context
context_number_of (Some Fields) = fields_context
context_number_of (Some Opened) = opened_context
context_number_of (Some Group) = group_context
context_number_of (Some Closed) = closed_context

abbrev pub act_number : Action → ℕ
act_number TakeType = take_type
act_number OpenRange = open_range
act_number TakeRange = take_range
act_number CloseRange = close_range
act_number TakeName = take_name
act_number OpenCard = open_card
act_number TakeCard = take_card
act_number CloseCard = close_card
act_number TakeAs = take_as
act_number TakeTag = take_tag
act_number TakeNoTag = take_no_tag
act_number TakePlugin = take_plugin
act_number EndHeading = end_heading
act_number OpenBody = open_body
act_number CloseBody = close_body
act_number EndBody = end_body
act_number OpenGroup = open_group
act_number CloseGroup = close_group
act_number TakeNameAfterRange = take_name_after_range

-- what a token does, none if it can't go on
abbrev pub answer_number : Option Action → ℕ
answer_number None = stuck
answer_number (Some a) = act_number a

abbrev pub tagged_number : Tagged → ℕ
tagged_number OwnName = 0
tagged_number Tagless = 1
tagged_number Explicit = 2

abbrev pub body_parameter : Body → ℕ
body_parameter b = b.parameter

abbrev pub body_part : Body → ℕ
body_part b = part_number b.part

abbrev pub stand_of : State → Stand
stand_of s = record { mode = mode_number s.mode; depth = s.depth; numbers = map body_parameter s.bodies; bodies = map body_part s.bodies; count = s.count; over = s.over }

abbrev pub hand_of : Pending → Hand
hand_of p = record { typed = p.typed; range = p.range; name = p.name; card = p.card; tag = p.tag; ranged = flag_number p.ranged; carded = flag_number p.carded; tagged = tagged_number p.tagged; plugin = flag_number p.plugin; kind = token_number p.kind }

-- what a place among the bodies holds before one is opened there
abbrev pub no_body : Body
no_body = record { parameter = 0; part = Fields }

abbrev pub innermost_of : State → Option Body
innermost_of s = if eqb s.depth 0 then None else Some (get_or s.bodies (s.depth - 1) no_body)
