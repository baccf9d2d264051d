-- The numbers of the automaton, each by name, as the code has them.
use Rattle.std.specs.Prelude.{ℕ}

-- What a token is, by number: the end, or a mark's byte.
abbrev pub end_token : ℕ
end_token = 0

abbrev pub semicolon : ℕ
semicolon = 59

abbrev pub range_opens : ℕ
range_opens = 60

abbrev pub range_closes : ℕ
range_closes = 62

abbrev pub question : ℕ
question = 63

abbrev pub bracket_opens : ℕ
bracket_opens = 91

abbrev pub bracket_closes : ℕ
bracket_closes = 93

abbrev pub brace_opens : ℕ
brace_opens = 123

abbrev pub brace_closes : ℕ
brace_closes = 125

-- A run's number, past every byte: a type that may have a range, another simple type, struct or union, any other run, `as`,
-- `plugin`.
abbrev pub ranged_type : ℕ
ranged_type = 256

abbrev pub simple_type : ℕ
simple_type = 257

abbrev pub compound_type : ℕ
compound_type = 258

abbrev pub reference_run : ℕ
reference_run = 259

abbrev pub as_run : ℕ
as_run = 260

abbrev pub plugin_run : ℕ
plugin_run = 261

-- Modes: where a parameter or a body's end is due, a `;` after a body is, after a type, where its range is due, its `>`,
-- a name after a range, after a name, a cardinality, a tag, plugin, where a cardinality's range is due, a tag; the last is
-- a cardinality's `]`.
abbrev pub at_start_mode : ℕ
at_start_mode = 0

abbrev pub due_semicolon_mode : ℕ
due_semicolon_mode = 1

abbrev pub after_type_mode : ℕ
after_type_mode = 2

abbrev pub due_range_mode : ℕ
due_range_mode = 3

abbrev pub due_range_end_mode : ℕ
due_range_end_mode = 4

abbrev pub due_name_mode : ℕ
due_name_mode = 5

abbrev pub after_name_mode : ℕ
after_name_mode = 6

abbrev pub after_card_mode : ℕ
after_card_mode = 7

abbrev pub after_tag_mode : ℕ
after_tag_mode = 8

abbrev pub after_plugin_mode : ℕ
after_plugin_mode = 9

abbrev pub due_card_mode : ℕ
due_card_mode = 10

abbrev pub due_tag_mode : ℕ
due_tag_mode = 11

abbrev pub due_card_end_mode : ℕ
due_card_end_mode = 12

-- How far a body is: among its fields, a group just opened, in a group, after a group.
abbrev pub fields_part : ℕ
fields_part = 0

abbrev pub opened_part : ℕ
opened_part = 1

abbrev pub group_part : ℕ
group_part = 2

abbrev pub closed_part : ℕ
closed_part = 3

-- A context: at the top, or one more than how far the innermost body is.
abbrev pub top_context : ℕ
top_context = 0

abbrev pub fields_context : ℕ
fields_context = 1

abbrev pub opened_context : ℕ
opened_context = 2

abbrev pub group_context : ℕ
group_context = 3

abbrev pub closed_context : ℕ
closed_context = 4

-- What a token does: it can't go on, or it is a type, `<`, a type's range, `>`, a name, `[` of a cardinality, its range, its
-- `]`, `as`, a tag, `?`, plugin, `;`, `{`, `}`, `;` after a body, `[` and `]` of a group, a name after a range; how many
-- there are.
abbrev pub stuck : ℕ
stuck = 0

abbrev pub take_type : ℕ
take_type = 1

abbrev pub open_range : ℕ
open_range = 2

abbrev pub take_range : ℕ
take_range = 3

abbrev pub close_range : ℕ
close_range = 4

abbrev pub take_name : ℕ
take_name = 5

abbrev pub open_card : ℕ
open_card = 6

abbrev pub take_card : ℕ
take_card = 7

abbrev pub close_card : ℕ
close_card = 8

abbrev pub take_as : ℕ
take_as = 9

abbrev pub take_tag : ℕ
take_tag = 10

abbrev pub take_no_tag : ℕ
take_no_tag = 11

abbrev pub take_plugin : ℕ
take_plugin = 12

abbrev pub end_heading : ℕ
end_heading = 13

abbrev pub open_body : ℕ
open_body = 14

abbrev pub close_body : ℕ
close_body = 15

abbrev pub end_body : ℕ
end_body = 16

abbrev pub open_group : ℕ
open_group = 17

abbrev pub close_group : ℕ
close_group = 18

abbrev pub take_name_after_range : ℕ
take_name_after_range = 19

abbrev pub acts : ℕ
acts = 20
