-- What a token does, as the code decides it. k is the token's number, kind that of the heading's type.
use Rattle.std.specs.Prelude.{List, [], ◌∷◌, ℕ, eqb, leb, ltb, get_or}
use Rattle.classes.specs.Lists.{pick, same_bytes}
use Rattle.definition_automaton.specs.Names.{semicolon, range_opens, range_closes, question, bracket_opens, bracket_closes, brace_opens, brace_closes, ranged_type, simple_type, compound_type, reference_run, as_run, plugin_run, at_start_mode, due_semicolon_mode, after_type_mode, due_range_mode, due_range_end_mode, due_name_mode, after_name_mode, after_card_mode, after_tag_mode, after_plugin_mode, due_card_mode, due_tag_mode, due_card_end_mode, top_context, fields_context, group_context, closed_context, stuck, take_type, open_range, take_range, close_range, take_name, open_card, take_card, close_card, take_as, take_tag, take_no_tag, take_plugin, end_heading, open_body, close_body, end_body, open_group, close_group, take_name_after_range, acts}
use Rattle.definition_rules.specs.Words.{kw_as, kw_plugin, kind_of_run}

unfoldable pub type_kind : ℕ → ℕ
type_kind k = pick (eqb k 10) reference_run (pick (leb 8 k) compound_type (pick (ltb k 3) simple_type (pick (leb k 5) ranged_type simple_type)))

unfoldable pub run_kind : List ℕ → ℕ
run_kind w = pick (same_bytes kw_as w) as_run (pick (same_bytes kw_plugin w) plugin_run (type_kind (kind_of_run w)))

unfoldable pub end_act : ℕ → ℕ → ℕ
end_act kind k = pick (eqb kind compound_type) (pick (eqb k brace_opens) open_body stuck) (pick (eqb k semicolon) end_heading stuck)

unfoldable pub plugin_act : ℕ → ℕ → ℕ → ℕ
plugin_act context kind k = pick (eqb k plugin_run) (pick (eqb context top_context) stuck take_plugin) (end_act kind k)

unfoldable pub as_act : ℕ → ℕ → ℕ → ℕ
as_act context kind k = pick (eqb k as_run) (pick (eqb context top_context) stuck take_as) (plugin_act context kind k)

unfoldable pub name_act : ℕ → ℕ → ℕ → ℕ
name_act context kind k = pick (eqb k bracket_opens) (pick (eqb context top_context) stuck open_card) (as_act context kind k)

unfoldable pub type_act : ℕ → ℕ → ℕ
type_act context k = pick (eqb context top_context) (pick (ltb k reference_run) take_type stuck) (pick (eqb context closed_context) stuck take_type)

unfoldable pub closing_act : ℕ → ℕ → ℕ
closing_act context a = pick (eqb context fields_context) a (pick (eqb context closed_context) a stuck)

unfoldable pub body_act : ℕ → ℕ → ℕ
body_act context k = pick (eqb k brace_closes) (closing_act context close_body) (pick (eqb k bracket_opens) (closing_act context open_group) (pick (eqb k bracket_closes) (pick (eqb context group_context) close_group stuck) stuck))

unfoldable pub start_act : ℕ → ℕ → ℕ
start_act context k = pick (leb ranged_type k) (type_act context k) (body_act context k)

unfoldable pub run_act : ℕ → ℕ → ℕ
run_act a k = pick (leb ranged_type k) a stuck

unfoldable pub mark_act : ℕ → ℕ → ℕ → ℕ
mark_act b a k = pick (eqb k b) a stuck

unfoldable pub typed_act : ℕ → ℕ → ℕ
typed_act kind k = pick (leb ranged_type k) take_name (pick (eqb kind ranged_type) (mark_act range_opens open_range k) stuck)

unfoldable pub tag_act : ℕ → ℕ
tag_act k = pick (leb ranged_type k) take_tag (mark_act question take_no_tag k)

unfoldable pub act_of : ℕ → ℕ → ℕ → ℕ → ℕ
act_of mode context kind k =
    pick (eqb mode at_start_mode) (start_act context k)
    (pick (eqb mode due_semicolon_mode) (mark_act semicolon end_body k)
    (pick (eqb mode after_type_mode) (typed_act kind k)
    (pick (eqb mode due_range_mode) (run_act take_range k)
    (pick (eqb mode due_range_end_mode) (mark_act range_closes close_range k)
    (pick (eqb mode due_name_mode) (run_act take_name_after_range k)
    (pick (eqb mode after_name_mode) (name_act context kind k)
    (pick (eqb mode after_card_mode) (as_act context kind k)
    (pick (eqb mode after_tag_mode) (plugin_act context kind k)
    (pick (eqb mode after_plugin_mode) (end_act kind k)
    (pick (eqb mode due_card_mode) (run_act take_card k)
    (pick (eqb mode due_tag_mode) (tag_act k) (mark_act bracket_closes close_card k))))))))))))

-- the mode after each act, in the order of the acts
unfoldable pub next_modes : List ℕ
next_modes = at_start_mode ∷ after_type_mode ∷ due_range_mode ∷ due_range_end_mode ∷ due_name_mode ∷ after_name_mode ∷ due_card_mode ∷ due_card_end_mode ∷ after_card_mode ∷ due_tag_mode ∷ after_tag_mode ∷ after_tag_mode ∷ after_plugin_mode ∷ at_start_mode ∷ at_start_mode ∷ due_semicolon_mode ∷ at_start_mode ∷ at_start_mode ∷ at_start_mode ∷ after_name_mode ∷ []

unfoldable pub next_mode : ℕ → ℕ
next_mode a = pick (ltb a acts) (get_or next_modes a 0) at_start_mode
