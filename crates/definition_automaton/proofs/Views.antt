-- The state and the declaration at hand as the automaton of the definitions sees them.
use mathlib.Core.List.{List, [], ◌∷◌}
use Prim.Native.Nat.{ℕ, zero, suc}
use lib.Dec.{eqb}
use lib.ListN.{get_or}
use Rattle.classes.specs.Lists.{pick, part}
use Rattle.definition_rules.specs.Forms.{MaybeRun, absent, given, Tag, own_name, tagless, explicit, Heading, heading}
use Rattle.definition_rules.specs.Declarations.{declaration, Spots, Noted, noted, BodyMode, in_fields, group_opened, in_group, groups_closed, Frame, frame, after_name, after_card, after_tag, after_plugin, Phase, at_start, due_semicolon, after_type, due_range, due_range_end, due_name, in_heading, due_card, due_tag, due_card_end, Action, stop, move, note, field_done, parent_of}
use Rattle.definition_rules.specs.Declarations.{is_under_extension}
use Rattle.definition_automaton.specs.Acts.{next_mode}
use Rattle.definition_automaton.specs.States.{Stand}
use Rattle.definition_automaton.specs.Noting.{Hand, pending_by, notes}
use Rattle.definition_automaton.specs.declared.Span.{Span}

unfoldable pub body_mode_of : ℕ → BodyMode
body_mode_of m = pick (eqb m 0) in_fields (pick (eqb m 1) group_opened (pick (eqb m 2) in_group groups_closed))

unfoldable pub frames_from : ℕ → List ℕ → List ℕ → List Frame
frames_from zero ns bs = []
frames_from (suc d) ns bs = frame (get_or ns d 0) (body_mode_of (get_or bs d 0)) ∷ frames_from d ns bs

abbrev pub open_frames : Stand → List Frame
open_frames s = frames_from s.depth s.numbers s.bodies

abbrev pub run_in : List ℕ → Span → List ℕ
run_in text x = part text x.start x.end

abbrev pub given_if : ℕ → List ℕ → MaybeRun
given_if flag w = pick (eqb flag 1) (given w) absent

abbrev pub tag_if : ℕ → List ℕ → Tag
tag_if flag w = pick (eqb flag 0) own_name (pick (eqb flag 1) tagless (explicit w))

abbrev pub spots_in : Hand → Spots
spots_in p = record { type_at = p.typed.start; range_at = p.range.start; name_at = p.name.start; card_at = p.card.start; tag_at = p.tag.start }

abbrev pub heading_in : List ℕ → Hand → Heading
heading_in text p = heading (run_in text p.typed) (given_if p.ranged (run_in text p.range)) (run_in text p.name) (given_if p.carded (run_in text p.card)) (tag_if p.tagged (run_in text p.tag)) (eqb p.plugin 1)

unfoldable pub phase_in : List ℕ → ℕ → Hand → Phase
phase_in text m p =
    pick (eqb m 0) at_start
    (pick (eqb m 1) due_semicolon
    (pick (eqb m 2) (after_type p.typed.start (run_in text p.typed))
    (pick (eqb m 3) (due_range p.typed.start (run_in text p.typed))
    (pick (eqb m 4) (due_range_end p.typed.start p.range.start (run_in text p.typed) (run_in text p.range))
    (pick (eqb m 5) (due_name p.typed.start p.range.start (run_in text p.typed) (given (run_in text p.range)))
    (pick (eqb m 6) (in_heading after_name (spots_in p) (heading_in text p))
    (pick (eqb m 7) (in_heading after_card (spots_in p) (heading_in text p))
    (pick (eqb m 8) (in_heading after_tag (spots_in p) (heading_in text p))
    (pick (eqb m 9) (in_heading after_plugin (spots_in p) (heading_in text p))
    (pick (eqb m 10) (due_card (spots_in p) (heading_in text p))
    (pick (eqb m 11) (due_tag (spots_in p) (heading_in text p)) (due_card_end (spots_in p) (heading_in text p)))))))))))))

-- the number of a context
unfoldable pub body_context : BodyMode → ℕ
body_context in_fields = 1
body_context group_opened = 2
body_context in_group = 3
body_context groups_closed = 4

unfoldable pub context_in : List Frame → ℕ
context_in [] = 0
context_in (frame p m ∷ σ) = body_context m

unfoldable pub pop_frame : List Frame → List Frame
pop_frame [] = []
pop_frame (f ∷ σ) = σ

unfoldable pub in_mode : BodyMode → List Frame → List Frame
in_mode m [] = []
in_mode m (frame p b ∷ σ) = frame p m ∷ σ

-- the open bodies after an act of the k-th declaration
unfoldable pub frames_after : List Frame → ℕ → ℕ → List Frame
frames_after σ k a =
    pick (eqb a 13) (field_done σ)
    (pick (eqb a 14) (frame k in_fields ∷ field_done σ)
    (pick (eqb a 15) (pop_frame σ)
    (pick (eqb a 17) (in_mode group_opened σ)
    (pick (eqb a 18) (in_mode groups_closed σ) σ))))

abbrev pub noted_in : List ℕ → List Frame → Hand → Noted
noted_in text σ p = noted (spots_in p) (declaration (parent_of σ) (is_under_extension σ) (heading_in text p))

-- what an act is to the definitions
unfoldable pub action_in : List ℕ → List Frame → ℕ → Hand → ℕ → ℕ → Span → Action
action_in text σ k p a kind x =
    pick (eqb a 0) stop
    (pick (notes a) (note (noted_in text σ p) (frames_after σ k a) (phase_in text (next_mode a) (pending_by p a kind x)))
    (move (frames_after σ k a) (phase_in text (next_mode a) (pending_by p a kind x))))
