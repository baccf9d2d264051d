-- The state after an act.
use Rattle.std.specs.Prelude.{List, [], ◌∷◌, ℕ, ◌+◌, ◌-◌, ◌%◌, eqb, leb, ltb, get_or, set}
use Rattle.classes.specs.Lists.{pick}
use Rattle.numbers.specs.Limits.{depth_limit, parameter_limit, none16}
use Rattle.definition_automaton.specs.Names.{at_start_mode, fields_part, opened_part, group_part, closed_part, top_context, opened_context, group_context, closed_context, end_heading, open_body, close_body, open_group, close_group}
use Rattle.definition_automaton.specs.Acts.{next_mode}

-- where the automaton stands, in numbers: the mode, the open bodies (their parameters' numbers and how far each body is),
-- the declarations so far, the place of the 257th name
pub record Stand : Type 0 where
  pub mode : ℕ
  pub depth : ℕ
  pub numbers : List ℕ
  pub bodies : List ℕ
  pub count : ℕ
  pub over : ℕ

abbrev pub state : ℕ → ℕ → List ℕ → List ℕ → ℕ → ℕ → Stand
state m d ns bs c o = record { mode = m; depth = d; numbers = ns; bodies = bs; count = c; over = o }

abbrev pub started : Stand
started = state at_start_mode 0 (0 ∷ 0 ∷ 0 ∷ 0 ∷ 0 ∷ 0 ∷ 0 ∷ 0 ∷ []) (0 ∷ 0 ∷ 0 ∷ 0 ∷ 0 ∷ 0 ∷ 0 ∷ 0 ∷ []) 0 0

unfoldable pub entry_of : List ℕ → ℕ → ℕ
entry_of row i = pick (ltb i depth_limit) (get_or row i 0) 0

unfoldable pub body_after : ℕ → ℕ
body_after m = pick (eqb m opened_part) group_part m

unfoldable pub context_number : ℕ → ℕ
context_number m = pick (ltb m closed_part) (m + 1) closed_context

unfoldable pub context_of : Stand → ℕ
context_of s = pick (eqb s.depth 0) top_context (context_number (entry_of s.bodies (s.depth - 1)))

unfoldable pub parent_number : Stand → ℕ
parent_number s = pick (eqb s.depth 0) none16 (entry_of s.numbers (s.depth - 1))

unfoldable pub extension_flag : ℕ → ℕ
extension_flag context = pick (eqb context opened_context) 1 (pick (eqb context group_context) 1 0)

unfoldable pub with_body : Stand → ℕ → Stand
with_body s m = pick (eqb s.depth 0) s (pick (leb depth_limit (s.depth - 1)) s (state s.mode s.depth s.numbers (set s.bodies (s.depth - 1) m) s.count s.over))

unfoldable pub field_done_of : Stand → Stand
field_done_of s = pick (eqb s.depth 0) s (with_body s (body_after (entry_of s.bodies (s.depth - 1))))

unfoldable pub pushed_of : Stand → Stand
pushed_of s = pick (leb depth_limit s.depth) s (state s.mode (s.depth + 1) (set s.numbers s.depth (s.count % 65_536)) (set s.bodies s.depth fields_part) s.count s.over)

abbrev pub popped_of : Stand → Stand
popped_of s = state s.mode (s.depth - 1) s.numbers s.bodies s.count s.over

unfoldable pub over_of : ℕ → ℕ → ℕ → ℕ
over_of count over name = pick (eqb count parameter_limit) name over

unfoldable pub more_of : ℕ → ℕ
more_of count = pick (ltb count 65_536) (count + 1) count

abbrev pub counted_of : Stand → ℕ → Stand
counted_of s name = state s.mode s.depth s.numbers s.bodies (more_of s.count) (over_of s.count s.over name)

abbrev pub mode_moved : Stand → ℕ → Stand
mode_moved s a = state (next_mode a) s.depth s.numbers s.bodies s.count s.over

unfoldable pub after_of : Stand → ℕ → ℕ → Stand
after_of s a name =
    pick (eqb a end_heading) (counted_of (field_done_of (mode_moved s a)) name)
    (pick (eqb a open_body) (counted_of (pushed_of (field_done_of (mode_moved s a))) name)
    (pick (eqb a close_body) (popped_of (mode_moved s a))
    (pick (eqb a open_group) (with_body (mode_moved s a) opened_part)
    (pick (eqb a close_group) (with_body (mode_moved s a) closed_part) (mode_moved s a)))))
