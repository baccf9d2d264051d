-- The open bodies as code keeps them: the number of each, and whether a field in an extension was met.
use Rattle.std.specs.Prelude.{List, [], ◌∷◌, ℕ, zero, suc, false, get_or}
use Rattle.classes.specs.Lists.{pick}
use Rattle.definition_rules.specs.Declarations.{in_fields, in_group, Frame, frame}
use Rattle.table_order.specs.declared.Body.{Body}

abbrev pub frame_of : Body → Frame
frame_of b = frame b.number (pick b.extended in_group in_fields)

-- what stands past the open ones
abbrev pub empty_body : Body
empty_body = record { number = 0; extended = false }

-- the first n, the innermost first
unfoldable pub frames_of : List Body → ℕ → List Frame
frames_of bodies zero = []
frames_of bodies (suc n) = frame_of (get_or bodies n empty_body) ∷ frames_of bodies n
