use native.Mathlib.Omega.{arith}
use Rattle.message_frame.proofs.AtToken.{step_of_opening}
use Rattle.message_values.proofs.Parts.{struct_stopped}
use Rattle.message_values.proofs.open_brace.Goals as goal

pub returns-in-Opening : goal.returns-in-Opening
returns-in-Opening c = step_of_opening _ _ _ c.head-h.result (c.head-h.ensures _) c.in-Opening.is

pub overflow_add-result : goal.overflow_add-result
overflow_add-result c = omega (arith, (c.head-h.ensures 0).within, c.requires)

pub returns-in_default : goal.returns-in_default
returns-in_default c = struct_stopped _ _ _ c.head-h.result (c.head-h.ensures _) _ c.in_default.not-Opening c.unfit.ensures
