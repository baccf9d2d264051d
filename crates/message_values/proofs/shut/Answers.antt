use mathlib.Core.Path.{refl}
use native.Mathlib.Omega.{arith}
use Rattle.message_frame.proofs.AtToken.{step_of_closing}
use Rattle.message_values.proofs.Parts.{shut_stopped}
use borrow.Author.Rules.{rules}
use Rattle.message_values.proofs.shut.Goals as goal

pub overflow_add-f-in-Closing : goal.overflow_add-f-in-Closing
overflow_add-f-in-Closing c = omega (arith, (step_of_closing _ _ _ c.head-h.result (c.head-h.ensures 0) c.in-Closing.is).within, c.requires)

pub put_row-requires-clause-small : goal.put_row-requires-clause-small
put_row-requires-clause-small c = let w = step_of_closing c.args.f.base c.args.s.now c.args.at c.head-h.result (c.head-h.ensures c.args.f.base) c.in-Closing.is in search rules

pub returns-in-Closing : goal.returns-in-Closing
returns-in-Closing c = record { place = c.head-h.result.start; step = step_of_closing _ _ _ c.head-h.result (c.head-h.ensures _) c.in-Closing.is; written = c.put_row.ensures; same = refl }

pub overflow_add-result : goal.overflow_add-result
overflow_add-result c = omega (arith, (c.head-h.ensures 0).within, c.requires)

pub returns-in_default : goal.returns-in_default
returns-in_default c = shut_stopped _ _ _ c.head-h.result (c.head-h.ensures _) c.in_default.not-Closing
