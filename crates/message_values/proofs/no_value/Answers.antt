use native.Mathlib.Omega.{arith}
use Rattle.message_values.proofs.Parts.{none_stopped}
use Rattle.message_values.proofs.no_value.Goals as goal

pub overflow_add-result : goal.overflow_add-result
overflow_add-result c = omega (arith, (c.head-h.ensures 0).within, c.requires)

pub returns : goal.returns
returns c = λ before after. none_stopped c.args.f.base c.args.s.now c.args.f.at c.head-h.result (c.head-h.ensures c.args.f.base) _ c.unfit.ensures
