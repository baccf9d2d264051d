use mathlib.Core.Path.{◌∙◌}
use Rattle.lumas.proofs.Hearing.{told_compile}
use Rattle.lumas.proofs.lumas_compile.Goals as goal

pub returns-clause-number : goal.returns-clause-number
returns-clause-number c = let t = told_compile _ _ c.compile.result c.compile.ensures.result_value c.compile.ensures.stuck_promise c.compile.ensures.endless_promise in c.told.ensures.number ∙ t.number

pub returns-clause-value_after : goal.returns-clause-value_after
returns-clause-value_after c = let t = told_compile _ _ c.compile.result c.compile.ensures.result_value c.compile.ensures.stuck_promise c.compile.ensures.endless_promise in c.told.ensures.value_after ∙ t.value

pub returns-clause-heard : goal.returns-clause-heard
returns-clause-heard c = let t = told_compile _ _ c.compile.result c.compile.ensures.result_value c.compile.ensures.stuck_promise c.compile.ensures.endless_promise in rw (c.told.ensures.number, c.told.ensures.value_after) t.heard

pub returns-clause-stuck_promise : goal.returns-clause-stuck_promise
returns-clause-stuck_promise c = let t = told_compile _ _ c.compile.result c.compile.ensures.result_value c.compile.ensures.stuck_promise c.compile.ensures.endless_promise in rw (c.told.ensures.number, c.told.ensures.value_after) t.stuck

pub returns-clause-endless_promise : goal.returns-clause-endless_promise
returns-clause-endless_promise c = let t = told_compile _ _ c.compile.result c.compile.ensures.result_value c.compile.ensures.stuck_promise c.compile.ensures.endless_promise in rw (c.told.ensures.number, c.told.ensures.value_after) t.endless

pub returns-clause-fits : goal.returns-clause-fits
returns-clause-fits c = let t = told_compile _ _ c.compile.result c.compile.ensures.result_value c.compile.ensures.stuck_promise c.compile.ensures.endless_promise in rw c.told.ensures.number t.fits
