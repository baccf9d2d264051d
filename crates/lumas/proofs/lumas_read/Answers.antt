use mathlib.Core.Path.{◌∙◌}
use Rattle.lumas.proofs.Hearing.{told_read}
use Rattle.lumas.proofs.lumas_read.Goals as goal

pub returns-clause-number : goal.returns-clause-number
returns-clause-number c = let t = told_read _ _ _ _ c.read.result c.read.ensures.result_value c.read.ensures.read_promise in c.told.ensures.number ∙ t.number

pub returns-clause-value_after : goal.returns-clause-value_after
returns-clause-value_after c = let t = told_read _ _ _ _ c.read.result c.read.ensures.result_value c.read.ensures.read_promise in c.told.ensures.value_after ∙ t.value

pub returns-clause-heard : goal.returns-clause-heard
returns-clause-heard c = let t = told_read _ _ _ _ c.read.result c.read.ensures.result_value c.read.ensures.read_promise in rw (c.told.ensures.number, c.told.ensures.value_after) t.heard

pub returns-clause-read_promise : goal.returns-clause-read_promise
returns-clause-read_promise c = let t = told_read _ _ _ _ c.read.result c.read.ensures.result_value c.read.ensures.read_promise in rw (c.told.ensures.number, c.told.ensures.value_after) t.promise
