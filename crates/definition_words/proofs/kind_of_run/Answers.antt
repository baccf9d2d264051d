use native.Mathlib.Omega.{arith}
use Rattle.definition_words.proofs.WordLaws.{kind_far}
use Rattle.definition_words.proofs.kind_of_run.Goals as goal

pub returns-in_default-33 : goal.returns-in_default-33
returns-in_default-33 c = kind_far c.args.w.now (omega arith) (omega arith) (omega arith) (omega arith) (omega arith)

pub returns-in_default-48 : goal.returns-in_default-48
returns-in_default-48 c = kind_far c.args.w.now (omega arith) (omega arith) (omega arith) (omega arith) (omega arith)
