use lib.ListN.{take}
use Rattle.text.specs.Text.{Added}
use Rattle.text.proofs.Page.text.Given as goal

abbrev pub invariant-loop-b : goal.invariant-loop-b
invariant-loop-b l = Added (take l.b-index l.text) l.initial.self l.self
