use Rattle.std.proofs.Common.{◌≡◌, true}
use Rattle.message_tokens.specs.Turn.{Plains}
use Rattle.message_tokens.proofs.sixteen.Given as goal

abbrev pub invariant-loop-b : goal.invariant-loop-b
invariant-loop-b l = l.ok ≡ true → Plains l.s l.i l.b-index
