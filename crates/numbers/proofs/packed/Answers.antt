use Rattle.numbers.proofs.Packing.{one_digit, packed_none}
use Rattle.numbers.proofs.packed.Goals as goal

pub returns-then-x-lt10 : goal.returns-then-x-lt10
returns-then-x-lt10 c = rw c.from.ensures (one_digit _ c.if-x-lt10.true)

pub returns-then-x-gt99999999 : goal.returns-then-x-gt99999999
returns-then-x-gt99999999 c = packed_none _ c.if-x-gt99999999.true
