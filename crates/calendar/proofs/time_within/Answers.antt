use mathlib.Core.Path.{sym}
use Rattle.calendar.proofs.Laws.{time_parts}
use Rattle.calendar.proofs.time_within.Goals as goal

pub returns : goal.returns
returns c = rw (c.pair_at.ensures.0, c.pair_at-2.ensures.0, c.pair_at-3.ensures.0) (sym (time_parts c.args.w.now c.requires))
