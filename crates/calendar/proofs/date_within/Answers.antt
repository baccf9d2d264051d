use mathlib.Core.Path.{sym}
use native.Mathlib.Omega.{arith}
use Rattle.calendar.proofs.Laws.{date_parts}
use Rattle.calendar.proofs.date_within.Goals as goal

pub returns : goal.returns
returns c = sym (date_parts c.args.w.now _ _ _ _ c.requires (omega arith) c.pair_at-month.ensures.0 c.pair_at-day.ensures.0 c.days_of.ensures)
