use mathlib.Core.Path.{sym, ◌∙◌}
use native.Mathlib.Omega.{arith}
use Rattle.table_walk.proofs.Walking.{length_short, length_wrong, length_flags, length_cut, length_whole}
use Rattle.table_walk.proofs.length_at.Goals as goal

pub returns-then-is_cut : goal.returns-then-is_cut
returns-then-is_cut c = length_short c.args.table.now c.args.at (omega arith)

pub returns-then-size-label : goal.returns-then-size-label
returns-then-size-label c = length_wrong c.args.table.now c.args.at (omega arith) (λ e. omega arith)

pub returns-then-u16_at-ge-FLAGS_END : goal.returns-then-u16_at-ge-FLAGS_END
returns-then-u16_at-ge-FLAGS_END c = length_flags c.args.table.now c.args.at (omega arith) (omega arith) (omega arith)

pub returns-then-left-size : goal.returns-then-left-size
returns-then-left-size c = length_cut c.args.table.now c.args.at (omega arith) (omega arith) (omega arith) (omega arith)

pub returns : goal.returns
returns c = (c.from-size.ensures ∙ c.u16_at.ensures ∙ sym (length_whole c.args.table.now c.args.at (omega arith) (omega arith) (omega arith) (omega arith)), omega arith, omega arith)
