use Rattle.table_records.specs.Cells.{cell_number}
use Rattle.table_records.proofs.Laws.{there}
use Rattle.table_records.proofs.Fields.{past_limit, past_end, kept_there, kept_out}
use Rattle.table_records.proofs.keep.Goals as goal

pub returns-then-i-ge-PARAMETER_LIMIT : goal.returns-then-i-ge-PARAMETER_LIMIT
returns-then-i-ge-PARAMETER_LIMIT c = kept_out c.args.unpacked.now c.args.i (cell_number c.args.k) c.args.x (past_limit c.args.unpacked.now c.args.i c.if-i-ge-PARAMETER_LIMIT.true)

pub returns-then-at-unpacked : goal.returns-then-at-unpacked
returns-then-at-unpacked c = rw c.number.ensures.0 (kept_there c.args.unpacked.now c.args.i (cell_number c.args.k) c.args.x (there c.args.unpacked.now c.args.i c.if-i-ge-PARAMETER_LIMIT.false c.if-at-unpacked.true))

pub returns-else-at-unpacked : goal.returns-else-at-unpacked
returns-else-at-unpacked c = kept_out c.args.unpacked.now c.args.i (cell_number c.args.k) c.args.x (past_end c.args.unpacked.now c.args.i c.if-i-ge-PARAMETER_LIMIT.false c.if-at-unpacked.false)
