use mathlib.Core.Path.{sym}
use Rattle.classes.proofs.Stores.{sets_out}
use Rattle.definition_writer.specs.Written.{cut_bytes, record_written}
use Rattle.definition_writer.proofs.WriteLaws.{record_is}
use Rattle.definition_writer.proofs.write_record.Goals as goal

pub returns-then-table-at : goal.returns-then-table-at
returns-then-table-at c = sym (sets_out (cut_bytes (record_written c.args.noted.now.text.now c.args.noted.now.cells.now c.args.noted.now.count c.args.i)) c.args.table.now c.args.at c.if-table-at.true)

pub returns : goal.returns
returns c = record_is c.args.noted.now.text.now c.args.noted.now.cells.now c.args.noted.now.count c.args.i c.args.at _ _ _ _ _ _ _ _ _ _ _ _ _ _ _ _ _ _ _ _ _ _ _ c.label-label.ensures c.kind-kind.ensures c.cell-parent.ensures c.flags-flags.ensures c.counts-counts.ensures c.limits-limits.ensures c.target-target.ensures c.low-lo.ensures c.high-hi.ensures c.low-least.ensures c.high-most.ensures c.put_cut.ensures c.put_cut-2.ensures c.put_cut-3.ensures c.put_cut-4.ensures c.put_cut-5.ensures c.put_cut-6.ensures c.put_limit.ensures c.put_limit-2.ensures c.put_cut-7.ensures c.put_cut-8.ensures c.put_bytes.ensures
