use mathlib.Core.Path.{refl, ap}
use borrow.Author.Rules.{rules}
use mathlib.Core.List.{List}
use Prim.Native.Nat.{◌-◌}
use native.Mathlib.Omega.{arith}
use lib.Seq.{sets}
use Rattle.reading_rules.specs.Record.{Record}
use Rattle.definition_writer.specs.Written.{encode_cut}
use Rattle.definition_writer.proofs.WriteLaws.{records_start, length_start, bytes_more, length_more, bytes_end, length_end}
use Rattle.definition_writer.proofs.write_records.Goals as goal

pub loop-i-init : goal.loop-i-init
loop-i-init c = (length_start c.args.noted.now.text.now c.args.noted.now.cells.now c.args.noted.now.count, ap (λ (l : List Record). sets c.args.table.now 0 (encode_cut l)) (records_start c.args.noted.now.text.now c.args.noted.now.cells.now c.args.noted.now.count), omega arith, omega arith, refl)

pub loop-i-preserved : goal.loop-i-preserved
loop-i-preserved c = (length_more c.args.noted.now.text.now c.args.noted.now.cells.now c.args.noted.now.count c.loop-i.i c.loop-i.at _ c.record_length-at.ensures.0 c.loop-i-test.true _ c.loop-i.invariant.0, bytes_more c.args.noted.now.text.now c.args.noted.now.cells.now c.args.noted.now.count c.loop-i.i c.loop-i.at _ c.record_length-at.ensures.0 c.loop-i-test.true _ _ _ c.loop-i.invariant.1 c.write_record.ensures, omega (arith, c.record_length-at.ensures.1, c.loop-i.invariant.2), omega arith, search rules)

pub returns : goal.returns
returns c = record { size = length_end c.args.noted.now.text.now c.args.noted.now.cells.now c.args.noted.now.count c.loop-i.i c.loop-i.at c.loop-i-test.false _ c.loop-i.invariant.0; bytes = bytes_end c.args.noted.now.text.now c.args.noted.now.cells.now c.args.noted.now.count c.loop-i.i c.loop-i.at c.loop-i-test.false _ _ c.loop-i.invariant.1 }
