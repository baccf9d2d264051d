use mathlib.Core.Path.{refl, ◌∙◌}
use Rattle.table_records.proofs.Fields.{unpacked_all}
use Rattle.table_records.proofs.unpack.Goals as goal

pub returns : goal.returns
returns c = λ h l. unpacked_all c.args.table.now c.args.at c.args.unpacked.now _ c.args.i c.args.at c.pair.result c.pair-2.result c.pair-3.result c.pair-4.result c.pair-5.result c.int.result c.int-2.result c.pair-6.result c.pair-7.result refl c.pair.ensures.0 c.pair-2.ensures.0 c.pair-3.ensures.0 c.pair-4.ensures.0 c.pair-5.ensures.0 c.int.ensures c.int-2.ensures c.pair-6.ensures.0 c.pair-7.ensures.0 (c.keep-10.ensures ∙ rw (c.keep-9.ensures, c.keep-8.ensures, c.keep-7.ensures, c.keep-6.ensures, c.keep-5.ensures, c.keep-4.ensures, c.keep-3.ensures, c.keep-2.ensures, c.keep.ensures)) h l
