use mathlib.Core.Path.{◌≡◌}
use Prim.Native.Nat.{◌≤◌, ◌-◌, ◌+◌, ◌*◌}
use lib.ListN.{length}
use lib.Seq.{sets}
use Rattle.definition_rules.specs.Table.{encode}
use Rattle.definition_writer.specs.Written.{records_written, records_after, encode_cut}
use Rattle.definition_writer.proofs.write_records.Given as goal

abbrev pub invariant-loop-i : goal.invariant-loop-i
invariant-loop-i l = (length (encode (records_written l.noted.text.now l.noted.cells.now l.noted.count)) ≡ l.at + length (encode (records_after l.noted.text.now l.noted.cells.now l.noted.count l.i))) × (sets l.initial.table 0 (encode_cut (records_written l.noted.text.now l.noted.cells.now l.noted.count)) ≡ sets l.table l.at (encode_cut (records_after l.noted.text.now l.noted.cells.now l.noted.count l.i))) × (l.at ≤ 65559 * l.i) × (l.i ≤ l.noted.count) × (length l.table ≡ length l.initial.table)
