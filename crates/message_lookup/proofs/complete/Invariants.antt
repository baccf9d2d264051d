use mathlib.Core.Path.{◌≡◌}
use Rattle.table_records.specs.Shown.{held_records}
use Rattle.message_lookup.specs.Seen.{complete_from}
use Rattle.message_lookup.proofs.Steps.{complete_on}
use Rattle.message_lookup.proofs.complete.Given as goal

abbrev pub invariant-loop-i : goal.invariant-loop-i
invariant-loop-i l = complete_on l.records.table.now l.records.unpacked.now l.records.count l.p l.seen l.i ≡ complete_from l.p l.seen 0 (held_records l.records)
