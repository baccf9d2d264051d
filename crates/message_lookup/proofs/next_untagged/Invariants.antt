use mathlib.Core.Path.{◌≡◌}
use Rattle.reading_rules.specs.Schema.{is_untagged_of, first}
use Rattle.message_lookup.specs.Questions.{untagged_in}
use Rattle.message_lookup.proofs.Steps.{first_from}
use Rattle.message_lookup.proofs.next_untagged.Given as goal

abbrev pub invariant-loop-at : goal.invariant-loop-at
invariant-loop-at l = first_from l.records.table.now l.records.unpacked.now l.records.count (is_untagged_of l.p) l.at ≡ first (untagged_in l.records l.p l.i)
