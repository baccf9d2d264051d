use Prim.Native.Nat.{◌-◌, ◌*◌, ◌+◌}
use lib.ListN.{length}
use Rattle.message_lookup.specs.Questions.{schema_of_records, untagged_in}
use Rattle.message_reader.specs.Turning.{Bodying}
use Rattle.message_reader.proofs.Steps.{Listing, Choosing}
use Rattle.message_reader.proofs.+reading.Given as goal

abbrev pub invariant-fields-loop-q : goal.invariant-fields-loop-q
invariant-fields-loop-q l = Bodying (schema_of_records l.records) l.s l.initial.g l.g l.inside l.initial.rows l.rows l.seen (untagged_in l.records l.g.parameter l.i)

abbrev pub decreases-fields-loop-q : goal.decreases-fields-loop-q
decreases-fields-loop-q l = length l.s - l.g.at

abbrev pub invariant-list-loop-v : goal.invariant-list-loop-v
invariant-list-loop-v l = Listing (schema_of_records l.records) l.s l.initial.g l.g l.initial.rows l.rows

abbrev pub decreases-list-loop-v : goal.decreases-list-loop-v
decreases-list-loop-v l = length l.s - l.g.at

abbrev pub invariant-value-loop-f : goal.invariant-value-loop-f
invariant-value-loop-f l = Choosing (schema_of_records l.records) l.s l.f l.g l.records.count l.initial.rows l.rows

abbrev pub decreases-value-loop-f : goal.decreases-value-loop-f
decreases-value-loop-f l = length l.s - l.g.at

-- a body is deeper than what it stands in; at one depth the functions go from a body's fields down to its body
abbrev pub decreases-body : goal.decreases-body
decreases-body l = 8 * l.f.depth + 0

abbrev pub decreases-braced : goal.decreases-braced
decreases-braced l = 8 * l.f.depth + 1

abbrev pub decreases-plain_value : goal.decreases-plain_value
decreases-plain_value l = 8 * l.f.depth + 2

abbrev pub decreases-value : goal.decreases-value
decreases-value l = 8 * l.f.depth + 3

abbrev pub decreases-list_value : goal.decreases-list_value
decreases-list_value l = 8 * l.f.depth + 4

abbrev pub decreases-element : goal.decreases-element
decreases-element l = 8 * l.f.depth + 5

abbrev pub decreases-list : goal.decreases-list
decreases-list l = 8 * l.f.depth + 6

abbrev pub decreases-fields : goal.decreases-fields
decreases-fields l = 8 * l.f.depth + 7
