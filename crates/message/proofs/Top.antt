-- Number 20, and what the reader's answer promises.
use mathlib.Core.Path.{◌≡◌, ap, sym, ◌∙◌, subst}
use mathlib.Core.Bool.{true, false}
use mathlib.Core.List.{List}
use Prim.Native.Nat.{ℕ, ◌^◌, ◌<◌}
use lib.ListN.{length, get_or}
use Rattle.numbers.specs.Limits.{parameter_limit}
use Rattle.table_rules.specs.RecordRules.{table_rules}
use Rattle.message_rules.specs.Verdict.{MessageAnswer, refusal, with_room, written, room_free, or_empty, records_in, read_with, rows_with, read_answer, rows_after}
use Rattle.message_rules.specs.Promise.{ReadPromise}
use Rattle.message_rules.proofs.Compiled.{read_promise}
use Rattle.table_records.specs.Stored.{records_at}
use Rattle.table_walk.specs.Walked.{RecordsCounted}

-- ---- 20

pub bad_table : (table message lent : List ℕ) → false ≡ table_rules parameter_limit table → (refusal 20 0 ≡ read_answer table message (length lent)) × (lent ≡ rows_after table message lent)
unfolding read_answer rows_after
bad_table table message lent e = (rw (← e, read_answer), rw (← e, rows_after))

-- the records that were walked are the table's
records_are : (table unpacked : List ℕ) (n : ℕ) → RecordsCounted table unpacked n → records_in table ≡ records_at table unpacked n
unfolding records_in or_empty
records_are table unpacked n c = ap or_empty c.these

pub good_table : (table message lent after unpacked : List ℕ) (n : ℕ) (a : MessageAnswer) → true ≡ table_rules parameter_limit table → RecordsCounted table unpacked n → a ≡ with_room (length lent) (room_free (records_at table unpacked n) message) → after ≡ written lent (room_free (records_at table unpacked n) message) → (a ≡ read_answer table message (length lent)) × (after ≡ rows_after table message lent)
unfolding read_answer rows_after read_with rows_with
good_table table message lent after unpacked n a e c x y =
    let q = records_are table unpacked n c in
    (x ∙ rw (← e, read_answer, q), y ∙ rw (← e, rows_after, q))

-- ---- the promise

pub promised : (table message lent after : List ℕ) (a : MessageAnswer) → ((i : ℕ) → get_or table i 0 < 2 ^ 8) → (a ≡ read_answer table message (length lent)) × (after ≡ rows_after table message lent) → (a ≡ read_answer table message (length lent)) × ((after ≡ rows_after table message lent) × ReadPromise table message lent a after)
promised table message lent after a h x =
    (x.0, (x.1, subst (λ b. ReadPromise table message lent b after) (sym x.0) (subst (λ l. ReadPromise table message lent (read_answer table message (length lent)) l) (sym x.1) (read_promise table message lent h))))
