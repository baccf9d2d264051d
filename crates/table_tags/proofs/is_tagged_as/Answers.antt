use native.Mathlib.Omega.{arith}
use Rattle.classes.proofs.Rows.{same_length, same_not_last}
use Rattle.table_records.specs.Shown.{held_record}
use Rattle.table_tags.proofs.Searching.{other_label}
use Rattle.table_tags.proofs.is_tagged_as.Goals as goal

pub returns-then-label-word : goal.returns-then-label-word
returns-then-label-word c = other_label c.args.p c.args.word.now (held_record c.args.records.now c.args.i) (rw (← c.requires) (same_length c.args.label.now c.args.word.now (λ e. omega (arith, e, c.if-label-word.true))))

pub returns-then-last_byte : goal.returns-then-last_byte
returns-then-last_byte c = other_label c.args.p c.args.word.now (held_record c.args.records.now c.args.i) (rw (← c.requires) (same_not_last c.args.label.now c.args.word.now (λ e. omega (arith, e, c.if-last_byte.true, c.last_byte.ensures, c.last_byte-2.ensures))))
