use mathlib.Core.Path.{◌∙◌}
use Rattle.table_records.specs.Shown.{held_record}
use Rattle.message_lookup.proofs.Judging.{string_by}
use Rattle.message_lookup.proofs.judge_string.Goals as goal

pub returns-clause-number : goal.returns-clause-number
returns-clause-number c = c.form_then_range.ensures.number ∙ rw (c.kind_at.ensures, c.length_in_range.ensures) (string_by (held_record c.args.records.now c.args.q) c.args.text.now)
