use mathlib.Core.Path.{◌∙◌, sym}
use Rattle.table_records.specs.Shown.{held_record}
use Rattle.message_lookup.proofs.Judging.{word_bool, word_int, word_unquoted, word_date, word_time, word_none}
use Rattle.message_lookup.proofs.judge_word.Goals as goal

pub returns-in-2-clause-number : goal.returns-in-2-clause-number
returns-in-2-clause-number c = c.form_then_range.ensures.number ∙ rw c.is_bool.ensures (word_bool (held_record c.args.records.now c.args.q) c.args.text.now ((sym c.kind_at-kind.ensures) ∙ c.in-2.is))

pub returns-in-3-clause-number : goal.returns-in-3-clause-number
returns-in-3-clause-number c = c.form_then_range-in-3.ensures.number ∙ rw (c.is_int.ensures, c.int_in_range.ensures) (word_int (held_record c.args.records.now c.args.q) c.args.text.now ((sym c.kind_at-kind.ensures) ∙ c.in-3.is))

pub returns-in-5-clause-number : goal.returns-in-5-clause-number
returns-in-5-clause-number c = c.form_then_range-in-5.ensures.number ∙ rw c.length_in_range.ensures (word_unquoted (held_record c.args.records.now c.args.q) c.args.text.now ((sym c.kind_at-kind.ensures) ∙ c.in-5.is))

pub returns-in-6-clause-number : goal.returns-in-6-clause-number
returns-in-6-clause-number c = c.judge_date.ensures.number ∙ word_date (held_record c.args.records.now c.args.q) c.args.text.now ((sym c.kind_at-kind.ensures) ∙ c.in-6.is)

pub returns-in-7-clause-number : goal.returns-in-7-clause-number
returns-in-7-clause-number c = c.judge_time.ensures.number ∙ word_time (held_record c.args.records.now c.args.q) c.args.text.now ((sym c.kind_at-kind.ensures) ∙ c.in-7.is)

pub returns-in_default-clause-number : goal.returns-in_default-clause-number
returns-in_default-clause-number c = word_none (held_record c.args.records.now c.args.q) c.args.text.now (λ e. c.in_default.in_default-own.rest.0.0.0.0.1 (c.kind_at-kind.ensures ∙ e)) (λ e. c.in_default.in_default-own.rest.0.0.0.1 (c.kind_at-kind.ensures ∙ e)) (λ e. c.in_default.in_default-own.rest.0.0.1 (c.kind_at-kind.ensures ∙ e)) (λ e. c.in_default.in_default-own.rest.0.1 (c.kind_at-kind.ensures ∙ e)) (λ e. c.in_default.in_default-own.rest.1 (c.kind_at-kind.ensures ∙ e))
