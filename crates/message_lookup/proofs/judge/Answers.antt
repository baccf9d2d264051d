use mathlib.Core.Path.{◌∙◌}
use Rattle.reading_rules.specs.Record.{Record}
use Rattle.reading_rules.specs.Schema.{schema_of}
use Rattle.reading_rules.specs.Value.{value_number}
use Rattle.message_lookup.specs.Questions.{text_token}
use Rattle.message_lookup.proofs.Steps.{past, here}
use Rattle.message_lookup.proofs.Judging.{value_blank}
use Rattle.message_lookup.proofs.judge.Goals as goal

pub returns-then-records-q-clause-number : goal.returns-then-records-q-clause-number
unfolding schema_of
returns-then-records-q-clause-number c = value_blank c.args.text.now c.args.quoted ∙ past (λ (r : Record). value_number r (text_token c.args.quoted c.args.text.now)) _ _ _ c.args.q c.if-records-q.true

pub returns-then-quoted-clause-number : goal.returns-then-quoted-clause-number
unfolding schema_of
returns-then-quoted-clause-number c = here (λ (r : Record). value_number r (text_token c.args.quoted c.args.text.now)) _ _ _ c.args.q c.if-records-q.false (rw c.if-quoted.true c.judge_string.ensures.number)

pub returns-clause-number : goal.returns-clause-number
unfolding schema_of
returns-clause-number c = here (λ (r : Record). value_number r (text_token c.args.quoted c.args.text.now)) _ _ _ c.args.q c.if-records-q.false (rw c.if-quoted.false c.judge_word.ensures.number)
