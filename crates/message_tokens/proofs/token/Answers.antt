use Rattle.std.proofs.Common.{sym, refl, ◌∙◌, arith, rules}
use Rattle.classes.specs.Bytes.{is_word_byte}
use Rattle.classes.proofs.Rows.{run_more}
use Rattle.message_tokens.proofs.CutAt.{rest_end, rest_bad}
use Rattle.message_tokens.proofs.Steps.{step_equals, step_comma, step_opening, step_closing, step_word}
use Rattle.message_tokens.proofs.token.Goals as goal

pub returns-then-s-from : goal.returns-then-s-from
returns-then-s-from c = λ base. (rest_end base _ _ c.if-s-from.true, refl)

pub returns-then-is_word_byte : goal.returns-then-is_word_byte
returns-then-is_word_byte c = λ base. step_word base _ _ c.if-s-from.false _ (sym c.is_word_byte.ensures ∙ c.if-is_word_byte.true) (c.run_end-to.ensures is_word_byte (λ b r h. search rules) ∙ sym (run_more is_word_byte c.args.s.now _ c.if-s-from.false (sym c.is_word_byte.ensures ∙ c.if-is_word_byte.true)))

pub returns-in-61 : goal.returns-in-61
returns-in-61 c = λ base. rw c.mark.ensures (step_equals base _ _ c.if-s-from.false c.in-61.is)

pub returns-in-44 : goal.returns-in-44
returns-in-44 c = λ base. rw c.mark-in-44.ensures (step_comma base _ _ c.if-s-from.false c.in-44.is)

pub returns-in-123 : goal.returns-in-123
returns-in-123 c = λ base. rw c.mark-in-123.ensures (step_opening base _ _ c.if-s-from.false c.in-123.is)

pub returns-in-125 : goal.returns-in-125
returns-in-125 c = λ base. rw c.mark-in-125.ensures (step_closing base _ _ c.if-s-from.false c.in-125.is)

pub returns-in_default : goal.returns-in_default
returns-in_default c = λ base. rest_bad base _ _ c.if-s-from.false (sym c.is_word_byte.ensures ∙ c.if-is_word_byte.false) (λ e. omega (arith, e)) (λ e. omega (arith, e)) (λ e. omega (arith, e)) (λ e. omega (arith, e)) (λ e. omega (arith, e))
