use Rattle.std.proofs.Common.{rules}
use Rattle.classes.specs.Bytes.{is_run_byte}
use mathlib.Core.Path.{sym, ◌∙◌}
use Rattle.definition_scanner.proofs.Steps.{end_here, run_here, blank_here, mark_here, bad_here}
use Rattle.definition_scanner.proofs.turn_at.Goals as goal

pub returns-then-text-at : goal.returns-then-text-at
returns-then-text-at c = end_here _ _ c.if-text-at.true

pub returns-then-is_run_byte : goal.returns-then-is_run_byte
returns-then-is_run_byte c = run_here _ _ c.if-text-at.false (sym c.is_run_byte.ensures ∙ c.if-is_run_byte.true) (c.run_end-e.ensures is_run_byte (λ b r k. search rules))

pub returns-then-is_blank : goal.returns-then-is_blank
returns-then-is_blank c = blank_here _ _ c.if-text-at.false (sym c.is_run_byte.ensures ∙ c.if-is_run_byte.false) (sym c.is_blank.ensures ∙ c.if-is_blank.true)

pub returns-then-is_mark : goal.returns-then-is_mark
returns-then-is_mark c = mark_here _ _ c.if-text-at.false (sym c.is_run_byte.ensures ∙ c.if-is_run_byte.false) (sym c.is_blank.ensures ∙ c.if-is_blank.false) (sym c.is_mark.ensures ∙ c.if-is_mark.true)

pub returns : goal.returns
returns c = bad_here _ _ c.if-text-at.false (sym c.is_run_byte.ensures ∙ c.if-is_run_byte.false) (sym c.is_blank.ensures ∙ c.if-is_blank.false) (sym c.is_mark.ensures ∙ c.if-is_mark.false) c.if-b-eq47.false
