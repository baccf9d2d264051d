use Rattle.classes.specs.Bytes.{is_string_byte}
use Rattle.std.proofs.Common.{◌<◌, length, arith, rules}
use Rattle.message_tokens.proofs.CutAt.{rest_open, byte_in}
use Rattle.message_tokens.proofs.Steps.{step_string}
use Rattle.message_tokens.proofs.string.Goals as goal
use Rattle.message_tokens.proofs.string.Goals.{else-to-s-via-then-to-s+else-s-to-eq34, else-to-s-via-else-to-s}

pub returns-then-s-to-eq34 : goal.returns-then-s-to-eq34
returns-then-s-to-eq34 c = λ base. step_string base _ _ c.requires.0 _ c.requires.1 (c.run_end-to.ensures is_string_byte (λ b r h. search rules)) c.if-s-to-eq34.true

pub returns : goal.returns
returns c = λ base. rest_open base _ _ c.run_end-to.result c.requires.0 c.requires.1 (c.run_end-to.ensures is_string_byte (λ b r h. search rules)) (λ z.
    let h : c.run_end-to.result < length c.args.s.now = byte_in c.args.s.now c.run_end-to.result 34 (omega arith) z in
    elim c.else-to-s.branch [
      | else-to-s-via-then-to-s+else-s-to-eq34 w ↦ w.if-s-to-eq34.false z
      | else-to-s-via-else-to-s w ↦ omega (arith, h, w.if-to-s.false)
    ])
