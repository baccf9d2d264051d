use Rattle.std.proofs.Common.{rules}
use Rattle.classes.specs.Bytes.{is_blank}
use Rattle.message_tokens.proofs.Steps.{reads_back}
use Rattle.message_tokens.proofs.Cursor.next.Goals as goal

pub returns : goal.returns
returns c = λ base. reads_back base _ _ _ c.token.result (c.run_end-from.ensures is_blank (λ b r h. search rules)) (c.token.ensures base)
