use Rattle.message_tokens.proofs.Heads.{here_opening, here_closing}
use Rattle.message_tokens.proofs.Cursor.brace_or_next.Goals as goal

pub returns-in-123 : goal.returns-in-123
returns-in-123 c = λ base. rw c.mark.ensures (here_opening base c.args.s.now _ c.if-at-s.true c.in-123.is)

pub returns-in-125 : goal.returns-in-125
returns-in-125 c = λ base. rw c.mark-in-125.ensures (here_closing base c.args.s.now _ c.if-at-s.true c.in-125.is)
